-- The questions that a walk asks are those that matter.
use Rattle.std.proofs.Common.{◌≡◌, ◌≢◌, ℕ, suc, ◌-◌, ◌<◌, ◌≤◌, ◌^◌, inl, inr, Bool, true, false, List, refl, sym, ap, ◌∙◌, arith}
use Rattle.std.proofs.lemmas.Bool.{cases_eq}
use Rattle.rx_table.specs.Rows.{table_of}
use Rattle.rx_table.specs.States.{is_set}
use Rattle.rx_diagram.specs.declared.node.Edge.{Edge}
use Rattle.rx_diagram.specs.declared.node.Edge.TheVariants.{Act, To}
use Rattle.rx_diagram.specs.declared.node.Node.{Node}
use Rattle.rx_diagram.specs.Nodes.{node, level, edge_of, answers_of, IsReduced, final, From}
use Rattle.rx_diagram.specs.Asked.{Matters, number}
use Rattle.rx_diagram.proofs.Apart.{index_small}
use Rattle.rx_diagram.proofs.Walks.{from_next, final-to, final_same}
use Rattle.rx_diagram.proofs.Differ.{Parting, put, put_here, put_other, differ}
use Rattle.rx_diagram.proofs.Numbers.{bit-number, number-small, bit-above}

-- from the root the answers of each number lead to its table
pub record IsRight (ns : List Node) (root : Edge) : Type 0 where
  pub reduced : IsReduced ns
  pub from : From ns 0 root
  pub right : (n : ℕ) → n < 2 ^ 19 → final ns (answers_of n) root ≡ Act (table_of n)

-- the answers of n before question i lead from the root to the edge
pub record Reaches (ns : List Node) (root : Edge) (n i : ℕ) (e : Edge) : Type 0 where
  pub from : From ns i e
  pub same : (b : ℕ → Bool) → ((j : ℕ) → j < i → b j ≡ is_set n j) → final ns b root ≡ final ns b e

-- to begin with
pub reaches_root : (ns : List Node) (root : Edge) (n : ℕ) → From ns 0 root
    → Reaches ns root n 0 root
reaches_root ns root n f = record { from = f; same = λ b h. refl }

-- and along a node's edge
pub reaches_next : (ns : List Node) (root : Edge) (n i k : ℕ) → IsReduced ns
    → Reaches ns root n i (To k)
    → Reaches ns root n (suc (level ns k)) (edge_of (is_set n (level ns k)) (node ns k))
reaches_next ns root n i k r p =
    let l = level ns k in
    record {
      from = from_next ns r k p.from.0 (is_set n l);
      same = λ b h. p.same b (λ j lt. let le = p.from.1 in h j (omega arith))
          ∙ final-to ns r b k p.from.0
          ∙ ap (λ v. final ns b (edge_of v (node ns k))) (h l (omega arith));
    }

-- the end of any answers is their table's action
right_of : (ns : List Node) (root : Edge) → IsRight ns root → (b : ℕ → Bool)
    → final ns b root ≡ Act (table_of (number 19 b))
right_of ns root w b =
    final_same ns w.reduced 0 b (answers_of (number 19 b)) root w.from
    (λ j le lt. sym (bit-number 19 b j lt))
    ∙ w.right (number 19 b) (number-small 19 b)

-- a node on the way asks a question that matters
pub matters : (ns : List Node) (root : Edge) → IsRight ns root → (n i k : ℕ)
    → Reaches ns root n i (To k) → Matters n (level ns k)
matters ns root w n i k p = record {
  one = number 19 (with_answer false);
  two = number 19 (with_answer true);
  one_in = number-small 19 (with_answer false);
  two_in = number-small 19 (with_answer true);
  one_before = λ j lt. bits false j (omega (arith, small)) ∙ early false j lt;
  two_before = λ j lt. bits true j (omega (arith, small)) ∙ early true j lt;
  here = λ h. let e : false ≡ true = sym (bits false l small ∙ put_here l false a) ∙ h
      ∙ bits true l small ∙ put_here l true a in cc;
  others = other;
  apart = λ h. part.apart (sym (to_side false) ∙ right_of ns root w (with_answer false) ∙ ap Act h
      ∙ sym (right_of ns root w (with_answer true)) ∙ to_side true);
}
  where
    l : ℕ
    l = level ns k

    small : l < 19
    small = index_small (node ns k).state

    nd : Node
    nd = node ns k

    part : Parting ns (suc l) nd.no nd.yes (answers_of n)
    part = differ ns w.reduced (suc l) nd.no nd.yes (answers_of n)
        (from_next ns w.reduced k p.from.0 false) (from_next ns w.reduced k p.from.0 true)
        (w.reduced.two_edges k p.from.0)

    a : ℕ → Bool
    a = part.answers

    with_answer : Bool → ℕ → Bool
    with_answer v = put l v a

    bits : (v : Bool) (j : ℕ) → j < 19 → is_set (number 19 (with_answer v)) j ≡ put l v a j
    bits v j lt = bit-number 19 (with_answer v) j lt

    early : (v : Bool) (j : ℕ) → j < l → put l v a j ≡ is_set n j
    early v j lt = put_other l v a j (omega arith) ∙ part.before j (omega arith)

    to_side : (v : Bool) → final ns (with_answer v) root ≡ final ns a (edge_of v nd)
    to_side v = p.same (with_answer v) (λ j lt. let le = p.from.1 in early v j (omega arith))
        ∙ final-to ns w.reduced (with_answer v) k p.from.0
        ∙ ap (λ x. final ns (with_answer v) (edge_of x nd)) (put_here l v a)
        ∙ final_same ns w.reduced (suc l) (with_answer v) a (edge_of v nd)
        (from_next ns w.reduced k p.from.0 v) (λ j le lt. put_other l v a j (omega arith))

    other : (j : ℕ) → j ≢ l → is_set (number 19 (with_answer false)) j
        ≡ is_set (number 19 (with_answer true)) j
    other j ne = elim (cases_eq (suc j - 19) 0) [
      | inl e ↦ bits false j (omega arith) ∙ put_other l false a j ne
          ∙ sym (put_other l true a j ne) ∙ sym (bits true j (omega arith))
      | inr e ↦ bit-above (number 19 (with_answer false)) 19 j (number-small 19 (with_answer false))
          (omega arith)
          ∙ sym (bit-above (number 19 (with_answer true)) 19 j (number-small 19 (with_answer true))
          (omega arith))
    ]

-- a question that is passed over doesn't
pub matters_not : (ns : List Node) (root : Edge) → IsRight ns root → (n i j : ℕ) (e : Edge)
    → Reaches ns root n i e → i ≤ j → From ns (suc j) e → Matters n j → ⊥
matters_not ns root w n i j e p le from m = m.apart (same_action (sym (w.right m.one m.one_in)
    ∙ p.same (answers_of m.one) (λ k lt. m.one_before k (omega arith))
    ∙ final_same ns w.reduced (suc j) (answers_of m.one) (answers_of m.two) e from
    (λ k ge lt. m.others k (omega arith))
    ∙ sym (p.same (answers_of m.two) (λ k lt. m.two_before k (omega arith)))
    ∙ w.right m.two m.two_in))
  where
    same_action : Act (table_of m.one) ≡ Act (table_of m.two) → table_of m.one ≡ table_of m.two
    same_action h = cc
