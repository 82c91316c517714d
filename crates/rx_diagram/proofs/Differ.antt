-- Two edges of a reduced ordered diagram lead somewhere to two actions.
use Rattle.std.proofs.Common.{◌≡◌, ◌≢◌, ℕ, zero, suc, ◌+◌, ◌-◌, ◌<◌, ◌≤◌, ◌⊎◌, inl, inr, Bool, true, false, cond, eqb, List, length, refl, sym, ap, ◌∙◌, arith}
use Rattle.rx_diagram.specs.declared.node.Edge.{Edge}
use Rattle.rx_diagram.specs.declared.node.Edge.TheVariants.{Act, To}
use Rattle.rx_diagram.specs.declared.node.Node.{Node}
use Rattle.rx_diagram.specs.Nodes.{node, level, edge_of, IsReduced, final, From}
use Rattle.rx_diagram.proofs.Apart.{same_state, edge_same}
use Rattle.rx_diagram.proofs.Walks.{from_lower, from_next, final-act, final-to}
use Rattle.std.proofs.lemmas.Bool.Decides.{nat_tests}
use Rattle.std.proofs.lemmas.Bool.{cases_eq}

-- the answers with that of one question put in
abbrev pub put : ℕ → Bool → (ℕ → Bool) → ℕ → Bool
put i v b j = cond (eqb j i) v (b j)

-- there it is
pub put_here : (i : ℕ) (v : Bool) (b : ℕ → Bool) → put i v b i ≡ v
put_here i v b = grind (arith, nat_tests)

-- and elsewhere the answers are as they were
pub put_other : (i : ℕ) (v : Bool) (b : ℕ → Bool) (j : ℕ) → j ≢ i → put i v b j ≡ b j
put_other i v b j ne = grind (arith, nat_tests)

-- answers that are those of b before question i, and lead from two edges to two actions
pub record Parting (ns : List Node) (i : ℕ) (e f : Edge) (b : ℕ → Bool) : Type 0 where
  pub answers : ℕ → Bool
  pub before : (j : ℕ) → j < i → answers j ≡ b j
  pub apart : final ns answers e ≢ final ns answers f

-- the edges may be swapped
swapped : (ns : List Node) (i : ℕ) (e f : Edge) (b : ℕ → Bool) → Parting ns i e f b
    → Parting ns i f e b
swapped ns i e f b p = record {
  answers = p.answers;
  before = p.before;
  apart = λ h. p.apart (sym h);
}

-- how far an edge is from the actions at most
abbrev pub rank : Edge → ℕ
rank (Act a) = 0
rank (To k) = suc k

-- a node's edges are nearer
pub child_rank : (ns : List Node) → IsReduced ns → (v : Bool) (k : ℕ) → k < length ns
    → rank (edge_of v (node ns k)) ≤ k
child_rank ns r v k lt = below (edge_of v (node ns k)) refl
  where
    below : (e : Edge) → edge_of v (node ns k) ≡ e → rank e ≤ k
    below (Act a) is = omega arith
    below (To j) is = let o = r.ordered v k j lt is in omega arith

-- what parts c and d under the answer v of question l parts e and f before
lifted : (ns : List Node) (i l : ℕ) (v : Bool) (b : ℕ → Bool) (e f c d : Edge) → i ≤ l
    → ((a : ℕ → Bool) → a l ≡ v → final ns a e ≡ final ns a c)
    → ((a : ℕ → Bool) → a l ≡ v → final ns a f ≡ final ns a d)
    → Parting ns (suc l) c d (put l v b) → Parting ns i e f b
lifted ns i l v b e f c d le to_c to_d p =
    let here : p.answers l ≡ v = p.before l (omega arith) ∙ put_here l v b in
    record {
      answers = p.answers;
      before = λ j lt. p.before j (omega arith) ∙ put_other l v b j (omega arith);
      apart = λ h. p.apart (sym (to_c p.answers here) ∙ h ∙ to_d p.answers here);
    }

-- a node is as its edge of the answer
to_child : (ns : List Node) → IsReduced ns → (k : ℕ) → k < length ns → (v : Bool) (a : ℕ → Bool)
    → a (level ns k) ≡ v → final ns a (To k) ≡ final ns a (edge_of v (node ns k))
to_child ns r k lt v a is = final-to ns r a k lt ∙ ap (λ w. final ns a (edge_of w (node ns k))) is

-- two edges of that rank part
abbrev pub PartsUpTo : List Node → ℕ → Type 0
PartsUpTo ns t = (i : ℕ) (e f : Edge) (b : ℕ → Bool) → rank e + rank f ≤ t → From ns i e
    → From ns i f → e ≢ f → Parting ns i e f b

-- a node and an edge to a later question
one_side : (ns : List Node) → IsReduced ns → (t : ℕ) → PartsUpTo ns t
    → (k : ℕ) (f : Edge) (i : ℕ) (b : ℕ → Bool)
    → suc k + rank f ≤ suc t → k < length ns → i ≤ level ns k → From ns (suc (level ns k)) f
    → Parting ns i (To k) f b
one_side ns r t rec k f i b small lt le from = elim (edge_same (node ns k).no f) [
  | inl is ↦ by_answer true (λ h. r.two_edges k lt (is ∙ sym h))
  | inr not ↦ by_answer false not
]
  where
    by_answer : (v : Bool) → edge_of v (node ns k) ≢ f → Parting ns i (To k) f b
    by_answer v ne =
        let l = level ns k in
        let c = edge_of v (node ns k) in
        let less = child_rank ns r v k lt in
        lifted ns i l v b (To k) f c f le (to_child ns r k lt v) (λ a is. refl)
        (rec (suc l) c f (put l v b) (omega arith) (from_next ns r k lt v) from ne)

-- two nodes of one question
both_sides : (ns : List Node) → IsReduced ns → (t : ℕ) → PartsUpTo ns t → (j k i : ℕ) (b : ℕ → Bool)
    → suc j + suc k ≤ suc t → j < length ns → k < length ns → i ≤ level ns j
    → level ns j ≡ level ns k → j ≢ k → Parting ns i (To j) (To k) b
both_sides ns r t rec j k i b small ltj ltk le same ne =
    elim (edge_same (node ns j).no (node ns k).no) [
      | inl is ↦ by_answer true (λ too. ne (r.one_node j k ltj ltk
          (node_is (same_state (node ns j).state (node ns k).state same) is too)))
      | inr not ↦ by_answer false not
    ]
  where
    node_is : (node ns j).state ≡ (node ns k).state → (node ns j).no ≡ (node ns k).no
        → (node ns j).yes ≡ (node ns k).yes → node ns j ≡ node ns k
    node_is s n y = λ i. record { state = s i; no = n i; yes = y i }

    by_answer : (v : Bool) → edge_of v (node ns j) ≢ edge_of v (node ns k)
        → Parting ns i (To j) (To k) b
    by_answer v apart =
        let l = level ns j in
        let c = edge_of v (node ns j) in
        let d = edge_of v (node ns k) in
        let less_j = child_rank ns r v j ltj in
        let less_k = child_rank ns r v k ltk in
        lifted ns i l v b (To j) (To k) c d le (to_child ns r j ltj v)
        (λ a is. to_child ns r k ltk v a (ap a (sym same) ∙ is))
        (rec (suc l) c d (put l v b) (omega arith) (from_next ns r j ltj v)
        (from_lower ns (suc l) (suc (level ns k)) d (omega arith) (from_next ns r k ltk v))
        apart)

-- and so do any
parts : (ns : List Node) → IsReduced ns → (t : ℕ) → PartsUpTo ns t
parts ns r t i (Act a) (Act c) b small fe ff ne =
    record {
      answers = b;
      before = λ j lt. refl;
      apart = λ h. ne (sym (final-act ns b a) ∙ h ∙ final-act ns b c);
    }
parts ns r zero i (To j) f b small fe ff ne = absurd (omega arith)
parts ns r zero i (Act a) (To k) b small fe ff ne = absurd (omega arith)
parts ns r (suc t) i (Act a) (To k) b small fe ff ne =
    swapped ns i (To k) (Act a) b (one_side ns r t (parts ns r t) k (Act a) i b
    (omega arith) ff.0 ff.1 tt)
parts ns r (suc t) i (To j) (Act a) b small fe ff ne =
    one_side ns r t (parts ns r t) j (Act a) i b (omega arith) fe.0 fe.1 tt
parts ns r (suc t) i (To j) (To k) b small fe ff ne = elim (order (level ns j) (level ns k)) [
  | inl lt ↦ one_side ns r t (parts ns r t) j (To k) i b (omega arith) fe.0 fe.1 (ff.0, omega arith)
  | inr ge ↦ elim (order (level ns k) (level ns j)) [
    | inl lt ↦ swapped ns i (To k) (To j) b (one_side ns r t (parts ns r t) k (To j) i b
        (omega arith) ff.0 ff.1 (fe.0, omega arith))
    | inr le ↦ both_sides ns r t (parts ns r t) j k i b (omega arith) fe.0 ff.0 fe.1 (omega arith)
        (λ h. ne (ap To h))
  ]
]
  where
    order : (m n : ℕ) → (m < n) ⊎ (n ≤ m)
    order m n = elim (cases_eq (suc m - n) 0) [
      | inl e ↦ inl (omega arith)
      | inr e ↦ inr
          (omega arith)
    ]

-- two edges that differ lead to two actions under some answers, given up to the edges' questions
pub differ : (ns : List Node) → IsReduced ns → (i : ℕ) (e f : Edge) (b : ℕ → Bool) → From ns i e
    → From ns i f → e ≢ f → Parting ns i e f b
differ ns r i e f b fe ff ne = parts ns r (rank e + rank f) i e f b (omega arith) fe ff ne
