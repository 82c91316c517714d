-- Walks in a reduced ordered diagram.
use Rattle.std.proofs.Common.{◌≡◌, ℕ, zero, suc, ◌+◌, ◌<◌, ◌≤◌, Bool, List, length, refl, sym, ap, ◌∙◌, arith}
use Rattle.rx_table.specs.declared.action.Action.{Action}
use Rattle.rx_diagram.specs.declared.node.Edge.{Edge}
use Rattle.rx_diagram.specs.declared.node.Edge.TheVariants.{Act, To}
use Rattle.rx_diagram.specs.declared.node.Node.{Node}
use Rattle.rx_diagram.specs.Nodes.{node, level, edge_of, next, walk, final, From, IsReduced}
use Rattle.rx_diagram.proofs.Apart.{index_small}

-- a later question is later than an earlier one
pub from_lower : (ns : List Node) (i j : ℕ) (e : Edge) → i ≤ j → From ns j e → From ns i e
from_lower ns i j (Act a) le f = tt
from_lower ns i j (To k) le f = (f.0, omega arith)

-- what a node's edge leads to is later
pub from_next : (ns : List Node) → IsReduced ns → (k : ℕ) → k < length ns → (answer : Bool)
    → From ns (suc (level ns k)) (edge_of answer (node ns k))
from_next ns r k lt answer = later (edge_of answer (node ns k)) refl
  where
    later : (e : Edge) → edge_of answer (node ns k) ≡ e → From ns (suc (level ns k)) e
    later (Act a) is = tt
    later (To j) is = let o = r.ordered answer k j lt is in (omega arith, omega arith)

-- a walk stays at an action
pub walk-act : (t : ℕ) (ns : List Node) (b : ℕ → Bool) (a : Action) → walk t ns b (Act a) ≡ Act a
unfolding walk
walk-act zero ns b a = refl
walk-act (suc t) ns b a = walk-act t ns b a

-- no step, no way
pub walk-zero : (ns : List Node) (b : ℕ → Bool) (e : Edge) → walk 0 ns b e ≡ e
unfolding walk
walk-zero ns b e = refl

-- a step follows the answer
pub walk-to : (t : ℕ) (ns : List Node) (b : ℕ → Bool) (k : ℕ)
    → walk (suc t) ns b (To k) ≡ walk t ns b (edge_of (b (level ns k)) (node ns k))
unfolding walk
walk-to t ns b k = refl

-- one more step, at the end
walk-more : (t : ℕ) (ns : List Node) (b : ℕ → Bool) (e : Edge)
    → walk (suc t) ns b e ≡ next ns b (walk t ns b e)
unfolding walk
walk-more zero ns b e = refl
walk-more (suc t) ns b e = walk-more t ns b (next ns b e)

-- a walk of as many steps as there are questions left ends at an action
pub arrives : (ns : List Node) → IsReduced ns → (t i : ℕ) (b : ℕ → Bool) (e : Edge) → i + t ≡ 19
    → From ns i e → (a : Action) × (walk t ns b e ≡ Act a)
arrives ns r t i b (Act a) is f = (a, walk-act t ns b a)
arrives ns r zero i b (To k) is f = let small = index_small (node ns k).state in
    absurd (omega arith)
arrives ns r (suc t) i b (To k) is f =
    let g = from_next ns r k f.0 (b (level ns k)) in
    let h = from_lower ns (suc i) (suc (level ns k)) (edge_of (b (level ns k)) (node ns k))
    (omega arith) g in
    let there = arrives ns r t (suc i) b (edge_of (b (level ns k)) (node ns k)) (omega arith) h in
    (there.0, walk-to t ns b k ∙ there.1)

-- an action is its own end
pub final-act : (ns : List Node) (b : ℕ → Bool) (a : Action) → final ns b (Act a) ≡ Act a
unfolding final
final-act ns b a = walk-act 19 ns b a

-- and a node's end is that of its edge
pub final-to : (ns : List Node) → IsReduced ns → (b : ℕ → Bool) (k : ℕ) → k < length ns
    → final ns b (To k) ≡ final ns b (edge_of (b (level ns k)) (node ns k))
unfolding final
final-to ns r b k lt =
    let e = edge_of (b (level ns k)) (node ns k) in
    let g = from_lower ns 1 (suc (level ns k)) e (omega arith)
    (from_next ns r k lt (b (level ns k))) in
    let there = arrives ns r 18 1 b e refl g in
    walk-to 18 ns b k ∙ there.1 ∙ sym (walk-more 18 ns b e ∙ ap (next ns b) there.1)

-- each walk ends at an action
pub ends : (ns : List Node) → IsReduced ns → (b : ℕ → Bool) (e : Edge) → From ns 0 e
    → (a : Action) × (final ns b e ≡ Act a)
unfolding final
ends ns r b e f = arrives ns r 19 0 b e refl f

-- only the answers from the edge's question on count
walk_same : (ns : List Node) → IsReduced ns → (t i : ℕ) (b c : ℕ → Bool) (e : Edge) → From ns i e
    → ((j : ℕ) → i ≤ j → j < 19 → b j ≡ c j) → walk t ns b e ≡ walk t ns c e
walk_same ns r zero i b c e f same = walk-zero ns b e ∙ sym (walk-zero ns c e)
walk_same ns r (suc t) i b c (Act a) f same = walk-act (suc t) ns b a
    ∙ sym (walk-act (suc t) ns c a)
walk_same ns r (suc t) i b c (To k) f same =
    let l = level ns k in
    let nd = node ns k in
    let g = from_lower ns i (suc l) (edge_of (b l) nd) (omega arith) (from_next ns r k f.0 (b l)) in
    walk-to t ns b k ∙ walk_same ns r t i b c (edge_of (b l) nd) g same
    ∙ ap (λ v. walk t ns c (edge_of v nd)) (same l f.1 (index_small nd.state))
    ∙ sym (walk-to t ns c k)

-- so they alone count for the end
pub final_same : (ns : List Node) → IsReduced ns → (i : ℕ) (b c : ℕ → Bool) (e : Edge) → From ns i e
    → ((j : ℕ) → i ≤ j → j < 19 → b j ≡ c j) → final ns b e ≡ final ns c e
unfolding final
final_same ns r i b c e f same = walk_same ns r 19 i b c e f same
