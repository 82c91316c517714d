-- The order of positions is total.
use Rattle.std.specs.Prelude.{◌≡◌, ℕ, Bool, true, false, cond, List, [], ◌∷◌, Option, None, refl}
use Rattle.std.proofs.Common.{ap, subst}
use Rattle.std.specs.Cmp.{IsTotalOrder, nat_cmp_total}
use Rattle.std.specs.Cmp.Lexicographic.{slice_cmp, lists_total}
use Rattle.std.specs.Ordering.{nat_cmp, ordering_then}
use Rattle.std.specs.declared.cmp.Ordering.{Ordering}
use Rattle.std.proofs.lemmas.Cmp.{on_total, then_total}
use Rattle.rx_value.specs.Order.{order_of}
use Rattle.rx_value.specs.declared.value.Value.{Value}
use Rattle.rx_value.proofs.Ordered.{order_total}
use Rattle.rx_index.specs.Position.{Position, values_cmp, PositionsAreOrdered}

-- a value of a position, or its end: before all values or after them
abbrev Step : Type 0
Step = ℕ × Option Value

abbrev step_cmp : Step → Step → Ordering
step_cmp p q = ordering_then (nat_cmp p.0 q.0) (order_of p.1 q.1)

-- the values and then the end
abbrev steps : List (Option Value) → Bool → List Step
steps [] after = (cond after 2 0, None) ∷ []
steps (x ∷ xs) after = (1, x) ∷ steps xs after

-- positions compare as their steps do
as_steps : (xs : List (Option Value)) (a : Bool) (ys : List (Option Value)) (b : Bool)
    → slice_cmp step_cmp (steps xs a) (steps ys b) ≡ values_cmp xs a ys b
as_steps [] true [] true = refl
as_steps [] true [] false = refl
as_steps [] false [] true = refl
as_steps [] false [] false = refl
as_steps [] true (y ∷ ys) b = refl
as_steps [] false (y ∷ ys) b = refl
as_steps (x ∷ xs) a [] true = refl
as_steps (x ∷ xs) a [] false = refl
as_steps (x ∷ xs) a (y ∷ ys) b = ap (ordering_then (order_of x y)) (as_steps xs a ys b)

-- and steps are in total order
pub position_total : PositionsAreOrdered
position_total =
    subst IsTotalOrder (λ i p q. as_steps p.values p.after q.values q.after i)
    (on_total (λ (p : Position). steps p.values p.after)
    (lists_total (then_total (on_total (λ (s : Step). s.0) nat_cmp_total)
    (on_total (λ (s : Step). s.1) order_total))))
