-- Closed bounds take in all due documents, and nothing that the bounds of the plan leave out.
use Rattle.std.proofs.Common.{◌≡◌, Bool, true, false, not, ◌&&◌, List, [], ◌∷◌, map, Option, Some, None, Ordering, Less, Equal, Greater, refl, ap, ◌∙◌}
use Rattle.std.proofs.lemmas.Bool.{false≢true, and_parts, not-true}
use Rattle.std.proofs.lemmas.Cmp.{tied_itself}
use Rattle.std.specs.Option.{option_or}
use Rattle.std.specs.Ordering.{ordering_then, is_le}
use Rattle.rx_value.proofs.Ordered.{order_total}
use Rattle.rx_value.specs.Fields.{Pairs}
use Rattle.rx_value.specs.Named.{named}
use Rattle.rx_value.specs.Order.{order_of, value_cmp}
use Rattle.rx_value.specs.declared.value.Value.{Value}
use Rattle.rx_value.specs.declared.value.Value.TheVariants.{Flag, Int, Text}
use Rattle.rx_document.specs.declared.stored.Stored.{Stored}
use Rattle.rx_selector.specs.Holding.{same_kind, stands, compares, all_hold}
use Rattle.rx_selector.specs.declared.tree.Compare.{Compare}
use Rattle.rx_selector.specs.declared.tree.Compare.TheVariants.{Eq}
use Rattle.rx_query.specs.QuerySpec.{QuerySpec}
use Rattle.rx_query.specs.Result.{is_due}
use Rattle.rx_index.specs.Index.{is_between}
use Rattle.rx_index.specs.Position.{Position, position_with, values_cmp, precedes, key_of}
use Rattle.rx_planner.specs.Closed.{kind_end, bounding, closed_by, closed_end, closed_at, closed_of}
use Rattle.rx_planner.specs.Plan.{Names, path_of, operand, strict, loose, end_by, end_at, fixed_or, bound_at, bound_of}
use Rattle.rx_planner.proofs.Selected.{of_operand, fixed_value, past, at_end, key_is, due_parts}

-- what stands at a position or before it, or after it
abbrev pub meets : Position → List (Option Value) → Bool → Bool
meets p ys b = is_le (values_cmp p.values p.after ys b)

-- ---- due documents stand between them

-- a value of the kind stands on this side of the kind's end
within_kind : (up : Bool) (v w : Value) (xs : List (Option Value)) → same_kind w v ≡ true
    → meets (kind_end up v) (Some w ∷ xs) false ≡ not up
within_kind false (Flag a) (Flag true) xs h = refl
within_kind false (Flag a) (Flag false) xs h = past false xs
within_kind true (Flag a) (Flag true) xs h = past true xs
within_kind true (Flag a) (Flag false) xs h = refl
within_kind false (Int a) (Int b) xs h = refl
within_kind true (Int a) (Int b) xs h = refl
within_kind false (Text a) (Text []) xs h = past false xs
within_kind false (Text a) (Text (c ∷ cs)) xs h = refl
within_kind true (Text a) (Text b) xs h = refl
within_kind _ _ _ xs h = cc

kind_at : (which : Compare) (x : Option Value) (v : Value) → compares which x v ≡ true
    → (w : Value) × (x ≡ Some w) × (same_kind w v ≡ true)
kind_at which None v h = absurd (false≢true h)
kind_at which (Some w) v h =
    (w, refl, (and_parts (same_kind w v) (stands which (value_cmp w v)) h).0)

by_kind : (up : Bool) (which : Compare) (x : Option Value) (v : Value) (xs : List (Option Value))
    → compares which x v ≡ true → meets (kind_end up v) (x ∷ xs) false ≡ not up
by_kind up which x v xs h =
    let r = kind_at which x v h in
    ap (λ z. meets (kind_end up v) (z ∷ xs) false) r.1 ∙ within_kind up v r.0 xs r.2

at_closed_end : (up : Bool) (o l p m x : Option Value) (xs : List (Option Value))
    → ((v : Value) → o ≡ Some v → compares (strict up) x v ≡ true)
    → ((v : Value) → l ≡ Some v → compares (loose up) x v ≡ true)
    → ((v : Value) → p ≡ Some v → compares (strict (not up)) x v ≡ true)
    → ((v : Value) → m ≡ Some v → compares (loose (not up)) x v ≡ true)
    → meets (closed_by up (option_or o l) (option_or p m) (end_by up o l)) (x ∷ xs) false ≡ not up
at_closed_end up (Some v) l p m x xs s h t k = at_end up (Some v) l x xs s h
at_closed_end up None (Some v) p m x xs s h t k = at_end up None (Some v) x xs s h
at_closed_end up None None (Some v) m x xs s h t k = by_kind up (strict (not up)) x v xs (t v refl)
at_closed_end up None None None (Some v) x xs s h t k =
    by_kind up (loose (not up)) x v xs (k v refl)
at_closed_end up None None None None x xs s h t k = at_end up None None x xs s h

module _ (q : QuerySpec) (fields : Pairs) (holds : all_hold q.clauses fields ≡ true)
    (up : Bool) where
  at_closed : (fs : Names) → meets (closed_at q up fs) (map (λ f. named fields f) fs) false ≡ not up
  at_closed [] = past up []
  at_closed (f ∷ fs) =
      let inner = closed_at q up fs in
      let outer = closed_end q up f in
      let rest = map (λ f. named fields f) fs in
      (elim (operand q f Eq) as (λ o. operand q f Eq ≡ o
      → meets (fixed_or o inner outer) (named fields f ∷ rest) false ≡ not up) [
        | Some v ↦ (λ is.
            ap (λ x. is_le (ordering_then (order_of (Some v) x)
            (values_cmp inner.values inner.after rest false)))
            (fixed_value q f v fields is holds)
            ∙ ap (λ o. is_le (ordering_then o (values_cmp inner.values inner.after rest false)))
            (tied_itself order_total (Some v))
            ∙ at_closed fs)
        | None ↦ (λ is. at_closed_end up (operand q f (strict up)) (operand q f (loose up))
            (operand q f (strict (not up))) (operand q f (loose (not up))) (named fields f) rest
            (λ v at. of_operand q f (strict up) v fields at holds)
            (λ v at. of_operand q f (loose up) v fields at holds)
            (λ v at. of_operand q f (strict (not up)) v fields at holds)
            (λ v at. of_operand q f (loose (not up)) v fields at holds))
      ]) refl

-- the key of a due document stands between the closed bounds of each path
pub due_closed : (q : QuerySpec) (fields : Names) (d : Stored) → is_due q d ≡ true
    → named d.state.fields q.primary ≡ Some (Text d.state.key)
    → is_between (closed_of q false (path_of q fields)) (closed_of q true (path_of q fields))
    (key_of fields d) ≡ true
due_closed q fields d due carried =
    let path = path_of q fields in
    let parts = due_parts q d due in
    ap (is_between (closed_of q false path) (closed_of q true path))
    (key_is q fields d parts.0 carried)
    ∙ ap (λ b. b && not (precedes (closed_of q true path)
    (position_with (Some (Flag false) ∷ map (λ f. named d.state.fields f) path) false)))
    (at_closed q d.state.fields parts.1 false path)
    ∙ ap not (at_closed q d.state.fields parts.1 true path)

-- ---- what stands between them stands between the plan's

behind_wider : (o r s : Ordering) (b : Bool) → (is_le r ≡ b → is_le s ≡ b)
    → is_le (ordering_then o r) ≡ b → is_le (ordering_then o s) ≡ b
behind_wider Less r s b f h = h
behind_wider Equal r s b f h = f h
behind_wider Greater r s b f h = h

-- the end of a kind lies on this side of all ends
end_wider : (up : Bool) (v : Value) (ys : List (Option Value)) (b : Bool)
    → meets (kind_end up v) ys b ≡ not up → meets (position_with [] up) ys b ≡ not up
end_wider false v [] true h = refl
end_wider false v [] false h = refl
end_wider false v (y ∷ ys) b h = refl
end_wider true v [] false h = refl
end_wider true v (y ∷ ys) b h = refl
end_wider true (Flag a) [] true h = h
end_wider true (Int a) [] true h = h
end_wider true (Text a) [] true h = h

closed_wider : (up : Bool) (o l p : Option Value) (ys : List (Option Value)) (b : Bool)
    → meets (closed_by up (option_or o l) p (end_by up o l)) ys b ≡ not up
    → meets (end_by up o l) ys b ≡ not up
closed_wider up (Some v) l p ys b h = h
closed_wider up None (Some v) p ys b h = h
closed_wider up None None (Some v) ys b h = end_wider up v ys b h
closed_wider up None None None ys b h = h

-- with a value in front
front_wider : (v : Option Value) (p r : Position) (ys : List (Option Value)) (b c : Bool)
    → ((zs : List (Option Value)) → meets p zs b ≡ c → meets r zs b ≡ c)
    → meets (position_with (v ∷ p.values) p.after) ys b ≡ c
    → meets (position_with (v ∷ r.values) r.after) ys b ≡ c
front_wider v p r [] b c f h = h
front_wider v p r (y ∷ ys) b c f h =
    behind_wider (order_of v y) (values_cmp p.values p.after ys b)
    (values_cmp r.values r.after ys b)
    c (f ys) h

wider : (q : QuerySpec) (up : Bool) (fs : Names) (ys : List (Option Value)) (b : Bool)
    → meets (closed_at q up fs) ys b ≡ not up → meets (bound_at q up fs) ys b ≡ not up
wider q up [] ys b h = h
wider q up (f ∷ fs) ys b h =
    (elim (operand q f Eq) as
    (λ o. meets (fixed_or o (closed_at q up fs) (closed_end q up f)) ys b ≡ not up
    → meets (fixed_or o (bound_at q up fs) (end_at q up f)) ys b ≡ not up) [
      | Some v ↦ front_wider (Some v) (closed_at q up fs) (bound_at q up fs) ys b (not up)
          (λ zs. wider q up fs zs b)
      | None ↦ closed_wider up (operand q f (strict up)) (operand q f (loose up))
          (bounding q (not up) f) ys b
    ]) h

-- of each bound
pub between_parts : (low high k : Position) → is_between low high k ≡ true
    → (precedes low k ≡ true) × (precedes high k ≡ false)
between_parts low high k h =
    let parts = and_parts (precedes low k) (not (precedes high k)) h in
    (parts.0, not-true (precedes high k) parts.1)

pub between_wider : (q : QuerySpec) (path : Names) (k : Position)
    → is_between (closed_of q false path) (closed_of q true path) k ≡ true
    → is_between (bound_of q false path) (bound_of q true path) k ≡ true
between_wider q path k h =
    let parts = between_parts (closed_of q false path) (closed_of q true path) k h in
    let so : (up : Bool) → precedes (closed_of q up path) k ≡ not up
    → precedes (bound_of q up path) k ≡ not up =
    λ up. front_wider (Some (Flag false)) (closed_at q up path)
    (bound_at q up path) k.values k.after (not up)
    (λ zs. wider q up path zs k.after) in
    ap (λ b. b && not (precedes (bound_of q true path) k)) (so false parts.0)
    ∙ ap not (so true parts.1)
