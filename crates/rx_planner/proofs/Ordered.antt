-- An index whose plan is ordered has the due documents in the query's order.
use Rattle.std.proofs.Common.{◌≡◌, ℕ, suc, true, false, not, cond, ◌&&◌, List, [], ◌∷◌, ◌++◌, map, drop, Some, None, is_some, Ordering, Less, Equal, Greater, refl, sym, ap, ◌∙◌}
use Rattle.std.proofs.lemmas.Bool.{false≢true, and_parts}
use Rattle.std.proofs.lemmas.Cmp.{tied_itself}
use Rattle.std.proofs.lemmas.Slice.Eq.{bytes_eq-Decides, slice_eq-Decides}
use Rattle.std.specs.Cmp.Lexicographic.{pointwise}
use Rattle.std.specs.List.{list_all}
use Rattle.std.specs.Ordering.{ordering_then}
use Rattle.std.specs.Str.{bytes_eq}
use Rattle.rx_value.proofs.Ordered.{order_total}
use Rattle.rx_value.specs.Fields.{Pairs}
use Rattle.rx_value.specs.Named.{named}
use Rattle.rx_value.specs.Order.{order_of}
use Rattle.rx_value.specs.declared.value.Value.TheVariants.{Flag, Text}
use Rattle.rx_document.specs.declared.stored.Stored.{Stored}
use Rattle.rx_selector.specs.Holding.{all_hold}
use Rattle.rx_selector.specs.declared.tree.Compare.TheVariants.{Eq}
use Rattle.rx_query.specs.QuerySpec.{Sorts, QuerySpec}
use Rattle.rx_query.specs.Order.{field_cmp, sort_cmp, sorts_cmp, query_cmp}
use Rattle.rx_query.specs.Result.{is_due, stored_cmp}
use Rattle.rx_index.specs.Position.{position_with, values_cmp, position_cmp, key_of}
use Rattle.rx_planner.specs.Plan.{Names, path_of, operand, is_fixed, leading, rest_of, sort_path, rises_freely, is_ordered}
use Rattle.rx_planner.proofs.Selected.{fixed_value, key_is, due_parts}

-- names as a sort by them
abbrev rising : Names → Sorts
rising = map (λ name. (name, false))

then_equal : (o : Ordering) → ordering_then o Equal ≡ o
then_equal Less = refl
then_equal Equal = refl
then_equal Greater = refl

then_assoc : (o p r : Ordering) → ordering_then o (ordering_then p r)
    ≡ ordering_then (ordering_then o p) r
then_assoc Less p r = refl
then_assoc Equal p r = refl
then_assoc Greater p r = refl

module _ (x y : Pairs) where
  -- what the fields give compares as they do
  abbrev given : Names → Ordering
  given fs = values_cmp (map (λ f. named x f) fs) false (map (λ f. named y f) fs) false

  given_is : (fs : Names) → given fs ≡ sorts_cmp (rising fs) x y
  given_is [] = refl
  given_is (f ∷ fs) = ap (ordering_then (field_cmp f x y)) (given_is fs)

  -- fixed fields tie
  given_rest : (q : QuerySpec) → all_hold q.clauses x ≡ true → all_hold q.clauses y ≡ true
      → (fs : Names)
      → given fs ≡ given (rest_of q fs)
  given_rest q hx hy [] = refl
  given_rest q hx hy (f ∷ fs) =
      (elim (operand q f Eq) as (λ o. operand q f Eq ≡ o
      → given (f ∷ fs) ≡ given (drop (cond (is_some o) (suc (leading q fs)) 0) (f ∷ fs))) [
        | Some v ↦ (λ is.
            ap (λ z. ordering_then (order_of z (named y f)) (given fs)) (fixed_value q f v x is hx)
            ∙ ap (λ z. ordering_then (order_of (Some v) z) (given fs)) (fixed_value q f v y is hy)
            ∙ ap (λ o. ordering_then o (given fs)) (tied_itself order_total (Some v))
            ∙ given_rest q hx hy fs)
        | None ↦ (λ is. refl)
      ]) refl

  -- a sort none of whose fields is reversed
  sorts_rise : (q : QuerySpec) (ss : Sorts) → list_all (rises_freely q) ss ≡ true
      → sorts_cmp ss x y ≡ sorts_cmp (rising (map (λ s. s.0) ss)) x y
  sorts_rise q [] h = refl
  sorts_rise q (s ∷ ss) h =
      let parts = and_parts (rises_freely q s) (list_all (rises_freely q) ss) h in
      let up : s.1 ≡ false =
      (elim s.1 as (λ b. (not b && not (is_fixed q s.0)) ≡ true → b ≡ false)
      [ true ↦ (λ e. absurd (false≢true e)) | false ↦ (λ e. refl) ]) parts.0 in
      ap (λ b. ordering_then (sort_cmp s.0 b x y) (sorts_cmp ss x y)) up
      ∙ ap (ordering_then (field_cmp s.0 x y)) (sorts_rise q ss parts.1)

  -- and then one more
  sorts_more : (fs : Names) (p : List ℕ)
      → sorts_cmp (rising (fs ++ p ∷ [])) x y
      ≡ ordering_then (sorts_cmp (rising fs) x y) (field_cmp p x y)
  sorts_more [] p = then_equal (field_cmp p x y)
  sorts_more (f ∷ fs) p =
      ap (ordering_then (field_cmp f x y)) (sorts_more fs p)
      ∙ then_assoc (field_cmp f x y) (sorts_cmp (rising fs) x y) (field_cmp p x y)

  nothing_more : (fs : Names) → sorts_cmp (rising (fs ++ [])) x y ≡ sorts_cmp (rising fs) x y
  nothing_more [] = refl
  nothing_more (f ∷ fs) = ap (ordering_then (field_cmp f x y)) (nothing_more fs)

  -- the order of the query is by its path
  query_is : (q : QuerySpec) → list_all (rises_freely q) q.sorts ≡ true
      → query_cmp q x y ≡ sorts_cmp (rising (sort_path q)) x y
  query_is q h =
      let names = map (λ s. s.0) q.sorts in
      elim (is_some (named q.sorts q.primary)) as (λ b.
      cond b (sorts_cmp q.sorts x y)
      (ordering_then (sorts_cmp q.sorts x y) (field_cmp q.primary x y))
      ≡ sorts_cmp (rising (names ++ cond b [] (q.primary ∷ []))) x y) [
        | true ↦ sorts_rise q q.sorts h ∙ sym (nothing_more names)
        | false ↦ ap (λ o. ordering_then o (field_cmp q.primary x y)) (sorts_rise q q.sorts h)
            ∙ sym (sorts_more names q.primary)
      ]

-- documents of lower keys come first
pub keys_in_order : (q : QuerySpec) (fields : Names) (d e : Stored)
    → is_ordered q (path_of q fields) ≡ true → is_due q d ≡ true → is_due q e ≡ true
    → named d.state.fields q.primary ≡ Some (Text d.state.key)
    → named e.state.fields q.primary ≡ Some (Text e.state.key)
    → position_cmp (key_of fields d) (key_of fields e) ≡ Less → stored_cmp q d e ≡ Less
keys_in_order q fields d e ordered due_d due_e carried_d carried_e less =
    let x = d.state.fields in
    let y = e.state.fields in
    let path = path_of q fields in
    let live_d = due_parts q d due_d in
    let live_e = due_parts q e due_e in
    let parts = and_parts (list_all (rises_freely q) q.sorts)
    (pointwise bytes_eq (sort_path q) (rest_of q path)) ordered in
    let same : sort_path q ≡ rest_of q path =
    (slice_eq-Decides bytes_eq-Decides (sort_path q) (rest_of q path)
    (pointwise bytes_eq (sort_path q) (rest_of q path)) refl).0 parts.1 in
    query_is x y q parts.0
    ∙ ap (λ fs. sorts_cmp (rising fs) x y) same
    ∙ sym (given_is x y (rest_of q path))
    ∙ sym (given_rest x y q live_d.1 live_e.1 path)
    ∙ ap (λ p. position_cmp p (position_with (Some (Flag false) ∷ map (λ f. named y f) path)
    false)) (sym (key_is q fields d live_d.0 carried_d))
    ∙ ap (position_cmp (key_of fields d)) (sym (key_is q fields e live_e.0 carried_e))
    ∙ less
