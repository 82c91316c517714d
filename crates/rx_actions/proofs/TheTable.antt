-- The table is right.
use Rattle.std.proofs.Common.{◌≡◌, ℕ, Bool, true, false, cond, Option, Some, None, option_map, List, [], ◌∷◌, filter, drop, zero, suc, refl, sym, ap, ◌∙◌, subst}
use Rattle.std.proofs.lemmas.Bool.{cond_both}
use Rattle.std.proofs.lemmas.Option.{same_Some}
use Rattle.std.specs.List.{list_any, AllByRecursion}
use Rattle.std.specs.Str.{bytes_eq}
use Rattle.rx_value.specs.Fields.{Pairs}
use Rattle.rx_value.specs.Named.{named}
use Rattle.rx_value.proofs.Lists.{all_passed, all_taken}
use Rattle.rx_value.proofs.Outcomes.{some_mapped}
use Rattle.rx_document.specs.Change.{before_of, change_of}
use Rattle.rx_document.specs.Documents.{Documents, live}
use Rattle.rx_table.specs.Rows.{action_of, table_of}
use Rattle.rx_query.proofs.Numbers.{table_of-number_of}
use Rattle.rx_query.specs.After.{row_after}
use Rattle.rx_query.specs.QuerySpec.{QuerySpec}
use Rattle.rx_query.specs.Lists.{sorted}
use Rattle.rx_query.specs.Result.{at_most, row_of, IsCollection}
use Rattle.rx_query.specs.States.{live_before, is_unknown, is_changed, state_of, bits_of}
use Rattle.rx_query.specs.declared.results.Row.{Row}
use Rattle.rx_actions.specs.Right.{TableIsRight, OnlyMatchingAreRows}
use Rattle.rx_actions.proofs.Agreement.{passes_mapped, states_agree, after_agrees}
use Rattle.rx_actions.proofs.Changes.{held, result, states_at, IsPatch}
use Rattle.rx_actions.proofs.Collections.{all-sorted}
use Rattle.rx_actions.proofs.FromScratch.{fresh_is}
use Rattle.rx_actions.proofs.Live.{same_but, live_rows, others_live, distinct_live, row_with, held_live}
use Rattle.rx_actions.proofs.Right.{table_is_right, inside_matches}
use Rattle.rx_actions.proofs.RowOrder.{row_keys, rows_query, lawful, Carries}

-- ---- rows carry their ids

module _ (P : Row → Type 0) where
  -- those of a back part
  all_drop : (n : ℕ) (xs : List Row) → AllByRecursion P xs → AllByRecursion P (drop n xs)
  all_drop zero xs h = h
  all_drop (suc n) [] h = tt
  all_drop (suc n) (x ∷ xs) h = all_drop n xs h.1

  -- those that are left by a limit
  all_cut : (limit : Option ℕ) (xs : List Row) → AllByRecursion P xs
      → AllByRecursion P (at_most limit xs)
  all_cut None xs h = h
  all_cut (Some n) xs h = all_taken P n xs h

  -- the row of a key too
  all_held : (mine : Row → Bool) (xs : List Row) → AllByRecursion P xs → (r : Row)
      → held mine xs ≡ Some r → P r
  all_held mine [] h r e = cc
  all_held mine (x ∷ xs) h r e =
      (elim (mine x) as (λ b. cond b (Some x) (held mine xs) ≡ Some r → P r) [
        | true ↦ (λ e. subst P (same_Some x r e) h.0)
        | false ↦ (λ e. all_held mine xs h.1 r e)
      ]) e

  -- those of live documents
  all_live : (es : Documents) → AllByRecursion (λ e. P (row_of e.1)) es
      → AllByRecursion P (live_rows es)
  all_live [] h = tt
  all_live (e ∷ es) h =
      cond_both e.1.state.deleted (live_rows es) (row_of e.1 ∷ live_rows es) (AllByRecursion P)
      (λ _. all_live es h.1) (λ _. (h.0, all_live es h.1))

module _ (q : QuerySpec) (es : Documents) (col : IsCollection q.primary es) where
  -- those of live documents
  pub live_carry : AllByRecursion (Carries q) (live_rows es)
  live_carry = all_live (Carries q) es col.carried

  -- those of the result
  result_carry : AllByRecursion (Carries q) (result (rows_query q) (live_rows es))
  result_carry =
      let chosen = filter (rows_query q).matches (live_rows es) in
      let in_order = sorted (rows_query q).before chosen in
      all_cut (Carries q) q.limit (drop q.skip in_order)
      (all_drop (Carries q) q.skip in_order
      (all-sorted (Carries q) (rows_query q).before chosen
      (all_passed (Carries q) (rows_query q).matches (live_rows es) live_carry)))

  -- that of a key
  pub key_carries : (id : List ℕ) (o : Option Pairs) → o ≡ live (named es id) → (x : Pairs)
      → o ≡ Some x → Carries q (row_with id x)
  key_carries id o is x at =
      all_held (Carries q) (λ r. bytes_eq r.id id) (live_rows es) live_carry (row_with id x)
      (held_live id es col.rising col.keyed ∙ ap (option_map (row_with id)) (sym is ∙ at))

-- ---- the table

-- what was before is what the old document says
pub was_live : (o : Option Pairs) → live_before (before_of o) ≡ o
was_live None = refl
was_live (Some x) = refl

-- and it is known
was_known : (o : Option Pairs) → is_unknown (before_of o) ≡ false
was_known None = refl
was_known (Some x) = refl

-- the table is right
pub table_right : TableIsRight
table_right q id old new rows some col col' differ scratch known =
    let c = change_of id old new in
    let mine : Row → Bool = is_changed c in
    let law = lawful q some in
    let rq = rows_query q in
    let R = result rq (live_rows old) in
    let R' = result rq (live_rows new) in
    let before = live (named old id) in
    let was = option_map (row_with id) (live_before c.before) in
    let now = row_after c in
    let is : rows ≡ R = scratch ∙ fresh_is q old col in
    let all : AllByRecursion (Carries q) rows =
    subst (AllByRecursion (Carries q)) (sym is) (result_carry q old col) in
    let at_before = key_carries q old col id (live_before c.before) (was_live before) in
    let at_after = key_carries q new col' id c.after refl in
    let p : IsPatch rq.before mine now R R' (action_of (states_at rq mine was now R)) =
    table_is_right row_keys rq law id was now (live_rows old) (live_rows new)
    (distinct_live old col.rising col.keyed) (distinct_live new col'.rising col'.keyed)
    (others_live id old col.keyed ∙ ap live_rows (same_but id old new col.rising col'.rising differ)
    ∙ sym (others_live id new col'.keyed))
    (ap (option_map (row_with id)) (was_live before) ∙ sym (held_live id old col.rising col.keyed))
    (sym (held_live id new col'.rising col'.keyed)) in
    let action = table_of (bits_of q c rows) in
    let same : action ≡ action_of (states_at rq mine was now R) =
    table_of-number_of (state_of q c rows)
    ∙ ap action_of (λ i s. states_agree q c rows all (was_known before) at_before at_after s i)
    ∙ ap (λ xs. action_of (states_at rq mine was now xs)) is in
    let p' : IsPatch rq.before mine now rows R' action =
    subst (λ a. IsPatch rq.before mine now rows R' a) (sym same)
    (subst (λ xs. IsPatch rq.before mine now xs R' (action_of (states_at rq mine was now R)))
    (sym is) p) in
    let there = p'.rows_there known in
    record {
      there = record {
        an_end = there.an_end;
        existing = there.existing;
        to_insert = λ h. some_mapped (row_with id) c.after ∙ there.to_insert h;
      };
      from_scratch =
          after_agrees q c at_after action rows all ∙ p'.gives known ∙ sym (fresh_is q new col');
    }

-- the changed document is one of the rows only where it was live and matched
pub rows_match : OnlyMatchingAreRows
rows_match q id old new rows some col scratch inside =
    let rq = rows_query q in
    let was = live (named old id) in
    let c = change_of id old new in
    let is : rows ≡ result rq (live_rows old) = scratch ∙ fresh_is q old col in
    passes_mapped (row_with id) rq.matches (live_before c.before)
    ∙ inside_matches row_keys rq (lawful q some) id
    (option_map (row_with id) (live_before c.before)) (live_rows old)
    (distinct_live old col.rising col.keyed)
    (ap (option_map (row_with id)) (was_live was) ∙ sym (held_live id old col.rising col.keyed))
    (ap (list_any (is_changed c)) (sym is) ∙ inside)
