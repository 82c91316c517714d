-- The answers about a change of a document that isn't among the rows.
use Rattle.std.proofs.Common.{◌≡◌, ◌-◌, Bool, true, false, not, List, length, Option, option_map, slice_get, get_or, refl, sym, ap, ◌∙◌}
use Rattle.std.specs.List.{list_any}
use Rattle.rx_value.specs.Fields.{Pairs}
use Rattle.rx_document.specs.declared.change.Change.{Change}
use Rattle.rx_query.specs.Lists.{some_passes}
use Rattle.rx_query.specs.QuerySpec.{QuerySpec}
use Rattle.rx_query.specs.States.{number_of, bits_of, state_of, OnlyMatchingInside, live_before, is_match, is_changed, precedes, ties, before_first, after_last}
use Rattle.rx_query.specs.declared.results.Row.{Row}
use Rattle.rx_table.specs.States.{index_of}
use Rattle.rx_table.specs.declared.states.StateName.{StateName}
use Rattle.rx_states.proofs.Leading.{none_at, by_fields, turned}

module _ (q : QuerySpec) (c : Change) (rows : List Row) where
  -- one that didn't match isn't among them
  pub outside : OnlyMatchingInside q c rows
      → some_passes (is_match q) (live_before c.before) ≡ false
      → list_any (is_changed c) rows ≡ false
  outside inside was = (elim (list_any (is_changed c) rows) as
      (λ b. list_any (is_changed c) rows ≡ b → b ≡ false) [
        | true ↦ (λ is. sym (inside is) ∙ was)
        | false ↦ (λ _. refl)
      ]) refl

  -- answers in a list, each of which is the state's, make the number of the states
  pub as_number : (answers : List Bool)
      → ((s : StateName) → get_or answers (index_of s) false ≡ state_of q c rows s)
      → number_of (λ s. get_or answers (index_of s) false) ≡ bits_of q c rows
  as_number answers each = ap number_of (λ i s. each s i)

  pub moved_is : (before old after new : Option Pairs) → before ≡ old → after ≡ new
      → some_passes (λ x. not (some_passes (ties q x) before)) after
      ≡ some_passes (λ x. not (some_passes (ties q x) old)) new
  moved_is before old after new is_old is_new =
      ap (λ o. some_passes (λ x. not (some_passes (ties q x) o)) after) is_old
      ∙ ap (some_passes (λ x. not (some_passes (ties q x) old))) is_new

  module _ (out : list_any (is_changed c) rows ≡ false) where
    pub before_is : (x doc first : Option Pairs) → x ≡ doc
        → first ≡ option_map (λ r. r.fields) (slice_get rows 0)
        → some_passes (λ x. some_passes (precedes q x) first) x
        ≡ some_passes (before_first q c rows) doc
    before_is x doc first is_doc is_first =
        ap (λ o. some_passes (λ x. some_passes (precedes q x) o) x) is_first
        ∙ ap (some_passes (λ x. some_passes (precedes q x)
        (option_map (λ r. r.fields) (slice_get rows 0)))) is_doc
        ∙ ap (λ p. some_passes p doc)
        (λ i x. by_fields c (precedes q x) (slice_get rows 0)
        (none_at (is_changed c) rows 0 out) i)

    pub after_is : (x doc last : Option Pairs) → x ≡ doc
        → last ≡ option_map (λ r. r.fields) (slice_get rows (length rows - 1))
        → some_passes (λ r. some_passes (precedes q r) x) last
        ≡ some_passes (after_last q c rows) doc
    after_is x doc last is_doc is_last =
        turned (precedes q) last x
        ∙ ap (λ o. some_passes (λ y. some_passes (λ r. precedes q r y) o) x) is_last
        ∙ ap (some_passes (λ y. some_passes (λ r. precedes q r y)
        (option_map (λ r. r.fields) (slice_get rows (length rows - 1))))) is_doc
        ∙ ap (λ p. some_passes p doc)
        (λ i y. by_fields c (λ f. precedes q f y) (slice_get rows (length rows - 1))
        (none_at (is_changed c) rows (length rows - 1) out) i)
