use Rattle.std.proofs.Common.{◌≡◌, ◌-◌, ◌∷◌, [], Bool, false, List, length, option_map, slice_get, get_or, sym, ◌∙◌}
use Rattle.std.specs.List.{list_any}
use Rattle.rx_query.specs.QuerySpec.{asked}
use Rattle.rx_query.specs.States.{state_of, live_before, is_changed}
use Rattle.rx_query.specs.declared.results.Row.{Row}
use Rattle.rx_states.specs.Forms.{fields_in}
use Rattle.rx_table.specs.States.{index_of}
use Rattle.rx_table.specs.declared.states.StateName.{StateName}
use Rattle.rx_table.specs.declared.states.StateName.TheVariants.{IsInsert, IsUpdate, IsDelete, HasLimit, IsFindOne, HasSkip, WasResultsEmpty, PreviousUnknown, WasLimitReached, SortParamsChanged, WasInResult, WasFirst, WasLast, WasSortedBeforeFirst, WasSortedAfterLast, IsSortedBeforeFirst, IsSortedAfterLast, WasMatching, DoesMatchNow}
use Rattle.rx_states.proofs.Aside.{outside, as_number, moved_is, before_is, after_is}
use Rattle.rx_states.proofs.Leading.{none_at}
use Rattle.rx_states.proofs.beside.Beside.new.Goals as goal

module _ (c : goal.After-is_before-4) where
  abbrev answers : List Bool
  answers =
      c.is_insert.result ∷ c.is_update.result ∷ c.is_delete.result ∷ c.has_limit.result
      ∷ c.is_find_one.result ∷ c.has_skip.result ∷ c.is_empty.result ∷ c.is_unknown.result
      ∷ c.is_limit_reached.result ∷ c.is_moved.result ∷ false ∷ false ∷ false
      ∷ c.is_before.result ∷ c.is_before-2.result ∷ c.is_before-3.result ∷ c.is_before-4.result
      ∷ false ∷ false ∷ []

  out : list_any (is_changed c.args.change.now) c.args.results.now ≡ false
  out =
      outside (asked c.args.query.now) c.args.change.now c.args.results.now c.requires.inside
      c.requires.was

  old : fields_in c.forms_of.result.before ≡ live_before c.args.change.now.before
  old = c.forms_of.ensures.before.fields

  new : fields_in c.forms_of.result.after ≡ c.args.change.now.after
  new = c.forms_of.ensures.after.fields

  first : fields_in c.forms_of.result.first
      ≡ option_map (λ (r : Row). r.fields) (slice_get c.args.results.now 0)
  first = c.forms_of.ensures.first.fields

  last : fields_in c.forms_of.result.last
      ≡ option_map (λ (r : Row). r.fields)
      (slice_get c.args.results.now (length c.args.results.now - 1))
  last = c.forms_of.ensures.last.fields

  each : (s : StateName) → get_or answers (index_of s) false
      ≡ state_of (asked c.args.query.now) c.args.change.now c.args.results.now s
  each IsInsert = c.is_insert.ensures
  each IsUpdate = c.is_update.ensures
  each IsDelete = c.is_delete.ensures
  each HasLimit = c.has_limit.ensures
  each IsFindOne = c.is_find_one.ensures
  each HasSkip = c.has_skip.ensures
  each WasResultsEmpty = c.is_empty.ensures
  each PreviousUnknown = c.is_unknown.ensures
  each WasLimitReached = c.is_limit_reached.ensures
  each SortParamsChanged =
      c.is_moved.ensures
      ∙ moved_is (asked c.args.query.now) c.args.change.now c.args.results.now
      (fields_in c.forms_of.result.before) (live_before c.args.change.now.before)
      (fields_in c.forms_of.result.after) c.args.change.now.after old new
  each WasInResult = sym out
  each WasFirst = sym (none_at (is_changed c.args.change.now) c.args.results.now 0 out)
  each WasLast =
      sym (none_at (is_changed c.args.change.now) c.args.results.now
      (length c.args.results.now - 1) out)
  each WasSortedBeforeFirst =
      c.is_before.ensures
      ∙ before_is (asked c.args.query.now) c.args.change.now c.args.results.now out
      (fields_in c.forms_of.result.before) (live_before c.args.change.now.before)
      (fields_in c.forms_of.result.first) old first
  each WasSortedAfterLast =
      c.is_before-2.ensures
      ∙ after_is (asked c.args.query.now) c.args.change.now c.args.results.now out
      (fields_in c.forms_of.result.before) (live_before c.args.change.now.before)
      (fields_in c.forms_of.result.last) old last
  each IsSortedBeforeFirst =
      c.is_before-3.ensures
      ∙ before_is (asked c.args.query.now) c.args.change.now c.args.results.now out
      (fields_in c.forms_of.result.after) c.args.change.now.after
      (fields_in c.forms_of.result.first) new first
  each IsSortedAfterLast =
      c.is_before-4.ensures
      ∙ after_is (asked c.args.query.now) c.args.change.now c.args.results.now out
      (fields_in c.forms_of.result.after) c.args.change.now.after
      (fields_in c.forms_of.result.last) new last
  each WasMatching = sym c.requires.was
  each DoesMatchNow = sym c.requires.now

pub returns-clause-bits : goal.returns-clause-bits
returns-clause-bits c =
    as_number (asked c.args.query.now) c.args.change.now c.args.results.now (answers c) (each c)
