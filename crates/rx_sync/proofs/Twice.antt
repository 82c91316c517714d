-- A push that comes twice writes once.
use Rattle.std.proofs.Common.{◌≡◌, ◌∙◌, Bool, true, false, cond, List, [], ◌∷◌, map, filter, Option, Some, None, is_none, option_map, refl, sym, ap, subst, inl, inr}
use Rattle.std.proofs.lemmas.Bool.{not-true}
use Rattle.rx_value.specs.Named.{named}
use Rattle.rx_value.specs.declared.state.State.{State}
use Rattle.rx_value.proofs.Outcomes.{some_same, not_none}
use Rattle.rx_document.specs.Documents.{Documents}
use Rattle.rx_document.specs.declared.place.Place.{Place}
use Rattle.rx_document.specs.declared.stored.Stored.{Stored}
use Rattle.rx_wire.specs.declared.message.AskKind.TheVariants.{Push}
use Rattle.rx_wire.specs.declared.message.PushRow.{PushRow}
use Rattle.rx_replication.specs.Known.{KnownStates, is_state, is_pending}
use Rattle.rx_replication.specs.Master.{conflict_of, conflict_with, writes}
use Rattle.rx_replication.specs.Member.{Member}
use Rattle.rx_replication.specs.Request.{IsCurrent}
use Rattle.rx_replication.specs.Write.{AreByKey}
use Rattle.rx_replication.proofs.Commits.{Wrote}
use Rattle.rx_replication.proofs.Handled.{RowsApart, push_told, real_is, met_stays}
use Rattle.rx_replication.proofs.Taken.{current_push, pushed, rows_of, row_doc, rows_apart, pushed_pending}

-- a row whose state is pending has another one assumed
module _ (fork : Documents) (known : KnownStates) (down : Option Place) (by_key : AreByKey fork)
    (rows : List PushRow) (current : IsCurrent fork known down (Push rows)) where
  abbrev due : List PushRow
  due = rows_of known (pushed fork known current.0)

  among_due : (row : PushRow) → Member row rows → Member row due
  among_due row m =
      subst (λ (rs : List PushRow). Member row rs) (current_push fork known down rows current) m

  pub apart : RowsApart rows
  apart =
      subst RowsApart (sym (current_push fork known down rows current))
      (rows_apart fork known by_key current.0)

  other_assumed : (row : PushRow) → Member row rows → is_state row.assumed row.new ≡ false
  other_assumed row m =
      let x = row_doc fork known by_key current.0 row (among_due row m) in
      let pending : is_pending known x.0 ≡ true = pushed_pending fork known by_key current.0 x.0
      x.1 in
      subst (λ (row : PushRow). is_state row.assumed row.new ≡ false) (sym x.3)
      (not-true (is_state (named known x.0.state.key) x.0.state) pending)

  -- ---- the master after it was handled

  module _ (m : Documents) (master_by_key : AreByKey m) (new : Documents)
      (w : Wrote m (writes m rows) new) where
    some_conflict : (row : PushRow) (o : Option Stored) → is_state row.assumed row.new ≡ false
        → option_map (λ (d : Stored). d.state) o ≡ Some row.new
        → is_none (conflict_with o row) ≡ false
    some_conflict row None other is = not_none is
    some_conflict row (Some d) other is =
        let same : d.state ≡ row.new = some_same is in
        ap (λ (b : Bool). is_none (cond b None (Some d.state)))
        (ap (is_state row.assumed) same ∙ other)

    conflicts_by : (row : PushRow) (c : Option State) → Member row rows → conflict_of m row ≡ c
        → is_none (conflict_of new row) ≡ false
    conflicts_by row None h is =
        some_conflict row (named new row.new.key) (other_assumed row h)
        (push_told m master_by_key rows new w apart row h
        ∙ ap Some (real_is m master_by_key rows new w apart row None h is))
    conflicts_by row (Some s) h is =
        ap is_none
        (ap (λ (o : Option Stored). conflict_with o row)
        (met_stays m master_by_key rows new w apart row s h is (w.at row.new.key))
        ∙ is)

    none_left : (rs : List PushRow) → ((row : PushRow) → Member row rs → Member row rows)
        → writes new rs ≡ []
    none_left [] sub = refl
    none_left (row ∷ rs) sub =
        let rest = none_left rs (λ x h. sub x (inr h)) in
        let here = conflicts_by row (conflict_of m row) (sub row (inl refl)) refl in
        ap (λ (b : Bool). map (λ (row : PushRow). row.new)
        (cond b (row ∷ filter (λ row. is_none (conflict_of new row)) rs)
        (filter (λ row. is_none (conflict_of new row)) rs))) here
        ∙ rest

    -- none of its rows is taken again
    pub nothing_again : writes new rows ≡ []
    nothing_again = none_left rows (λ row h. h)
