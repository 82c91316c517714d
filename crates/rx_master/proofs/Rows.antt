-- Rows of a push, one after another.
use Rattle.std.proofs.Common.{◌≡◌, cond, List, ◌∷◌, map, Some, None, is_none, ap}
use Rattle.std.specs.List.{filter, cons_option}
use Rattle.rx_value.specs.declared.state.State.{State}
use Rattle.rx_document.specs.Documents.{Documents}
use Rattle.rx_wire.specs.declared.message.PushRow.{PushRow}
use Rattle.rx_replication.specs.Master.{conflict_of, conflicts, writes}

-- ---- what a row that is taken, or not, adds

module _ (master : Documents) where
  pub writes-taken : (row : PushRow) (rows : List PushRow) → conflict_of master row ≡ None
      → writes master (row ∷ rows) ≡ row.new ∷ writes master rows
  writes-taken row rows is =
      ap (λ o. map (λ (r : PushRow). r.new)
      (cond (is_none o) (row ∷ filter (λ r. is_none (conflict_of master r)) rows)
      (filter (λ r. is_none (conflict_of master r)) rows))) is

  pub writes-refused : (row : PushRow) (rows : List PushRow) (s : State)
      → conflict_of master row ≡ Some s → writes master (row ∷ rows) ≡ writes master rows
  writes-refused row rows s is =
      ap (λ o. map (λ (r : PushRow). r.new)
      (cond (is_none o) (row ∷ filter (λ r. is_none (conflict_of master r)) rows)
      (filter (λ r. is_none (conflict_of master r)) rows))) is

  pub conflicts-taken : (row : PushRow) (rows : List PushRow) → conflict_of master row ≡ None
      → conflicts master (row ∷ rows) ≡ conflicts master rows
  conflicts-taken row rows is = ap (λ o. cons_option o (conflicts master rows)) is

  pub conflicts-refused : (row : PushRow) (rows : List PushRow) (s : State)
      → conflict_of master row ≡ Some s → conflicts master (row ∷ rows) ≡ s ∷ conflicts master rows
  conflicts-refused row rows s is = ap (λ o. cons_option o (conflicts master rows)) is
