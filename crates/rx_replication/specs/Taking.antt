-- How a fork takes an answer.
use Rattle.std.specs.Prelude.{◌≡◌, ℕ, not, List, [], ◌∷◌, map, Option, Some, None, if◌then◌else◌}
use Rattle.std.specs.List.{filter}
use Rattle.std.specs.Str.{bytes_eq}
use Rattle.rx_value.specs.Equal.{state_eq}
use Rattle.rx_value.specs.Named.{named}
use Rattle.rx_value.specs.declared.state.State.{State}
use Rattle.rx_document.specs.Documents.{Documents}
use Rattle.rx_document.specs.declared.place.Place.{Place}
use Rattle.rx_document.specs.declared.stored.Stored.{Stored}
use Rattle.rx_collection.specs.Since.{place_of}
use Rattle.rx_wire.specs.declared.message.AskKind.{AskKind}
use Rattle.rx_wire.specs.declared.message.AskKind.TheVariants.{Push, Pull}
use Rattle.rx_wire.specs.declared.message.Body.{Body}
use Rattle.rx_wire.specs.declared.message.Body.TheVariants.{Conflicts, Docs}
use Rattle.rx_wire.specs.declared.message.PushRow.{PushRow}
use Rattle.rx_replication.specs.Known.{is_state}
use Rattle.rx_replication.specs.Write.{state_at}

-- what a conflict becomes: of the master's real state and the fork's new one, in this order
abbrev pub Resolve : Type 0
Resolve = State → State → State

-- the answer carries the key of both
abbrev pub KeepsKey : Resolve → Type 0
KeepsKey resolve = (real new : State) → real.key ≡ new.key → (resolve real new).key ≡ new.key

-- ---- a push

-- the conflict of a key
abbrev pub conflict_at : List ℕ → List State → Option State
conflict_at key [] = None
conflict_at key (s ∷ ss) = if bytes_eq s.key key then Some s else conflict_at key ss

-- the real state of a row: that of its conflict, or else the new one, which the master has taken
abbrev pub real_or : Option State → State → State
real_or None new = new
real_or (Some real) new = real

abbrev pub real_state : List State → PushRow → State
real_state cs row = real_or (conflict_at row.new.key cs) row.new

-- the handler's answers, one for each row whose real state is another
abbrev pub resolutions : Resolve → List State → List PushRow → List State
resolutions resolve cs rows =
    map (λ row. resolve (real_state cs row) row.new)
    (filter (λ row. not (state_eq (real_state cs row) row.new)) rows)

-- the place of a document, or the given one where there is none
abbrev pub place_or : Option Place → Option Stored → Option Place
place_or place None = place
place_or place (Some d) = Some (place_of d)

-- the place that the last row has in the fork
abbrev pub pushed_place : Documents → Option Place → List PushRow → Option Place
pushed_place fork up [] = up
pushed_place fork up (row ∷ rows) =
    pushed_place fork (place_or up (named fork row.new.key)) rows

-- ---- a pull

-- the states that the fork doesn't hold
abbrev pub differences : Documents → List State → List State
differences fork ss = filter (λ s. not (is_state (state_at fork s.key) s)) ss

-- ---- both

-- what a taking writes and what becomes known, and the checkpoints after it
pub record Taking : Type 0 where
  pub rows : List State
  pub known : List State
  pub up : Option Place
  pub down : Option Place

-- that of an answer, where it is of the asked kind
abbrev pub taking : Resolve → Documents → Option Place → Option Place → AskKind → Body
    → Option Taking
taking resolve fork up down (Push rows) (Conflicts cs) = Some (record {
  rows = resolutions resolve cs rows;
  known = map (real_state cs) rows;
  up = pushed_place fork up rows;
  down = down;
})
taking resolve fork up down (Pull place batch) (Docs ss to) =
    Some (record { rows = differences fork ss; known = ss; up = up; down = to })
taking resolve fork up down (Push rows) (Docs ss to) = None
taking resolve fork up down (Pull place batch) (Conflicts cs) = None
