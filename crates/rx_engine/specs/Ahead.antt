-- An engine that is ahead of its disk: records of lines that were played are still to be written.
use Rattle.std.specs.Prelude.{◌≡◌, ◌++◌, ℕ, List, [], None, length, string_bytes, vec_len}
use Rattle.rx_disk.specs.declared.disk.Disk.{Ghosts}
use Rattle.rx_handler.specs.Handlers.{Kinds}
use Rattle.rx_observe.specs.declared.emission.Emission.{Emission}
use Rattle.rx_session.specs.Doing.{Doing, session_after}
use Rattle.rx_session.specs.Emissions.{emissions, settled_session}
use Rattle.rx_store.specs.Staged.{Adds, HoldsDue}
use Rattle.rx_sync.specs.Remote.{Heard}
use Rattle.rx_engine.specs.Engine.{Answers, asks_in, session_of, standing_of}
use Rattle.rx_engine.specs.Kept.{IsInOrder, IsWellMeant}
use Rattle.rx_engine.specs.Lines.{answered, task}
use Rattle.rx_engine.specs.Meaning.{asks_kept, bodies_of, lines_of, meaning, records_of}
use Rattle.rx_engine.specs.Outcome.{Outcome}
use Rattle.rx_engine.specs.declared.engine.Engine.{Engine}
use Rattle.rx_engine.specs.Shown.{doing_of}
use Rattle.rx_engine.specs.declared.judging.Printed.{Printed}
use Rattle.rx_engine.specs.declared.output.Output.{Output}
use Rattle.rx_engine.specs.declared.grouping.Changed.{Changed}
use Rattle.rx_engine.specs.declared.grouping.Changed.TheVariants as changed
use Rattle.rx_engine.specs.declared.grouping.Staged.{Staged}
use Rattle.rx_engine.specs.declared.grouping.Staged.TheVariants as staged

-- the disk holds these bodies, some more are to be written, and with them they make the engine's
-- world
abbrev pub IsAhead
    : {D : Type 0} → Ghosts D → D → Engine → List (List ℕ) → List (List ℕ) → Type 0
IsAhead d disk e bodies more = HoldsDue d disk e.journal bodies more (session_of e).world

-- an engine is to write some bodies more than another
abbrev pub AddsTo : Engine → Engine → List (List ℕ) → Type 0
AddsTo e next due =
    Adds e.journal next.journal (session_of e).world (session_of next).world due

-- how many bytes are to be written
abbrev pub staged_len : Engine → ℕ
staged_len e = vec_len e.journal.staged

-- an engine is as another, with as much to be written
pub record IsLeft (e next : Engine) : Type 0 where
  pub same : (kinds : Kinds) (heard : List Heard)
      → standing_of kinds heard next ≡ standing_of kinds heard e
  pub adds : AddsTo e next []

-- A line was played, and its records are to be written: it makes no turn and no delivery, and
-- whatever is to be heard of masters elsewhere, its answer is that of its meaning.
pub record PlaysAhead
    (kinds : Kinds)
    (number : ℕ)
    (text : List ℕ)
    (e next : Engine)
    (o : Output) : Type 0 where
  pub outcome : Outcome
  pub is : task kinds text (session_of e) ≡ answered outcome
  pub meant : (heard : List Heard) → IsWellMeant text (standing_of kinds heard e)
  pub in_order : IsInOrder (task kinds text (session_of e)) (session_of e)
  pub answers : (heard : List Heard)
      → Answers kinds heard (meaning number text (standing_of kinds heard e)) next o
  pub adds : (heard : List Heard)
      → AddsTo e next (bodies_of (meaning number text (standing_of kinds heard e)).records)

-- so it was, or nothing of it was done
abbrev pub StagesLine : Kinds → ℕ → List ℕ → Engine → Staged → Type 0
StagesLine kinds number text e (staged.Played next o) = PlaysAhead kinds number text e next o
StagesLine kinds number text e (staged.Alone next) = IsLeft e next

-- something was done to the session of an engine, and its record is to be written
pub record ChangesAhead (d : Doing) (e next : Engine) (due : List Emission) : Type 0 where
  pub session : session_of next ≡ settled_session (session_after d (session_of e))
  pub emissions : due ≡ emissions (session_after d (session_of e))
  pub asks : asks_in next ≡ asks_in e
  pub adds : AddsTo e next (bodies_of (records_of d))

-- so it was, or nothing was done
abbrev pub StagesDoing : Doing → Engine → Changed → Type 0
StagesDoing d e (changed.Done next due) = ChangesAhead d e next due.items
StagesDoing d e (changed.Alone next) = IsLeft e next

-- what was printed was done, and answered
pub record AnswersAhead (p : Printed) (e next : Engine) (o : Output) : Type 0 where
  pub session : session_of next ≡ settled_session (session_after (doing_of p.doing) (session_of e))
  pub asks : asks_in next ≡ asks_kept (doing_of p.doing) (session_of e).world (asks_in e)
  pub text : string_bytes o.text ≡ string_bytes p.text
      ++ lines_of (emissions (session_after (doing_of p.doing) (session_of e)))
  pub emitted : o.emissions ≡ length (emissions (session_after (doing_of p.doing) (session_of e)))
  pub refused : o.refused ≡ p.refused
  pub ended : o.end ≡ None
  pub adds : AddsTo e next (bodies_of (records_of (doing_of p.doing)))

-- so it was, or nothing was done
abbrev pub StagesPrinted : Printed → Engine → Staged → Type 0
StagesPrinted p e (staged.Played next o) = AnswersAhead p e next o
StagesPrinted p e (staged.Alone next) = IsLeft e next
