-- Lines that make turns of one replication, one after another, and what else stands between them.
use Rattle.std.specs.Prelude.{◌≡◌, ◌⊎◌, ℕ, ◌+◌, ◌≤◌, List, [], ◌∷◌, ◌++◌, length, false, Option, Some, None, if◌then◌else◌}
use Rattle.rx_disk.specs.declared.disk.Disk.{Ghosts}
use Rattle.rx_outside.specs.declared.dial.Dial.{Ghosts as DialGhosts}
use Rattle.rx_outside.specs.declared.sink.Sink.{Ghosts as SinkGhosts}
use Rattle.rx_outside.specs.declared.source.Source.{Ghosts as SourceGhosts}
use Rattle.rx_engine.specs.Lines.{Task, turns, task}
use Rattle.rx_engine.specs.Standing.{Standing}
use Rattle.rx_engine.specs.Turning.{WantedTurn, turned}
use Rattle.rx_sync.specs.Bound.{AreOk, ForLink, enough, is_done, link_in}
use Rattle.rx_sync.specs.Laws.{IsReady}
use Rattle.rx_sync.specs.Turn.{Turned}
use Rattle.rx_top.specs.Lines.{is_blank}
use Rattle.rx_top.specs.RunEnds.{IsPlayedWhole, Ran, first, input}
use Rattle.rx_top.specs.Script.{line_effect}
use Rattle.rx_top.specs.Start.{FromStart}
use Rattle.rx_top.specs.Story.{state_after}

-- the turn that a task is, where it is one
abbrev pub turn_made : Task → Standing → Option Turned
turn_made (turns t) s = Some (turned t s)
turn_made other s = None

-- the line makes one whose link does nothing, of one document an exchange at least, as a line that
-- is read does
pub record MakesTurnOf (name : List ℕ) (line : List ℕ) (s : Standing) : Type 0 where
  pub wanted : WantedTurn
  pub some_line : is_blank line ≡ false
  pub is : task s.kinds line s.session ≡ turns wanted
  pub by_name : wanted.name ≡ name
  pub some : 1 ≤ wanted.batch
  pub ok : AreOk wanted.link

-- the line makes none and writes nothing, as a blank one, or one that only asks
pub record WritesNothing (n : ℕ) (line : List ℕ) (s : Standing) : Type 0 where
  pub no_turn : turn_made (task s.kinds line s.session) s ≡ None
  pub same_world : (line_effect n line s).next.session.world ≡ s.session.world
  pub same_kinds : (line_effect n line s).next.kinds ≡ s.kinds

-- each of them does one or the other
abbrev pub AreTurnsOf : List ℕ → ℕ → List (List ℕ) → Standing → Type 0
AreTurnsOf name n [] s = Unit {0}
AreTurnsOf name n (l ∷ ls) s =
    (MakesTurnOf name l s ⊎ WritesNothing n l s)
    × AreTurnsOf name (n + 1) ls (line_effect n l s).next

-- the exchanges of a turn and those behind it, where it isn't the last that is needed
abbrev pub with_those_behind : Option Turned → ℕ → ℕ
with_those_behind None more = more
with_those_behind (Some u) more = length u.exchanges + (if is_done u.ended then 0 else more)

-- how many exchanges lines make, up to and with the first turn that is quiet or finds no write time
abbrev pub exchanges_by : ℕ → List (List ℕ) → Standing → ℕ
exchanges_by n [] s = 0
exchanges_by n (l ∷ ls) s =
    with_those_behind (turn_made (task s.kinds l s.session) s)
    (exchanges_by (n + 1) ls (line_effect n l s).next)

-- no more than are enough before the first of them
abbrev pub TurnLinesEndInTime : Type 0
TurnLinesEndInTime =
    (name : List ℕ) (n : ℕ) (lines : List (List ℕ)) (s : Standing)
    → IsReady s.session.world name s.kinds → AreTurnsOf name n lines s
    → ForLink s.session.world name (λ l. exchanges_by n lines s ≤ enough l)

-- So do those of a run that was played whole, wherever in its input they stand: that the first of
-- them may be made follows from what the run keeps.
abbrev pub RunTurnsEndInTime
    : {S K D N W : Type 0} → SourceGhosts S → SinkGhosts K → Ghosts D → DialGhosts N W → Type 0
    → Type 0
RunTurnsEndInTime s k d n wires =
    (r : Ran s k d n wires) → s.tells → FromStart d r.disk (λ bodies w.
    IsPlayedWhole s k d n wires r bodies w
    → (before these after : List (List ℕ))
    → input s k d n wires r bodies w ≡ before ++ (these ++ after) → (name : List ℕ)
    → let at = state_after line_effect 1 before (first s k d n wires r bodies w) in
    AreTurnsOf name (1 + length before) these at
    → (l : _) → link_in at.session.world name ≡ Some l
    → exchanges_by (1 + length before) these at ≤ enough l)
