-- What a line does with an engine and a dial, by what is heard in it of masters elsewhere.
use Rattle.std.specs.Prelude.{◌≡◌, ◌≤◌, ℕ, List, [], ◌++◌, Result, IfOk, IsOk, IsErrOf}
use Rattle.rx_disk.specs.declared.disk.Disk.{Ghosts}
use Rattle.rx_handler.specs.Handlers.{Kinds}
use Rattle.rx_outside.specs.declared.stop.Stop.{Stop}
use Rattle.rx_outside.specs.declared.stop.Stop.TheVariants.{Memory}
use Rattle.rx_store.specs.Safe.{IsCrashSafe}
use Rattle.rx_sync.specs.Remote.{Heard}
use Rattle.rx_wire.specs.declared.message.Request.{Request}
use Rattle.rx_engine.specs.Calling.{WantedCall, called, to_hear}
use Rattle.rx_engine.specs.Callings.{HasMade, IsDialledBy}
use Rattle.rx_engine.specs.Dialled.{DialStanding}
use Rattle.rx_engine.specs.Engine.{Answers, IsAt, limit_of, session_of, standing_of}
use Rattle.rx_engine.specs.Lines.{Task, answered, turns, calls, sweeps, delivers, task}
use Rattle.rx_engine.specs.Meaning.{bodies_of, meaning}
use Rattle.rx_engine.specs.Standing.{Standing}
use Rattle.rx_engine.specs.declared.engine.Engine.{Engine}
use Rattle.rx_engine.specs.declared.output.Output.{Output}

-- the dial shows what was heard in a turn: it was dialled at the port of the master, and the
-- requests that the turn made were sent; all of them but at a stop
pub record IsShown (tells : Type 0) (c : WantedCall) (s : Standing) (old new : DialStanding)
    (heard : List Heard) (Done : Type 0) : Type 0 where
  pub requests : List Request
  pub made : (later : List Heard)
      → HasMade requests (called c (to_hear (heard ++ later) s)) Done
  pub dialled : IsDialledBy tells c.port s.session.world c.name old new requests heard

-- the dial shows what was heard in a line: nothing, where it makes no turn to a master elsewhere
abbrev pub IsShownBy : Type 0 → Task → Standing → DialStanding → DialStanding → List Heard → Type 0
    → Type 0
IsShownBy tells (answered o) s old new heard Done = (heard ≡ []) × (new ≡ old)
IsShownBy tells (turns t) s old new heard Done = (heard ≡ []) × (new ≡ old)
IsShownBy tells (calls c) s old new heard Done = IsShown tells c s old new heard Done
IsShownBy tells (sweeps v) s old new heard Done = (heard ≡ []) × (new ≡ old)
IsShownBy tells (delivers d) s old new heard Done = (heard ≡ []) × (new ≡ old)

-- a line that makes no turn to a master elsewhere leaves the dial, and the count of a dial's calls
-- that failed never falls
pub record DialsForCalls {L : Type 0} (faults : L → ℕ) (t : Task) (old new : L) : Type 0 where
  pub undialled : ((c : WantedCall) → t ≡ calls c → ⊥) → new ≡ old
  pub count : faults old ≤ faults new

-- A line is played, and this is heard in it. Whatever is to be heard later, the answer is that of
-- its meaning, and its records come to the disk one after another: those that are due depend on
-- what was heard before them alone.
pub record PlaysLine
    {D : Type 0}
    (d : Ghosts D)
    (tells : Type 0)
    (kinds : Kinds)
    (number : ℕ)
    (text : List ℕ)
    (old new : D)
    (dial dial' : DialStanding)
    (e : Engine)
    (result : Result (Engine × Output) Stop) : Type 0 where
  pub heard : List Heard
  pub answers : (later : List Heard) → IfOk result (λ p. Answers kinds later
      (meaning number text (standing_of kinds (heard ++ later) e)) p.0 p.1)
  pub safe : (later : List Heard) → d.tells → (bodies : List (List ℕ)) → IsAt d old e bodies
      → IsCrashSafe d old new bodies
      (bodies_of (meaning number text (standing_of kinds (heard ++ later) e)).records)
      (limit_of e) (λ p. IsAt d new p.0) result
  -- the dial shows what was heard, but where memory was wanting
  pub shown : (IsErrOf result Memory → ⊥)
      → IsShownBy tells (task kinds text (session_of e)) (standing_of kinds [] e) dial dial' heard
      (IsOk result)
