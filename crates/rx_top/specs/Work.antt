-- What the work on one line came to.
use Rattle.std.specs.Prelude.{◌≡◌, ℕ, List, [], ◌++◌, Bool, false, Option, None, Some, Result, Ok, Err, IfOk, IsOk, OnOk, IsErrOf}
use Rattle.rx_disk.specs.declared.disk.Disk.{Ghosts}
use Rattle.rx_engine.specs.Dialled.{DialStanding}
use Rattle.rx_engine.specs.Engine.{IsAt, IsUnharmedBy, limit_of, standing_of}
use Rattle.rx_engine.specs.declared.engine.Engine.{Engine}
use Rattle.rx_handler.specs.Handlers.{Kinds}
use Rattle.rx_outside.specs.Sink.{WritesFront}
use Rattle.rx_outside.specs.declared.stop.Stop.{Stop}
use Rattle.rx_outside.specs.declared.stop.Stop.TheVariants.{Memory}
use Rattle.rx_store.specs.Holds.{Leaves}
use Rattle.rx_store.specs.Safe.{IsCrashSafe}
use Rattle.rx_sync.specs.Remote.{Heard}
use Rattle.rx_top.specs.Hears.{IsShownAt}
use Rattle.rx_top.specs.Lines.{is_blank}
use Rattle.rx_top.specs.Script.{line_effect}
use Rattle.rx_top.specs.Turns.{HoldsOfTurn}
use Rattle.rx_top.specs.declared.early_end.EarlyEnd.{EarlyEnd}
use Rattle.rx_top.specs.declared.early_end.EarlyEnd.TheVariants.{Read, Sink, Work}

-- it was done, and there is the engine after it unless the sink failed; or it stopped
abbrev pub work_of : Result (Engine × Bool) EarlyEnd → Result (Option Engine) Stop
work_of (Ok pair) = Ok (Some pair.0)
work_of (Err (Work stop)) = Err stop
work_of (Err (Read fault)) = Ok None
work_of (Err Sink) = Ok None

-- the disk has these bodies, and it is the engine's, where there is one
abbrev pub HasAll : {D : Type 0} → Ghosts D → D → Option Engine → List (List ℕ) → Type 0
HasAll d disk None bodies = Leaves d disk bodies []
HasAll d disk (Some engine) bodies = IsAt d disk engine bodies

-- A line was worked on, and this was heard in it. Whatever is to be heard later, what was done is
-- what the line does: the next engine, the bytes written, and the records, wherever it stopped.
pub record WorksLine
    {D : Type 0}
    (d : Ghosts D)
    (kinds : Kinds)
    (wires k_tells : Type 0)
    (number : ℕ)
    (line : List ℕ)
    (engine : Engine)
    (old new : D)
    (dial dial' : DialStanding)
    (written written' : List ℕ)
    (result : Result (Engine × Bool) EarlyEnd) : Type 0 where
  pub heard : List Heard
  pub next : (later : List Heard) → IfOk result (λ p. standing_of kinds later p.0
      ≡ (line_effect number line (standing_of kinds (heard ++ later) engine)).next)
  pub refused : (later : List Heard) → IfOk result (λ p.
      p.1 ≡ (line_effect number line (standing_of kinds (heard ++ later) engine)).refused)
  pub told : (later : List Heard) → k_tells → OnOk result (written'
      ≡ written ++ (line_effect number line (standing_of kinds (heard ++ later) engine)).reply)
  pub front : (later : List Heard) → k_tells → IsErrOf result Sink → WritesFront written written'
      (line_effect number line (standing_of kinds (heard ++ later) engine)).reply
  pub safe : (later : List Heard) → d.tells → (bodies : List (List ℕ)) → IsAt d old engine bodies
      → IsCrashSafe d old new bodies
      (line_effect number line (standing_of kinds (heard ++ later) engine)).bodies
      (limit_of engine) (HasAll d new) (work_of result)
  pub turn : (later : List Heard) → OnOk (work_of result) (HoldsOfTurn number line
      (standing_of kinds (heard ++ later) engine)
      (line_effect number line (standing_of kinds (heard ++ later) engine)).next)
  -- no master elsewhere harms a fork, but nothing is said where memory was wanting
  pub unharmed : (later : List Heard) → (IsErrOf result (Work Memory) → ⊥) → is_blank line ≡ false
      → IsUnharmedBy line (standing_of kinds (heard ++ later) engine)
  -- what is to be heard later stays so
  pub later_so : (later : List Heard) → OnOk (work_of result)
      ((line_effect number line (standing_of kinds (heard ++ later) engine)).next.heard ≡ later)
  -- but where memory was wanting
  pub shown : (later : List Heard) → (IsErrOf result (Work Memory) → ⊥)
      → IsShownAt wires line (standing_of kinds (heard ++ later) engine) dial dial' heard
      (IsOk (work_of result))
