-- What the dial shows of the lines of a script: what was heard in each of masters elsewhere.
use Rattle.std.specs.Prelude.{◌≡◌, ◌≢◌, ◌⊎◌, ℕ, ◌+◌, List, [], ◌∷◌, ◌++◌, Bool, true, false, Result, Ok, Err}
use Rattle.rx_engine.specs.Dialled.{DialStanding}
use Rattle.rx_engine.specs.Engine.{IsUnharmedBy}
use Rattle.rx_engine.specs.Hearing.{IsShownBy}
use Rattle.rx_engine.specs.Lines.{task}
use Rattle.rx_engine.specs.Standing.{Standing}
use Rattle.rx_outside.specs.declared.dial.Dial.{Ghosts}
use Rattle.rx_outside.specs.declared.stop.Stop.TheVariants.{Memory}
use Rattle.rx_sync.specs.Remote.{Heard}
use Rattle.rx_top.specs.Lines.{is_blank}
use Rattle.rx_top.specs.Script.{line_effect}
use Rattle.rx_top.specs.Story.{state_after}
use Rattle.rx_top.specs.declared.early_end.EarlyEnd.{EarlyEnd}
use Rattle.rx_top.specs.declared.early_end.EarlyEnd.TheVariants.{Read, Sink, Work}

-- how a dial stands
abbrev pub stands : {N W : Type 0} → Ghosts N W → N → DialStanding
stands n dial = record {
  faults = n.faults dial;
  broken = n.broken dial;
  talks = n.talks dial;
  asked = n.asked dial;
}

-- it shows what was heard in a line; in a blank one nothing was
abbrev pub IsShownAt : Type 0 → List ℕ → Standing → DialStanding → DialStanding → List Heard
    → Type 0 → Type 0
IsShownAt wires line s old new heard Done =
    (is_blank line ≡ true → (heard ≡ []) × (new ≡ old))
    × (is_blank line ≡ false → IsShownBy wires (task s.kinds line s.session) s old new heard Done)

-- in lines that are done, one after another: of what was to be heard each took what was heard in it
abbrev pub HearsLines : Type 0 → ℕ → List (List ℕ) → Standing → DialStanding → DialStanding → Type 0
HearsLines wires n [] s old new = new ≡ old
HearsLines wires n (l ∷ ls) s old new =
    let next = (line_effect n l s).next in
    (heard : List Heard) × (between : DialStanding) × (s.heard ≡ heard ++ next.heard)
    × IsShownAt wires l s old between heard (Unit {0})
    × HearsLines wires (n + 1) ls next between new

-- nothing was heard any more
abbrev pub HearsNothing : Standing → DialStanding → DialStanding → Type 0
HearsNothing s old new = (s.heard ≡ []) × (new ≡ old)

-- in the line at which work stopped, of which not all may be done; no master harmed a fork in it;
-- nothing of it is said where memory was wanting
abbrev pub HearsLast
    : Type 0 → Result Bool EarlyEnd → List (List ℕ) → Standing → DialStanding → DialStanding
    → Type 0
HearsLast wires (Ok refused) rest s old new = HearsNothing s old new
HearsLast wires (Err (Read fault)) rest s old new = HearsNothing s old new
HearsLast wires (Err Sink) rest s old new = HearsNothing s old new
HearsLast wires (Err (Work why)) rest s old new =
    why ≢ Memory → HearsNothing s old new
    ⊎ ((l : List ℕ) × (ls : List (List ℕ)) × (rest ≡ l ∷ ls) × IsShownAt wires l s old new s.heard ⊥
    × (is_blank l ≡ false → IsUnharmedBy l s))

-- in all lines, by how their play ended: those done and the rest
pub record HearsAll
    (wires : Type 0)
    (s : Standing)
    (old new : DialStanding)
    (ended : Result Bool EarlyEnd)
    (done rest : List (List ℕ)) : Type 0 where
  pub between : DialStanding
  pub lines : HearsLines wires 1 done s old between
  pub last : HearsLast wires ended rest (state_after line_effect 1 done s) between new
