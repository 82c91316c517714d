-- A sweep that a line asks for can be made.
use Rattle.std.proofs.Common.{◌≡◌, ◌∙◌, ap, sym, subst, ℕ, List, [], ◌∷◌, Result, Ok, Err, IfOk}
use Rattle.std.specs.List.{AllByRecursion}
use Rattle.rx_value.specs.Due.{◌>>◌, lifted}
use Rattle.rx_handler.specs.Handlers.{Kinds}
use Rattle.rx_script.specs.Asked.{Asked, Sweep}
use Rattle.rx_script.specs.Line.{line_of}
use Rattle.rx_script.specs.declared.fault.LineFault.{LineFault}
use Rattle.rx_session.specs.Session.{Session}
use Rattle.rx_sync.specs.Laws.{HasMasterHere}
use Rattle.rx_sync.specs.Sweep.{HasHandler, sweep_steps}
use Rattle.rx_sync.proofs.StepsHere.{steps_here}
use Rattle.rx_sync.specs.declared.sweeping.Step.{Step}
use Rattle.rx_world.specs.Made.{IsMadeWorld}
use Rattle.rx_writes.specs.Faults.{of_line}
use Rattle.rx_writes.specs.declared.fault.Fault.{Fault}
use Rattle.rx_writes.specs.declared.fault.Fault.TheVariants.{Refused, Memory}
use Rattle.rx_engine.specs.Lines.{sweeps, asked_task, task, task_or_refusal}
use Rattle.rx_engine.specs.Sweeping.{WantedSweep, swept_at}
use Rattle.rx_engine.specs.Sweeps.{CanSweep}
use Rattle.rx_engine.proofs.CanDo.{CanDo, IsSweptAt, can_do, swept_by}

can_all : (kinds : Kinds) (s : Session) (steps : List Step)
    → AllByRecursion (λ (step : Step). HasHandler kinds s.world step.name) steps
    → AllByRecursion (λ (step : Step). HasMasterHere s.world step.name) steps
    → CanSweep kinds s steps
can_all kinds s [] handled here = tt
can_all kinds s (step ∷ steps) handled here =
    let kind = handled.0 here.0.replication here.0.held in (
      record { here = here.0; kind = kind.0; handler = kind.1 },
      can_all kinds s steps handled.1 here.1,
    )

-- its turns are those of the tree of the collection that the line names
pub swept_over : (kinds : Kinds) (line : List ℕ) (s : Session) (v : WantedSweep) (root : List ℕ)
    (batch budget : ℕ) → line_of line ≡ Ok (Sweep root batch budget)
    → task kinds line s ≡ sweeps v → IsSweptAt kinds root s v
swept_over kinds line s v root batch budget asks is =
    over (swept_at kinds root batch budget s) (swept_by kinds s root batch budget)
    (ap (λ (r : Result Asked LineFault).
    task_or_refusal (lifted of_line r >> λ ask. asked_task kinds ask s)) (sym asks) ∙ is)
  where
    over : (r : Result WantedSweep Fault) → IfOk r (IsSweptAt kinds root s)
        → task_or_refusal (r >> λ v. Ok (sweeps v)) ≡ sweeps v → IsSweptAt kinds root s v
    over (Ok x) at same = let x_is : x ≡ v = cc in subst (IsSweptAt kinds root s) x_is at
    over (Err (Refused refusal)) at same = absurd (cc)
    over (Err Memory) at same = absurd (cc)

-- each of its turns can be made
pub can_sweep : (kinds : Kinds) (line : List ℕ) (s : Session) (v : WantedSweep)
    → IsMadeWorld s.world
    → task kinds line s ≡ sweeps v → CanSweep kinds s v.steps
can_sweep kinds line s v made is =
    let found : CanDo kinds s (sweeps v) = subst (CanDo kinds s) is (can_do kinds s line) in
    subst (CanSweep kinds s) (sym found.1.steps)
    (can_all kinds s (sweep_steps s.world found.0) found.1.handled
    (steps_here s.world made found.0))
