-- The line that makes the turns of a tree.
use Rattle.std.specs.Prelude.{ℕ, List, Bool, true, false, is_some, Result, Ok}
use Rattle.std.specs.List.{list_all}
use Rattle.std.specs.Option.{option_map_or}
use Rattle.rx_value.specs.Due.{◌>>◌, demand}
use Rattle.rx_value.specs.Named.{named}
use Rattle.rx_handler.specs.Handlers.{Kinds}
use Rattle.rx_reply.specs.declared.refusal.Refusal.TheVariants.{NoHandler}
use Rattle.rx_reply.specs.declared.turn.TurnEnd.{TurnEnd}
use Rattle.rx_reply.specs.declared.turn.TurnEnd.TheVariants.{Quiet, Lost, Clock, More}
use Rattle.rx_session.specs.Session.{Session}
use Rattle.rx_sync.specs.Sweep.{Sweep, Swept, sweep, sweep_steps}
use Rattle.rx_sync.specs.declared.sweeping.Step.{Step}
use Rattle.rx_world.specs.World.{World}
use Rattle.rx_writes.specs.declared.fault.Fault.{Fault}
use Rattle.rx_writes.specs.declared.fault.Fault.TheVariants.{Refused}
use Rattle.rx_engine.specs.Outcome.{collection_at}
use Rattle.rx_engine.specs.Standing.{Standing}

-- ---- whether a sweep is made

-- these turns, one after another: of so many documents an exchange, so many exchanges at most each
pub record WantedSweep : Type 0 where
  pub steps : List Step
  pub batch : ℕ
  pub budget : ℕ

-- the handler of a turn's replication is there
abbrev pub is_step_handled : Kinds → World → Step → Bool
is_step_handled kinds w step =
    option_map_or (λ r. is_some (named kinds r.handler)) (named w.replications step.name) false

-- the sweep over the tree of a collection, which is to be held, as is the handler of each
-- replication of the tree
abbrev pub swept_at : Kinds → List ℕ → ℕ → ℕ → Session → Result WantedSweep Fault
swept_at kinds name batch budget s =
    collection_at name s >> λ _.
    demand (list_all (is_step_handled kinds s.world) (sweep_steps s.world name))
    (Refused NoHandler) >> λ _.
    Ok (record { steps = sweep_steps s.world name; batch = batch; budget = budget })

-- ---- what it does

-- how it sweeps
abbrev pub sweep_by : WantedSweep → Standing → Sweep
sweep_by v s = record {
  batch = v.batch;
  budget = v.budget;
  now = s.session.moment;
  kinds = s.kinds;
}

-- its records, its turns, and how the last one ended
abbrev pub swept : WantedSweep → Standing → Swept
swept v s = sweep (sweep_by v s) v.steps s.session.world s.asks

abbrev pub is_quiet : TurnEnd → Bool
is_quiet Quiet = true
is_quiet Lost = false
is_quiet Clock = false
is_quiet More = false
