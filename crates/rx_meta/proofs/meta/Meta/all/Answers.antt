use Rattle.std.specs.Map.Iter.{deref}
use Rattle.rx_value.specs.declared.state.State.{State}
use Rattle.rx_runs.proofs.Shown.{shows_in_order}
use Rattle.rx_meta.proofs.meta.Meta.all.Goals as goal

pub returns-clause-runs : goal.returns-clause-runs
returns-clause-runs c = shows_in_order (deref {X = State})
