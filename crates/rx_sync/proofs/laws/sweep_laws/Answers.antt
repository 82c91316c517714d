use Rattle.rx_sync.proofs.Sweeps.{quiet_sweep_is_equal}
use Rattle.rx_sync.proofs.SweepsInTime.{sweep_ends_in_time}
use Rattle.rx_sync.proofs.SweptTurns.{sweeps_keep_updates}
use Rattle.rx_sync.proofs.laws.sweep_laws.Goals as goal

pub returns-clause-quiet : goal.returns-clause-quiet
returns-clause-quiet c = quiet_sweep_is_equal

pub returns-clause-no_lost_update : goal.returns-clause-no_lost_update
returns-clause-no_lost_update c = sweeps_keep_updates

pub returns-clause-in_time : goal.returns-clause-in_time
returns-clause-in_time c = sweep_ends_in_time
