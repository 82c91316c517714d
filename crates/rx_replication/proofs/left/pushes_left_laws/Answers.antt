use Rattle.rx_replication.proofs.Bound.{lowers, pushed_twice, in_time, quiet_equal}
use Rattle.rx_replication.proofs.Exchanges.{exchange_steps}
use Rattle.rx_replication.proofs.left.pushes_left_laws.Goals as goal

pub returns-clause-lowered : goal.returns-clause-lowered
returns-clause-lowered c = lowers

pub returns-clause-twice : goal.returns-clause-twice
returns-clause-twice c = pushed_twice

pub returns-clause-in_time : goal.returns-clause-in_time
returns-clause-in_time c = in_time

pub returns-clause-equal : goal.returns-clause-equal
returns-clause-equal c = quiet_equal

pub returns-clause-steps : goal.returns-clause-steps
returns-clause-steps c = exchange_steps
