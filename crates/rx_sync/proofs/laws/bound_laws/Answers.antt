use Rattle.rx_sync.proofs.Bound.{exchanges_lower, turn_in_time, turn_pushes_twice, turns_in_time}
use Rattle.rx_sync.proofs.laws.bound_laws.Goals as goal

pub returns-clause-lowered : goal.returns-clause-lowered
returns-clause-lowered c = exchanges_lower

pub returns-clause-twice : goal.returns-clause-twice
returns-clause-twice c = turn_pushes_twice

pub returns-clause-in_time : goal.returns-clause-in_time
returns-clause-in_time c = turn_in_time

pub returns-clause-in_time_over_turns : goal.returns-clause-in_time_over_turns
returns-clause-in_time_over_turns c = turns_in_time
