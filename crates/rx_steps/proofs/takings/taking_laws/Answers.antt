use Rattle.rx_steps.proofs.Learns.{taking_learns}
use Rattle.rx_steps.proofs.Refused.{foreign_is_refused, moved_is_refused}
use Rattle.rx_steps.proofs.takings.taking_laws.Goals as goal

pub returns-clause-known_only : goal.returns-clause-known_only
returns-clause-known_only c = taking_learns

pub returns-clause-foreign : goal.returns-clause-foreign
returns-clause-foreign c = foreign_is_refused

pub returns-clause-moved : goal.returns-clause-moved
returns-clause-moved c = moved_is_refused
