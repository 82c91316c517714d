use Rattle.rx_steps.proofs.Clock.{turn_stops}
use Rattle.rx_steps.proofs.ClockElsewhere.{call_stops}
use Rattle.rx_steps.proofs.takings.exchange_laws.Goals as goal

pub returns-clause-clock : goal.returns-clause-clock
returns-clause-clock c = turn_stops

pub returns-clause-clock_elsewhere : goal.returns-clause-clock_elsewhere
returns-clause-clock_elsewhere c = call_stops
