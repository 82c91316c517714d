use Rattle.rx_steps.proofs.Handlings.{handlings_are_steps}
use Rattle.rx_steps.proofs.Served.{answers_are_steps, connections_are_steps}
use Rattle.rx_steps.proofs.laws.handling_laws.Goals as goal

pub returns-clause-answers : goal.returns-clause-answers
returns-clause-answers c = answers_are_steps

pub returns-clause-connections : goal.returns-clause-connections
returns-clause-connections c = connections_are_steps

pub returns-clause-handlings : goal.returns-clause-handlings
returns-clause-handlings c = handlings_are_steps
