use Rattle.rx_steps.proofs.Stale.{earlier_are_stale, others_are_stale, stale_is_lost, stale_is_no_change, stale_is_refused}
use Rattle.rx_steps.proofs.takings.stale_laws.Goals as goal

pub returns-clause-others : goal.returns-clause-others
returns-clause-others c = others_are_stale

pub returns-clause-earlier : goal.returns-clause-earlier
returns-clause-earlier c = earlier_are_stale

pub returns-clause-no_change : goal.returns-clause-no_change
returns-clause-no_change c = stale_is_no_change

pub returns-clause-refused : goal.returns-clause-refused
returns-clause-refused c = stale_is_refused

pub returns-clause-lost : goal.returns-clause-lost
returns-clause-lost c = stale_is_lost
