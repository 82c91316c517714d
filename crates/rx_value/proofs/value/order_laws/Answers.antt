use Rattle.rx_value.proofs.Ordered.{order_total, order_ties}
use Rattle.rx_value.proofs.value.order_laws.Goals as goal

pub returns-clause-total : goal.returns-clause-total
returns-clause-total c = order_total

pub returns-clause-ties : goal.returns-clause-ties
returns-clause-ties c = order_ties
