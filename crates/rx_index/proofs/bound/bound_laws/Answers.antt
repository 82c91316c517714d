use Rattle.rx_index.specs.Ordered.{position_total}
use Rattle.rx_index.proofs.Positions.{position_ties, bounds_enclose}
use Rattle.rx_index.proofs.bound.bound_laws.Goals as goal

pub returns-clause-total : goal.returns-clause-total
returns-clause-total c = position_total

pub returns-clause-ties : goal.returns-clause-ties
returns-clause-ties c = position_ties

pub returns-clause-encloses : goal.returns-clause-encloses
returns-clause-encloses c = bounds_enclose
