use Rattle.rx_document.specs.Place.{place_total}
use Rattle.rx_document.proofs.Places.{place_ties}
use Rattle.rx_document.proofs.place.place_laws.Goals as goal

pub returns-clause-total : goal.returns-clause-total
returns-clause-total c = place_total

pub returns-clause-ties : goal.returns-clause-ties
returns-clause-ties c = place_ties
