use Rattle.rx_observe.proofs.Applying.{fresh_ready}
use Rattle.rx_observe.proofs.Fresh.{from_scratch}
use Rattle.rx_observe.proofs.laws.observed_laws.Goals as goal

pub returns : goal.returns
returns c = record { from_scratch = from_scratch; ready = fresh_ready }
