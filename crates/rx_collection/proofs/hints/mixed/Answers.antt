use Rattle.std.proofs.Common.{refl}
use Rattle.rx_collection.specs.Hints.{mixed}
use Rattle.rx_collection.proofs.hints.mixed.Goals as goal

pub returns : goal.returns
unfolding mixed
returns c = refl
