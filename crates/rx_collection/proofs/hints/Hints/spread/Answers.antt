use Rattle.std.proofs.Common.{length, subst}
use Rattle.rx_collection.specs.Hints.{AreSpread}
use Rattle.rx_collection.proofs.hints.Hints.spread.Goals as goal

pub returns : goal.returns
returns c = λ whole.
    subst (λ ps. AreSpread ps (length ps) c.keep_all.new.self.places.items)
    c.as_slice.ensures.value (c.keep_all.ensures whole)
