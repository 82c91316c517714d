use Rattle.std.proofs.Common.{sym, subst}
use Rattle.rx_meta.specs.Side.{AreKnownByKey}
use Rattle.rx_meta.proofs.After.{known_stay}
use Rattle.rx_meta.proofs.meta.Meta.migrated.Goals as goal

pub invariant_of-result : goal.invariant_of-result
invariant_of-result c =
    subst AreKnownByKey (sym c.in_ok-known.ensures)
    (known_stay c.args.steps.now c.self.inside.known c.self.invariant)
