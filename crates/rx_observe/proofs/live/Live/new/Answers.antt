use Rattle.std.proofs.Common.{[], sym, subst}
use Rattle.rx_observe.specs.Lived.{IsWhole}
use Rattle.rx_observe.proofs.Emitting.{none_observed}
use Rattle.rx_observe.proofs.live.Live.new.Goals as goal

pub invariant_of-result : goal.invariant_of-result
invariant_of-result c =
    let indexes = c.in_ok-indexes.indexes.items in
    λ whole. subst (λ fs. IsWhole c.args.collection c.new.result.items fs indexes)
    (sym c.new-2.ensures.items)
    (subst (λ qs. IsWhole c.args.collection qs [] indexes) (sym c.new.ensures.items)
    (none_observed c.args.collection indexes c.in_ok-indexes.ensures))
