use Rattle.std.proofs.Common.{arith, get_or, refl}
use Rattle.rx_collection.proofs.Hinted.{spread_more}
use Rattle.rx_collection.proofs.hints.Hints.keep_all.Goals as goal

pub loop-place-preserved : goal.loop-place-preserved
loop-place-preserved c = λ whole.
    let places = c.args.places.now in
    let i = c.loop-place.place-index in
    spread_more places c.loop-place.self.places.items c.keep.new.self.places.items i
    (get_or places i (0, 0)) (c.loop-place.invariant (c.keep.ensures.whole whole))
    c.keep.ensures.kept refl (c.keep.ensures.placed whole)

pub returns : goal.returns
returns c = λ whole i p lt there some.
    c.loop-place.invariant whole i p (omega (arith, c.loop-place-test.false)) there some
