use Rattle.std.proofs.Common.{sym}
use Rattle.rx_engine.proofs.LastPlace.{last_place}
use Rattle.rx_engine.proofs.listing.place_after.Goals as goal

pub returns : goal.returns
returns c =
    rw c.in_ok-id.ensures
    (sym (last_place c.args.docs.now c.args.asked c.in-Some.last.now (sym c.in-Some.ensures.value)))
