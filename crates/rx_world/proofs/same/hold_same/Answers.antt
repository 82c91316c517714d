use Rattle.std.proofs.Common.{◌≡◌, ◌∙◌}
use Rattle.std.specs.Map.{values_of}
use Rattle.rx_world.proofs.Alike.{unbroken_all, same_in_order}
use Rattle.rx_world.proofs.same.hold_same.Goals as goal

pub loop-this-init : goal.loop-this-init
loop-this-init g c =
    let held = g.H.Holder.held in
    let broken = g.H.Holder.is_broken in
    let es = c.args.these.now.entries in
    let fs = c.args.those.now.entries in
    let these : c.into_iter-this-iterator.result ≡ values_of es =
    c.into_iter-this-iterator.ensures.into_iter_gives ∙ c.values-this-items.ensures.rest in
    let those : c.values-others.result ≡ values_of fs = c.values-others.ensures.rest in
    rw (these, those) (
      same_in_order held broken es fs c.requires.these c.requires.those,
      unbroken_all held broken es c.requires.these,
      unbroken_all held broken fs c.requires.those,
      tt,
      tt,
    )
