use Rattle.std.proofs.Common.{◌≡◌, ◌∙◌}
use Rattle.std.specs.Map.{values_of}
use Rattle.rx_world.proofs.following.follow_same.Goals as goal

pub loop-this-init : goal.loop-this-init
loop-this-init c =
    let these : c.into_iter-this-iterator.result ≡ values_of c.args.these.now.entries =
    c.into_iter-this-iterator.ensures.into_iter_gives ∙ c.values-this-items.ensures.rest in
    let those : c.values-others.result ≡ values_of c.args.those.now.entries =
    c.values-others.ensures.rest in
    rw (these, those) ((λ same. same, λ same. same), tt, tt)
