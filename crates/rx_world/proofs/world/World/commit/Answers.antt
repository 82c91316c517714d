use Rattle.std.proofs.Common.{◌≡◌, Some, rules}
use Rattle.rx_value.specs.Named.{named}
use Rattle.rx_world.specs.Holders.{world_in}
use Rattle.rx_world.proofs.world.World.commit.Goals as goal

pub returns-clause-sound : goal.returns-clause-sound
returns-clause-sound g c =
    let w = world_in g.H.Holder.held c.args.self.now in
    let coll = c.collection.result.now in
    let at : named w.collections coll.name ≡ Some coll = search rules in
    c.commit.ensures.sound w c.holder.ensures.made at
