use Rattle.std.proofs.Common.{◌≡◌, rules, subst, sym}
use Rattle.rx_value.specs.Named.{by_bytes}
use Rattle.rx_world.specs.Holders.{world_in}
use Rattle.rx_world.specs.Made.{IsMadeWorld}
use Rattle.rx_world.specs.World.{empty}
use Rattle.rx_world.proofs.Making.{made_empty}
use Rattle.rx_world.proofs.world.World.new.Goals as goal

pub invariant_of-result : goal.invariant_of-result
invariant_of-result g c =
    let is : world_in g.H.Holder.held (record {
      entries = c.new.result.entries;
      replications = by_bytes c.new-2.result.entries;
      epoch = 0;
    })
    ≡ empty = search rules in
    record { whole = search rules; made = subst IsMadeWorld (sym is) made_empty }
