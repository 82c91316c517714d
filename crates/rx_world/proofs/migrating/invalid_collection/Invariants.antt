use Rattle.std.proofs.Common.{◌≡◌, not, option_map}
use Rattle.std.specs.List.{find}
use Rattle.rx_value.specs.Named.{by_bytes, by_name}
use Rattle.rx_world.specs.Migrating.{collection_migrates, is_in_group}
use Rattle.rx_world.specs.Migration.{invalid_collection}
use Rattle.rx_world.proofs.Alike.{AreUnbroken}
use Rattle.rx_world.proofs.migrating.invalid_collection.Given as goal

-- the first of what is left is the first of all, and none of it is broken
abbrev pub invariant-loop-holder : goal.invariant-loop-holder
invariant-loop-holder g l =
    let held = g.H.Holder.held in
    let in_group = is_in_group (by_bytes l.replications.entries) l.name in
    (option_map (λ h. (held h).name)
    (find (λ h. not (collection_migrates in_group l.schema l.steps ((held h).name, held h)))
    l.holder-iterator)
    ≡ invalid_collection in_group l.schema l.steps (by_name held l.holders.entries))
    × AreUnbroken held g.H.Holder.is_broken l.holder-iterator
    × (goal.iterator-loop-holder g).can_next l.holder-iterator
    × (goal.iterator-loop-holder g).is_finite l.holder-iterator
