use Rattle.std.proofs.Common.{drop, map}
use Rattle.rx_world.specs.Holders.{world_in}
use Rattle.rx_compact.specs.Plan.{collection_record}
use Rattle.rx_compact.proofs.Ongoing.{HasAdded}
use Rattle.rx_compact.proofs.copying.add_collections.Given as goal

-- those of the collections that are left are to be added
abbrev pub invariant-loop-at : goal.invariant-loop-at
invariant-loop-at g l =
    let all = (world_in g.H.Holder.held l.world).collections in
    HasAdded g.D.Disk l.fn.disk l.disk l.fn.copy l.copy
    (map (λ e. collection_record e.1) (drop l.at all)) (map (λ e. collection_record e.1) all)
