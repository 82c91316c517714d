use Rattle.std.proofs.Common.{◌≡◌, take}
use Rattle.rx_value.specs.Form.{texts}
use Rattle.rx_session.specs.Placed.{world_of}
use Rattle.rx_world.specs.Migrating.{is_in_group}
use Rattle.rx_engine.specs.Migrate.{names_of_group}
use Rattle.rx_engine.proofs.migrate.names_of_group.Given as goal

-- those of the collections so far
abbrev pub invariant-loop-at : goal.invariant-loop-at
invariant-loop-at l =
    let w = world_of l.world in
    texts l.names.items
    ≡ names_of_group (is_in_group w.replications l.coll) (take l.at w.collections)
