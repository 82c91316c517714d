use Rattle.rx_value.specs.Named.{by_bytes}
use Rattle.rx_session.specs.Placed.{world_of}
use Rattle.rx_world.specs.Migrating.{is_in_group}
use Rattle.rx_engine.specs.Standing.{is_of_group}
use Rattle.rx_engine.proofs.Forgetting.{AreForgotten}
use Rattle.rx_engine.proofs.remembered.forget_group.Given as goal

abbrev pub invariant-loop-at : goal.invariant-loop-at
invariant-loop-at l =
    let rs = (world_of l.world).replications in
    AreForgotten (is_of_group (is_in_group rs l.name) rs) (by_bytes l.initial.asks.entries)
    (by_bytes l.asks.entries) l.at
