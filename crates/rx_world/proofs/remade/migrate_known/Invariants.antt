use Rattle.rx_value.specs.Named.{by_bytes}
use Rattle.rx_world.proofs.Regrouped.{AreTurned}
use Rattle.rx_world.proofs.remade.migrate_known.Given as goal

abbrev pub invariant-loop-at : goal.invariant-loop-at
invariant-loop-at l =
    AreTurned l.steps l.name (by_bytes l.initial.replications.entries)
    (by_bytes l.replications.entries) l.at
