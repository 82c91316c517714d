use Rattle.std.proofs.Common.{◌≡◌, ◌∙◌}
use Rattle.std.specs.Map.{values_of}
use Rattle.rx_value.specs.Named.{by_bytes}
use Rattle.rx_world.specs.Migrating.{is_in_group}
use Rattle.rx_world.specs.Migration.{is_here}
use Rattle.rx_world.proofs.Passing.{by_bytes_pass}
use Rattle.rx_world.proofs.migrating.are_here.Goals as goal

pub loop-replication-init : goal.loop-replication-init
loop-replication-init c =
    let es = c.args.replications.now.entries in
    let at : c.into_iter-replication-iterator.result ≡ values_of es =
    c.into_iter-replication-iterator.ensures.into_iter_gives
    ∙ c.values-replication-items.ensures.rest in
    rw at (
      by_bytes_pass (is_here (is_in_group (by_bytes es) c.args.name.now)) es,
      tt,
      tt,
    )
