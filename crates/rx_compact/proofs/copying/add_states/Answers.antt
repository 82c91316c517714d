use Rattle.std.proofs.Common.{[], ◌∷◌}
use Rattle.rx_store.proofs.Stops.{memory_stop}
use Rattle.rx_compact.specs.Plan.{known_record}
use Rattle.rx_compact.proofs.Adding.{adds_memory, adds_none}
use Rattle.rx_compact.proofs.copying.add_states.Goals as goal

pub returns-in_err-entry : goal.returns-in_err-entry
returns-in_err-entry g c =
    adds_memory g.D.Disk c.args.disk.now c.args.disk.now c.args.copy c.args.copy []
    (known_record c.args.replication.now c.args.states.items ∷ []) c.from_residual.result
    (memory_stop c.from_residual.result c.from_residual.ensures.1)
    (adds_none g.D.Disk c.args.disk.now c.args.copy)
