use Rattle.std.proofs.Common.{[], ◌∷◌}
use Rattle.rx_record.specs.Content.{part}
use Rattle.rx_store.proofs.Stops.{memory_stop}
use Rattle.rx_compact.proofs.Adding.{adds_memory, adds_none}
use Rattle.rx_compact.proofs.copying.add_part.Goals as goal

pub returns-in_err-name : goal.returns-in_err-name
returns-in_err-name g c =
    adds_memory g.D.Disk c.args.disk.now c.args.disk.now c.args.copy c.args.copy []
    (part c.args.collection.now.name c.args.rows.items ∷ []) c.from_residual.result
    (memory_stop c.from_residual.result c.from_residual.ensures.1)
    (adds_none g.D.Disk c.args.disk.now c.args.copy)
