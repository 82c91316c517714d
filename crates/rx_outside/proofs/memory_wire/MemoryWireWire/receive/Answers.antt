use Rattle.std.proofs.Common.{◌∙◌, ap, take, length, min}
use Rattle.rx_outside.proofs.Pieces.{gives_next, joins_next}
use Rattle.rx_outside.proofs.memory_wire.MemoryWireWire.receive.Goals as goal

pub returns-clause-gives : goal.returns-clause-gives
returns-clause-gives c = λ told.
    gives_next _ c.args.self.now.at _ _
    (c.copy_front-count.ensures.copied ∙ ap (take c.copy_front-count.result) c.left.ensures)
    c.args.self.now.piece c.args.self.now.some
    (c.copy_front-count.ensures.count
    ∙ ap
    (λ left. min c.args.self.now.piece (min (length c.copy_front-count.new.into) (length left)))
    c.left.ensures)

pub returns-clause-joins : goal.returns-clause-joins
returns-clause-joins c = λ told.
    joins_next _ c.args.self.now.at _ _
    (c.copy_front-count.ensures.copied ∙ ap (take c.copy_front-count.result) c.left.ensures)
