use Rattle.std.proofs.Common.{◌∙◌}
use Rattle.rx_wire.proofs.Keys.{adds_key}
use Rattle.rx_wire.proofs.states.is_first.Goals as goal

pub returns-clause-added : goal.returns-clause-added
returns-clause-added c = λ q.
    adds_key c.args.seen.now c.insert.new.self c.in_ok-from_str.field-0 c.args.key.now q
    (c.in_ok-from_str.ensures.ok ∙ c.as_str.ensures) c.in_ok-insert.ensures.updates
