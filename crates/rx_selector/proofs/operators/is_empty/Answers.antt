use Rattle.rx_selector.proofs.Empty.{empty_object}
use Rattle.rx_selector.proofs.operators.is_empty.Goals as goal

pub returns : goal.returns
returns c = empty_object c.args.members.now.entries c.is_empty.result c.is_empty.ensures
