use Rattle.std.proofs.Common.{◌∙◌, ap, sym}
use Rattle.rx_script.specs.Member.{items_of}
use Rattle.rx_script.proofs.Lists.{items_of_array}
use Rattle.rx_script.proofs.member.take_items.Goals as goal

pub returns-in-Array : goal.returns-in-Array
returns-in-Array c = sym (items_of_array c.in-Array.items) ∙ ap items_of c.in-Array.ensures
