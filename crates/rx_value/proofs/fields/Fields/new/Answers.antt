use Rattle.rx_value.proofs.Members.{no_fields}
use Rattle.rx_value.proofs.fields.Fields.new.Goals as goal

pub invariant_of-result : goal.invariant_of-result
invariant_of-result c = rw c.new.ensures.items no_fields
