use Rattle.rx_meta.proofs.Learning.{none_known}
use Rattle.rx_meta.proofs.meta.Meta.new.Goals as goal

pub invariant_of-result : goal.invariant_of-result
invariant_of-result c = rw c.new.ensures none_known
