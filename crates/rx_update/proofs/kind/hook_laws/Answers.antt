use Rattle.rx_update.proofs.Hooking as hooking
use Rattle.rx_update.proofs.kind.hook_laws.Goals as goal

pub returns-clause-others : goal.returns-clause-others
returns-clause-others c = hooking.others

pub returns-clause-fields : goal.returns-clause-fields
returns-clause-fields c = hooking.to_fields
