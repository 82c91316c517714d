use Rattle.rx_update.proofs.Kept as kept
use Rattle.rx_update.proofs.Keyless.{leaves_key}
use Rattle.rx_update.proofs.update.update_laws.Goals as goal

pub returns-clause-others : goal.returns-clause-others
returns-clause-others c = kept.others

pub returns-clause-each : goal.returns-clause-each
returns-clause-each c = kept.each

pub returns-clause-fields : goal.returns-clause-fields
returns-clause-fields c = kept.to_fields

pub returns-clause-key : goal.returns-clause-key
returns-clause-key c = leaves_key
