use Rattle.rx_migrate.proofs.Laws.{equal, key, mark, to_fields}
use Rattle.rx_migrate.proofs.Others.{others}
use Rattle.rx_migrate.proofs.migrating.migrate_laws.Goals as goal

pub returns-clause-equal : goal.returns-clause-equal
returns-clause-equal c = equal

pub returns-clause-key : goal.returns-clause-key
returns-clause-key c = key

pub returns-clause-mark : goal.returns-clause-mark
returns-clause-mark c = mark

pub returns-clause-fields : goal.returns-clause-fields
returns-clause-fields c = to_fields

pub returns-clause-others : goal.returns-clause-others
returns-clause-others c = others
