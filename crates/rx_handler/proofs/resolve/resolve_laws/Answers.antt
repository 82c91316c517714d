use Rattle.rx_handler.proofs.Joined.{joins, joins_fields}
use Rattle.rx_handler.proofs.resolve.resolve_laws.Goals as goal

pub returns-clause-joins : goal.returns-clause-joins
returns-clause-joins c = joins

pub returns-clause-fields : goal.returns-clause-fields
returns-clause-fields c = joins_fields
