use Rattle.rx_query.proofs.Orders.{query_total, keys_decide}
use Rattle.rx_query.proofs.Rows.{one_result, are_keyed}
use Rattle.rx_query.proofs.laws.query_laws.Goals as goal

pub returns-clause-total : goal.returns-clause-total
returns-clause-total c = query_total

pub returns-clause-strict : goal.returns-clause-strict
returns-clause-strict c = keys_decide

pub returns-clause-one_result : goal.returns-clause-one_result
returns-clause-one_result c = one_result

pub returns-clause-keyed : goal.returns-clause-keyed
returns-clause-keyed c = are_keyed
