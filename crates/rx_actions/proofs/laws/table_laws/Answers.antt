use Rattle.rx_actions.proofs.TheTable.{table_right, rows_match}
use Rattle.rx_actions.proofs.laws.table_laws.Goals as goal

pub returns : goal.returns
returns c = record { right = table_right; matching = rows_match }
