use Rattle.std.proofs.Common.{◌≡◌, ◌++◌, drop}
use Rattle.std.specs.List.{AllByRecursion}
use Rattle.json.specs.Tree.{json_tokens, items_tokens}
use Rattle.serde_json.specs.Data.{array}
use Rattle.serde_json.specs.Written.{outline, items_outline}
use Rattle.rx_wire.specs.Printing.{RowHasFields}
use Rattle.rx_wire.specs.Writing.{rows_items}
use Rattle.rx_wire.proofs.state_printing.put_rows.Given as goal

-- the tokens so far, before those of the rows that are left, are those that are due
abbrev pub invariant-loop-row : goal.invariant-loop-row
invariant-loop-row l = record {
  before : l.writer.before ≡ l.fn.writer.before;
  tokens : l.writer.tokens ++ items_tokens (items_outline (rows_items (drop l.row-index l.rows)))
      ≡ l.fn.writer.tokens ++ json_tokens (outline (array (rows_items l.rows)));
  fields : AllByRecursion RowHasFields (drop l.row-index l.rows)
      → AllByRecursion RowHasFields l.rows;
}
