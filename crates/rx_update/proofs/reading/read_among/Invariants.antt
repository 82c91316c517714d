use Rattle.std.proofs.Common.{◌≡◌, ◌++◌}
use Rattle.serde_json.specs.View.{members_view}
use Rattle.rx_update.specs.Reading.{operations_among}
use Rattle.rx_update.specs.Updated.{AreOperations}
use Rattle.rx_update.proofs.reading.read_among.Given as goal

-- the operations so far, and then those of the fields that are left
abbrev pub invariant-loop-name : goal.invariant-loop-name
invariant-loop-name l = record {
  added : l.operations.items ++ operations_among l.operator (members_view l.name-iterator)
      ≡ l.initial.operations.items
      ++ operations_among l.operator (members_view l.fields.entries);
  lawful : AreOperations l.operations.items;
}
