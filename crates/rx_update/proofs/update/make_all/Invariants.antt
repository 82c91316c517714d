use Rattle.std.proofs.Common.{◌≡◌, drop}
use Rattle.rx_update.specs.Updated.{made_of, AreOperations}
use Rattle.rx_update.proofs.update.make_all.Given as goal

-- the operations to come
abbrev pub invariant-loop-name : goal.invariant-loop-name
invariant-loop-name l = record {
  made : made_of l.old (drop l.name-index l.operations) l.fields
      ≡ made_of l.old l.operations l.initial.fields;
  lawful : AreOperations (drop l.name-index l.operations);
}
