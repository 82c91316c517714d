use Rattle.std.proofs.Common.{take}
use Rattle.rx_collection.specs.Lawful.{IsLawful}
use Rattle.rx_observe.proofs.Indexing.{AreMade}
use Rattle.rx_observe.proofs.indexes.indexes_of.Given as goal

-- the first i
abbrev pub invariant-loop-i : goal.invariant-loop-i
invariant-loop-i l = record {
  lawful : IsLawful l.collection;
  made : AreMade l.collection (take l.i l.schema.indexes) l.indexes.items;
}
