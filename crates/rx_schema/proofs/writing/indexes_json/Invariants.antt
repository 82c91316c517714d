use Rattle.std.proofs.Common.{◌≡◌, map, take}
use Rattle.serde_json.specs.View.{view}
use Rattle.rx_schema.specs.Writing.{names_data}
use Rattle.rx_schema.proofs.writing.indexes_json.Given as goal

-- the lists of the indexes so far
abbrev pub invariant-loop-index : goal.invariant-loop-index
invariant-loop-index l = map view l.items.items ≡ map names_data (take l.index-index l.indexes)
