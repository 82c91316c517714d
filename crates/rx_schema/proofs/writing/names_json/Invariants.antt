use Rattle.std.proofs.Common.{◌≡◌, map, take}
use Rattle.serde_json.specs.Data.{string}
use Rattle.serde_json.specs.View.{view}
use Rattle.rx_schema.proofs.writing.names_json.Given as goal

-- the texts of the names so far
abbrev pub invariant-loop-name : goal.invariant-loop-name
invariant-loop-name l = map view l.items.items ≡ map string (take l.name-index l.names)
