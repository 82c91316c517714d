use Rattle.std.proofs.Common.{◌≡◌, ◌++◌, drop}
use Rattle.rx_schema.specs.Reading.{required_names}
use Rattle.rx_schema.proofs.reading.required_names.Given as goal

-- the names so far, before those that are left, are all
abbrev pub invariant-loop-name : goal.invariant-loop-name
invariant-loop-name l =
    required_names l.primary l.listed l.properties
    ≡ l.names ++ required_names l.primary l.listed (drop l.name-index l.name-items)
