use Rattle.std.proofs.Common.{◌≡◌}
use Rattle.serde_json.specs.View.{members_view}
use Rattle.rx_schema.specs.Reading.{properties_of}
use Rattle.rx_schema.proofs.Properties.{before}
use Rattle.rx_schema.proofs.reading.read_properties.Given as goal

-- the properties so far, before those that are left, are all
abbrev pub invariant-loop-name : goal.invariant-loop-name
invariant-loop-name l =
    properties_of (members_view l.members.entries)
    ≡ before l.properties (properties_of (members_view l.name-iterator))
