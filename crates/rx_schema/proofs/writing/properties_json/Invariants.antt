use Rattle.std.proofs.Common.{◌≡◌, take}
use Rattle.serde_json.specs.View.{members_view}
use Rattle.rx_schema.specs.Writing.{properties_members}
use Rattle.rx_schema.proofs.writing.properties_json.Given as goal

-- the members of the properties so far
abbrev pub invariant-loop-name : goal.invariant-loop-name
invariant-loop-name l =
    members_view l.members.entries ≡ properties_members (take l.name-index l.properties)
