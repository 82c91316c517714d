use Rattle.std.proofs.Common.{◌≡◌, take}
use Rattle.serde_json.specs.View.{members_view}
use Rattle.rx_value.specs.Writing.{pairs_members}
use Rattle.rx_value.proofs.writing.fields_map.Given as goal

-- the members so far are those of the pairs so far
abbrev pub invariant-loop-name : goal.invariant-loop-name
invariant-loop-name l =
    members_view l.members.entries ≡ pairs_members (take l.name-index l.fields)
