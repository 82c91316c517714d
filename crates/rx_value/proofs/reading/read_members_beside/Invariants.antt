use Rattle.std.proofs.Common.{◌≡◌}
use Rattle.serde_json.specs.View.{members_view}
use Rattle.rx_value.specs.Reading.{members_fields, without}
use Rattle.rx_value.proofs.Members.{before}
use Rattle.rx_value.proofs.reading.read_members_beside.Given as goal

-- the pairs so far, before those of the members that are left, are those of all members
abbrev pub invariant-loop-name : goal.invariant-loop-name
invariant-loop-name l =
    members_fields (without l.beside (members_view l.members.entries))
    ≡ before l.pairs.items (members_fields (without l.beside (members_view l.name-iterator)))
