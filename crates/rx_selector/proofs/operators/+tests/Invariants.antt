use Rattle.std.proofs.Common.{◌≡◌, map}
use Rattle.serde_json.specs.View.{members_view}
use Rattle.rx_selector.specs.Operators.{members_tests}
use Rattle.rx_selector.specs.Tree.{test_view}
use Rattle.rx_selector.proofs.Lists.{before}
use Rattle.rx_selector.proofs.operators.+tests.Given as goal

-- the tests so far, before those of the members that are left, are those of all members
abbrev pub invariant-read_members-loop-name : goal.invariant-read_members-loop-name
invariant-read_members-loop-name l =
    members_tests l.depth (members_view l.members.entries)
    ≡ before (map test_view l.tests.items) (members_tests l.depth (members_view l.name-iterator))
