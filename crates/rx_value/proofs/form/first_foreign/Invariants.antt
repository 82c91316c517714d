use Rattle.std.proofs.Common.{◌≡◌}
use Rattle.serde_json.specs.View.{members_view}
use Rattle.rx_value.specs.Form.{texts, members_unexpected}
use Rattle.rx_value.proofs.form.first_foreign.Given as goal

-- the members that are left decide
abbrev pub invariant-loop-name : goal.invariant-loop-name
invariant-loop-name l =
    members_unexpected (texts l.needed) (texts l.optional) (members_view l.members.entries)
    ≡ members_unexpected (texts l.needed) (texts l.optional) (members_view l.name-iterator)
