use Rattle.std.proofs.Common.{refl, append-nil, ap, ◌∙◌}
use Rattle.rx_value.specs.Reading.{members_fields}
use Rattle.serde_json.specs.View.{members_view}
use Rattle.serde_json.proofs.Views.{Entry}
use Rattle.rx_value.proofs.Members.{before, more, fields}
use Rattle.rx_value.proofs.reading.read_members.Goals as goal

-- the pair of the next member goes to the end of those so far
pub loop-name-preserved : goal.loop-name-preserved
loop-name-preserved c =
    let front = c.loop-name.pairs.items in
    let e : Entry = (c.in-Some.name.now, c.in-Some.member.now) in
    c.loop-name.invariant
    ∙ ap (λ es. before front (members_fields (members_view es))) c.in-Some.ensures.steps
    ∙ more front e c.next.new.self c.in_ok-value.value
    (rw (← c.as_str.ensures.value) c.in_ok-value.ensures)
    ∙ rw (c.in_ok-push.ensures.items, c.in_ok-new.ensures, c.as_str-in-loop-name.ensures.value) refl

pub returns-clause-fields : goal.returns-clause-fields
returns-clause-fields c =
    fields c.args.members.now.entries c.loop-name.pairs.items
    (c.loop-name.invariant ∙ rw (c.in-None.ensures.steps.0, append-nil) refl)
    c.iter-name-items.ensures.ordered
