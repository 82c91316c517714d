use Rattle.std.proofs.Common.{refl, append-nil, ap, ◌∙◌}
use Rattle.serde_json.specs.View.{members_view}
use Rattle.serde_json.proofs.Views.{Entry}
use Rattle.rx_schema.specs.Reading.{properties_of}
use Rattle.rx_schema.proofs.Properties.{before, more, rising}
use Rattle.rx_schema.proofs.reading.read_properties.Goals as goal

-- the property of the next member goes to the end of those so far
pub loop-name-preserved : goal.loop-name-preserved
loop-name-preserved c =
    let front = c.loop-name.properties in
    let e : Entry = (c.in-Some.name.now, c.in-Some.member.now) in
    c.loop-name.invariant
    ∙ ap (λ es. before front (properties_of (members_view es))) c.in-Some.ensures.steps
    ∙ more front e c.next.new.self c.in_ok-rule.rule
    (rw (← c.as_str.ensures.value) c.in_ok-rule.ensures)
    ∙ rw (c.in_ok-push.ensures.ok, c.in_ok-new.ensures, c.as_str-in-loop-name.ensures.value) refl

pub returns-clause-rising : goal.returns-clause-rising
returns-clause-rising c =
    rising c.args.members.now.entries c.loop-name.properties
    (c.loop-name.invariant ∙ rw (c.in-None.ensures.steps.0, append-nil) refl)
    c.iter-name-items.ensures.ordered
