use Rattle.std.proofs.Common.{rules, refl, append-nil, ◌≡◌, false, ap, ◌∙◌, string_bytes}
use Rattle.std.specs.Str.{bytes_eq}
use Rattle.rx_value.specs.Reading.{members_fields, without}
use Rattle.serde_json.specs.View.{members_view}
use Rattle.serde_json.proofs.Views.{Entry}
use Rattle.rx_value.proofs.Beside.{more_beside, fields_beside}
use Rattle.rx_value.proofs.Members.{before}
use Rattle.rx_value.proofs.reading.read_members_beside.Goals as goal

-- the pair of the next member goes to the end of those so far, unless it is the one left out
pub loop-name-preserved : goal.loop-name-preserved
loop-name-preserved c =
    let front = c.loop-name.pairs.items in
    let skip = c.args.beside.now in
    let e : Entry = (c.in-Some.name.now, c.in-Some.member.now) in
    let other : bytes_eq (string_bytes c.in-Some.name.now) skip ≡ false = search rules in
    c.loop-name.invariant
    ∙ ap (λ es. before front (members_fields (without skip (members_view es))))
    c.in-Some.ensures.steps
    ∙ more_beside skip front e c.next.new.self c.in_ok-value.value other
    (rw (← c.as_str-in-loop-name.ensures.value) c.in_ok-value.ensures)
    ∙ rw (
      c.in_ok-push.ensures.items,
      c.in_ok-new.ensures,
      c.as_str-in-loop-name-2.ensures.value,
    ) refl

pub returns-clause-fields : goal.returns-clause-fields
returns-clause-fields c =
    fields_beside c.args.beside.now c.args.members.now.entries c.loop-name.pairs.items
    (c.loop-name.invariant ∙ rw (c.in-None.ensures.steps.0, append-nil) refl)
    c.iter-name-items.ensures.ordered
