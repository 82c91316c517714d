use Rattle.std.proofs.Common.{◌≡◌, ap, subst, ◌∙◌}
use Rattle.serde_json.proofs.Views.{members_view-insert_entry}
use Rattle.serde_json.specs.View.{members_view}
use Rattle.rx_value.specs.Named.{AreRising}
use Rattle.rx_value.proofs.Written.{put_next}
use Rattle.rx_value.proofs.writing.fields_map.Goals as goal

-- the name of the next pair is above those before it
pub loop-name-preserved : goal.loop-name-preserved
loop-name-preserved c =
    let pairs = c.args.fields.now in
    let same : c.deref-name-items.result.now ≡ pairs =
    c.deref-name-items.ensures.value ∙ c.fields.view_is in
    let rising = subst AreRising c.fields.view_is c.fields.invariant.rising in
    ap members_view c.in_ok-insert.ensures.entries
    ∙ members_view-insert_entry c.loop-name.members.entries c.in_ok-from_str.field-0
    c.in_ok-value_json.field-0
    ∙ rw (
      c.in_ok-from_str.ensures.ok,
      c.in_ok-value_json.ensures,
      c.as_str.ensures,
      c.loop-name.invariant,
    )
    (put_next pairs c.loop-name.name-index c.loop-name-item.result
    (rw same at c.loop-name-test.true) (rw same at c.loop-name-item.is) rising)
