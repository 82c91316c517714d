use Rattle.std.proofs.Common.{◌<◌, ◌∙◌, length, refl, sym, subst}
use Rattle.std.specs.Cmp.{booleans_Decides}
use Rattle.rx_value.specs.Named.{put_in_order}
use Rattle.rx_runs.proofs.InSlots.{named_slot, shown_some}
use Rattle.rx_runs.specs.Marked.{all_slots, with_mark}
use Rattle.rx_runs.specs.Rows.{shown}
use Rattle.rx_collection.specs.Marks.{AreMarked}
use Rattle.rx_collection.proofs.Marks.{marked_same, marked_with}
use Rattle.rx_collection.proofs.log.turn.Goals as goal

pub at-requires : goal.at-requires
at-requires c =
    named_slot (λ s. s < length c.args.rows.now) (all_slots c.args.names.now)
    c.args.row.now.state.key c.args.slot c.requires.slots.within c.requires.there

pub returns-then-at-deleted-clause-marks : goal.returns-then-at-deleted-clause-marks
returns-then-at-deleted-clause-marks c = λ are.
    let rows = c.args.rows.now in
    let names = all_slots c.args.names.now in
    let row = c.args.row.now in
    let old = c.at.result.now in
    marked_same (shown rows names) c.args.names.now row are old
    (shown_some rows names row.state.key c.args.slot old c.requires.slots.within c.requires.there
    c.at.ensures)
    ((booleans_Decides old.state.deleted row.state.deleted).0 c.if-at-deleted.true)

pub returns-clause-marks : goal.returns-clause-marks
returns-clause-marks c = λ are.
    let rows = c.args.rows.now in
    let names = c.args.names.now in
    let row = c.args.row.now in
    let documents = shown rows (all_slots names) in
    subst (AreMarked (put_in_order documents row.state.key row))
    (sym (c.in_ok-turn.ensures.ok
    ∙ (λ i. with_mark names (c.as_str.ensures i) c.args.slot row.state.deleted)))
    (marked_with documents names row are c.args.slot row.state.deleted c.in_ok-turn.ensures.lawful
    refl)
