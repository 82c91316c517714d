use Rattle.std.proofs.Common.{◌≡◌, ◌∙◌, ◌++◌, ◌∷◌, [], List, slice_get, ap, refl, sym, subst}
use Rattle.rx_value.proofs.Outcomes.{some_same}
use Rattle.rx_value.specs.Named.{put_in_order}
use Rattle.rx_document.specs.declared.stored.Stored.{Stored}
use Rattle.rx_runs.specs.Marked.{all_slots, with_mark}
use Rattle.rx_runs.specs.Rows.{shown}
use Rattle.rx_collection.specs.Marks.{AreMarked}
use Rattle.rx_collection.proofs.Logged.{slot_end}
use Rattle.rx_collection.proofs.Marks.{marked_with}
use Rattle.rx_collection.proofs.log.add.Goals as goal

pub returns-clause-marks : goal.returns-clause-marks
returns-clause-marks c = λ are.
    let rows = c.args.rows.now in
    let names = c.args.names.now in
    let row = c.args.row in
    let slot = c.in-Ok.slot in
    let documents = shown rows (all_slots names) in
    let at : c.at.result.now ≡ row =
    some_same (sym c.at.ensures ∙ ap (λ (ds : List Stored). slice_get ds slot) c.in-Ok-push.ensures.ok
    ∙ ap (slice_get (rows ++ row ∷ [])) (c.in-Ok.ensures.1 ∙ c.len.ensures) ∙ slot_end rows row) in
    subst (AreMarked (put_in_order documents row.state.key row))
    (sym (c.in-Ok-add.ensures.ok
    ∙ (λ i. with_mark names ((c.as_str.ensures ∙ ap (λ (d : Stored). d.state.key) at) i) slot
    (at i).state.deleted)))
    (marked_with documents names row are slot row.state.deleted c.in-Ok-add.ensures.lawful refl)
