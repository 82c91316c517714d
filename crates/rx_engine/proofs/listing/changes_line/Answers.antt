use Rattle.std.proofs.Common.{Option, ap, ◌∙◌}
use Rattle.rx_collection.specs.Since.{since}
use Rattle.rx_document.specs.declared.place.Place.{Place}
use Rattle.rx_engine.specs.Shown.{outcome_of}
use Rattle.rx_engine.proofs.Lines.{listed_line}
use Rattle.rx_engine.proofs.listing.changes_line.Goals as goal

pub returns-clause-exact : goal.returns-clause-exact
returns-clause-exact c =
    let held = c.in_ok-collection.collection.now in
    let docs = c.in_ok-docs.docs.items in
    listed_line c.args.coll.now c.args.since c.args.batch c.args.session.now held
    (outcome_of c.answer_alone.result) docs c.in_ok-place.place
    c.in_ok-collection.ensures.exact
    (c.in_ok-docs.ensures ∙ c.page.ensures.documents
    ∙ ap (λ (p : Option Place). since held.documents p c.args.batch)
    (c.as_ref.ensures.value ∙ c.asked_place-asked.ensures))
    (rw (c.asked_place-asked.ensures, c.as_slice.ensures.value) at c.in_ok-place.ensures)
    c.answer_alone.ensures
