use Rattle.std.proofs.Common.{◌∙◌, List, ℕ, Some, ap, sym}
use Rattle.rx_collection.specs.Since.{since}
use Rattle.rx_document.specs.declared.place.Place.{Place}
use Rattle.rx_record.specs.PartRows.{row_place}
use Rattle.rx_world.proofs.Copied.{none_where, page_tells}
use Rattle.rx_world.proofs.copying.stands_above_all.Goals as goal

pub returns : goal.returns
returns c =
    let es = c.args.collection.now.documents in
    let at : List ℕ → Place = λ k. record { lwt = c.args.row.now.lwt; id = k } in
    none_where c.is_none.result c.next.result (sym c.is_none.ensures)
    ∙ page_tells es (row_place c.args.row.now) c.page-page.result c.next.new.self c.next.result
    (c.page-page.ensures.documents
    ∙ ap (λ (k : List ℕ). since es (Some (at k)) 1) c.in_ok-copy.ensures)
    c.next.ensures.steps
