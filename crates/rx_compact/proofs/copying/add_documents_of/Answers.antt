use Rattle.std.proofs.Common.{◌∙◌, ◌∷◌, List, [], None, ap, sym, subst, map, take}
use Rattle.rx_document.specs.declared.stored.Stored.{Stored}
use Rattle.rx_collection.specs.Since.{since}
use Rattle.rx_record.specs.Content.{part}
use Rattle.rx_record.specs.Writable.{PlacesRise}
use Rattle.rx_replication.proofs.Pages.{Rise, rise-take}
use Rattle.rx_store.proofs.Stops.{handed_on, memory_stop}
use Rattle.rx_compact.specs.Plan.{in_parts, most_in_part, part_records, part_row}
use Rattle.rx_compact.proofs.Left.{all_rise, made_end, made_less, made_next, rise_drop, rows_rise, vec_none, vec_some}
use Rattle.rx_compact.proofs.Ongoing.{HasAdded, all_added, nothing_yet, some_more, starved, still_going, stopped}
use Rattle.rx_compact.proofs.copying.add_documents_of.Goals as goal

pub loop-copy-init : goal.loop-copy-init
loop-copy-init g c =
    let page = c.page-page.ensures.documents
    ∙ ap (since c.args.collection.now.documents None) c.len.ensures.count in (
      subst (λ (ds : List Stored). HasAdded g.D.Disk c.args.disk.now c.args.disk.now c.args.copy
          c.args.copy (map (part c.args.collection.now.name) (in_parts (map part_row ds)))
          (part_records c.args.collection.now)) (sym page)
          (nothing_yet g.D.Disk c.args.disk.now c.args.copy (part_records c.args.collection.now)),
      subst Rise (sym page) (all_rise c.args.collection.now c.page-page.ensures.lawful),
    )

pub returns-in_err-rows : goal.returns-in_err-rows
returns-in_err-rows g c =
    starved g.D.Disk c.args.disk.now c.args.copy _ c.loop-copy.disk c.loop-copy.copy _
    c.from_residual.result
    (memory_stop c.from_residual.result c.from_residual.ensures.1)
    c.loop-copy.invariant.0

pub returns-then-is_empty : goal.returns-then-is_empty
returns-then-is_empty g c =
    all_added g.D.Disk c.args.disk.now c.args.copy _ c.loop-copy.disk c.loop-copy.copy _
    (ap (map (part c.args.collection.now.name))
    (made_end part_row c.loop-copy.page c.loop-copy.page c.in_ok-rows.rows.items
    c.in_ok-rows.ensures.rows
    (vec_none c.in_ok-rows.rows (sym c.is_empty.ensures ∙ c.if-is_empty.true))))
    c.loop-copy.invariant.0

pub add_part-requires-clause-going : goal.add_part-requires-clause-going
add_part-requires-clause-going g c =
    still_going g.D.Disk c.args.disk.now c.args.copy _ c.loop-copy.disk c.loop-copy.copy _
    c.loop-copy.invariant.0 c.requires.going

pub add_part-requires-clause-rising : goal.add_part-requires-clause-rising
add_part-requires-clause-rising g c =
    subst PlacesRise (sym c.in_ok-rows.ensures.rows)
    (rows_rise (take most_in_part c.loop-copy.page)
    (rise-take most_in_part c.loop-copy.page c.loop-copy.invariant.1))

pub returns-in_err-copy : goal.returns-in_err-copy
returns-in_err-copy g c =
    stopped g.D.Disk c.args.disk.now c.args.copy _ c.loop-copy.disk c.add_part.new.disk
    c.loop-copy.copy _ (part c.args.collection.now.name c.in_ok-rows.rows.items ∷ []) _
    c.from_residual-in_err-copy.result c.in_err-copy.field-0.0
    (handed_on c.from_residual-in_err-copy.result c.in_err-copy.field-0.0
    c.from_residual-in_err-copy.ensures.1)
    (ap (map (part c.args.collection.now.name))
    (made_next part_row c.loop-copy.page c.next_rows.new.page c.in_ok-rows.rows.items
    c.in_ok-rows.ensures.rows c.in_ok-rows.ensures.left
    (vec_some c.in_ok-rows.rows (sym c.is_empty.ensures ∙ c.if-is_empty.false))))
    c.loop-copy.invariant.0 c.in_err-copy.ensures

pub loop-copy-smaller : goal.loop-copy-smaller
loop-copy-smaller g c =
    made_less part_row c.loop-copy.page c.next_rows.new.page c.in_ok-rows.rows.items
    c.in_ok-rows.ensures.rows c.in_ok-rows.ensures.left
    (vec_some c.in_ok-rows.rows (sym c.is_empty.ensures ∙ c.if-is_empty.false))

pub loop-copy-preserved : goal.loop-copy-preserved
loop-copy-preserved g c = (
  some_more g.D.Disk c.args.disk.now c.args.copy _ c.loop-copy.disk c.add_part.new.disk
      c.loop-copy.copy c.in_ok-copy.copy _
      (part c.args.collection.now.name c.in_ok-rows.rows.items ∷ []) _
      (ap (map (part c.args.collection.now.name))
      (made_next part_row c.loop-copy.page c.next_rows.new.page c.in_ok-rows.rows.items
      c.in_ok-rows.ensures.rows c.in_ok-rows.ensures.left
      (vec_some c.in_ok-rows.rows (sym c.is_empty.ensures ∙ c.if-is_empty.false))))
      c.loop-copy.invariant.0 c.in_ok-copy.ensures,
  subst Rise (sym c.in_ok-rows.ensures.left)
      (rise_drop most_in_part c.loop-copy.page c.loop-copy.invariant.1),
)
