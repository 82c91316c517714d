use Rattle.std.proofs.Common.{◌-◌, ap, ◌∙◌}
use Rattle.rx_query.specs.After.{removes_end}
use Rattle.rx_query.specs.QuerySpec.{asked}
use Rattle.rx_actions.proofs.Acted.{in_front, at_end, in_place, in_order, placed_anew, placed_for_last}
use Rattle.rx_actions.proofs.acting.row_places.Goals as goal

-- in front, for the last row
pub returns-in-RemoveLastInsertFirst-clause-moved :
    goal.returns-in-RemoveLastInsertFirst-clause-moved
returns-in-RemoveLastInsertFirst-clause-moved c =
    let some = c.requires.there.an_end (ap removes_end c.in-RemoveLastInsertFirst.is) in
    rw (c.in-RemoveLastInsertFirst.is, c.len-len.ensures)
    (in_front (asked c.args.query.now) c.args.change.now c.args.row.now c.requires.row
    c.args.results.now some)

-- at the end, for the last row
pub returns-in-RemoveLastInsertLast-clause-moved : goal.returns-in-RemoveLastInsertLast-clause-moved
returns-in-RemoveLastInsertLast-clause-moved c =
    let some = c.requires.there.an_end (ap removes_end c.in-RemoveLastInsertLast.is) in
    rw (c.in-RemoveLastInsertLast.is, c.len-len.ensures)
    (at_end (asked c.args.query.now) c.args.change.now c.args.row.now c.requires.row
    c.args.results.now some)

-- in the old row's place
pub returns-in-ReplaceExisting-clause-moved : goal.returns-in-ReplaceExisting-clause-moved
returns-in-ReplaceExisting-clause-moved c =
    rw c.in-ReplaceExisting.is
    (in_place (asked c.args.query.now) c.args.change.now c.args.row.now c.requires.row
    c.args.results.now c.old_place-place.result c.old_place-place.ensures.within
    c.old_place-place.ensures.first)

-- in its place by the order
pub returns-in-InsertAtSortPosition-clause-moved : goal.returns-in-InsertAtSortPosition-clause-moved
returns-in-InsertAtSortPosition-clause-moved c =
    rw c.in-InsertAtSortPosition.is
    (in_order (asked c.args.query.now) c.args.change.now c.args.row.now c.requires.row
    c.args.results.now c.sorted_place.result c.len-len.result c.len-len.ensures
    c.sorted_place.ensures.within c.sorted_place.ensures.first)

-- for the old row
pub returns-in-RemoveExistingAndInsertAtSortPosition-clause-moved :
    goal.returns-in-RemoveExistingAndInsertAtSortPosition-clause-moved
returns-in-RemoveExistingAndInsertAtSortPosition-clause-moved c =
    rw c.in-RemoveExistingAndInsertAtSortPosition.is
    (c.sorted_place_for.ensures.moved
    ∙ placed_anew (asked c.args.query.now) c.args.change.now c.args.row.now c.requires.row
    c.args.results.now c.old_place-old.result c.old_place-old.ensures.within
    c.old_place-old.ensures.first)

-- for the last row
pub returns-in-InsertAtSortPositionRemoveLast-clause-moved :
    goal.returns-in-InsertAtSortPositionRemoveLast-clause-moved
returns-in-InsertAtSortPositionRemoveLast-clause-moved c =
    rw c.in-InsertAtSortPositionRemoveLast.is
    (c.sorted_place_for-in-InsertAtSortPositionRemoveLast.ensures.moved
    ∙ placed_for_last (asked c.args.query.now) c.args.change.now c.args.row.now c.requires.row
    c.args.results.now _ (ap (λ n. n - 1) c.len-len.ensures))
