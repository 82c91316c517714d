use Rattle.std.proofs.Common.{◌≡◌, [], drop}
use Rattle.serde_json.specs.View.{items_view}
use Rattle.rx_query.specs.Reading.{items_sorts}
use Rattle.rx_query.proofs.reading.read_items.Given as goal

-- those so far, and each of the items that are left, are what all items say
abbrev pub invariant-loop-item : goal.invariant-loop-item
invariant-loop-item l =
    items_sorts l.kinds [] (items_view l.items)
    ≡ items_sorts l.kinds l.sorts.items (items_view (drop l.item-index l.items))
