use Rattle.std.proofs.Common.{◌≡◌, drop}
use Rattle.serde_json.specs.View.{items_view}
use Rattle.rx_selector.specs.Values.{items_values}
use Rattle.rx_selector.proofs.Lists.{before}
use Rattle.rx_selector.proofs.values.read_items.Given as goal

-- the values so far, before those of the items that are left, are those of all items
abbrev pub invariant-loop-item : goal.invariant-loop-item
invariant-loop-item l =
    items_values l.name (items_view l.items)
    ≡ before l.values.items (items_values l.name (items_view (drop l.item-index l.items)))
