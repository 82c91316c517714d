use Rattle.std.proofs.Common.{◌≡◌, drop}
use Rattle.serde_json.specs.View.{items_view}
use Rattle.rx_wire.specs.States.{is_row, all_items}
use Rattle.rx_wire.proofs.states.are_rows.Given as goal

-- the items that are left decide
abbrev pub invariant-loop-item : goal.invariant-loop-item
invariant-loop-item l =
    all_items is_row (items_view l.items)
    ≡ all_items is_row (items_view (drop l.item-index l.items))
