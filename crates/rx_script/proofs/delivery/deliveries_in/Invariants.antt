use Rattle.std.proofs.Common.{◌≡◌, [], drop}
use Rattle.serde_json.specs.View.{items_view}
use Rattle.rx_script.specs.Delivery.{deliveries_after}
use Rattle.rx_script.proofs.delivery.deliveries_in.Given as goal

-- what is due of all items is due of those that are left, after the deliveries so far
abbrev pub invariant-loop-item : goal.invariant-loop-item
invariant-loop-item l =
    deliveries_after [] (items_view l.items)
    ≡ deliveries_after l.link.items (items_view (drop l.item-index l.items))
