use Rattle.std.proofs.Common.{◌≡◌, [], drop}
use Rattle.serde_json.specs.View.{items_view}
use Rattle.rx_migrate.specs.Reading.{steps_after}
use Rattle.rx_migrate.proofs.reading.read_items.Given as goal

-- what is due of all items is due of those that are left, after the steps so far
abbrev pub invariant-loop-item : goal.invariant-loop-item
invariant-loop-item l =
    steps_after [] (items_view l.items)
    ≡ steps_after l.steps (items_view (drop l.item-index l.items))
