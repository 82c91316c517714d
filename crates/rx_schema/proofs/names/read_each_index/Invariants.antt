use Rattle.std.proofs.Common.{◌≡◌, drop}
use Rattle.serde_json.specs.View.{items_view}
use Rattle.rx_schema.specs.Names.{each_index}
use Rattle.rx_schema.proofs.Lists.{after}
use Rattle.rx_schema.proofs.names.read_each_index.Given as goal

-- the indexes so far, before those that are left, are all
abbrev pub invariant-loop-item : goal.invariant-loop-item
invariant-loop-item l =
    each_index (items_view l.items)
    ≡ after l.indexes (each_index (items_view (drop l.item-index l.items)))
