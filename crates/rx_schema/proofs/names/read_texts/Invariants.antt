use Rattle.std.proofs.Common.{◌≡◌, drop}
use Rattle.serde_json.specs.View.{items_view}
use Rattle.rx_schema.specs.Names.{texts_of}
use Rattle.rx_schema.proofs.Lists.{after}
use Rattle.rx_schema.proofs.names.read_texts.Given as goal

-- the texts so far, before those that are left, are all
abbrev pub invariant-loop-item : goal.invariant-loop-item
invariant-loop-item l =
    texts_of (items_view l.items)
    ≡ after l.texts (texts_of (items_view (drop l.item-index l.items)))
