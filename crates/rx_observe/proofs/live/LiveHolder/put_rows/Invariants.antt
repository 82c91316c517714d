use Rattle.std.proofs.Common.{◌≡◌, true}
use Rattle.std.specs.Vec.Iter.{into_iter_items}
use Rattle.rx_collection.specs.Commit.{AreNext}
use Rattle.rx_observe.specs.Lived.{IsWhole}
use Rattle.rx_observe.specs.Observing.{put_all}
use Rattle.rx_observe.proofs.Putting.{whole}
use Rattle.rx_observe.proofs.live.LiveHolder.put_rows.Given as goal

-- the queries are right and the indexes are those of the collection, and the rows to come may be
-- written, and give what all rows give
abbrev pub invariant-loop-row : goal.invariant-loop-row
invariant-loop-row l =
    IsWhole l.self-inside.collection l.self-inside.queries.items l.self-inside.fronts.items
    l.self-inside.indexes.items
    × (put_all (whole l.self-inside.collection l.self-inside.queries.items)
    (into_iter_items l.row-iterator) ≡ put_all l.fn.self l.fn.rows.items)
    × AreNext l.self-inside.collection (into_iter_items l.row-iterator)
    × (l.self-inside.broken ≡ true)
