-- How the fields of a collection with its observed queries are seen.
use Rattle.std.specs.Prelude.{◌≡◌, false, List}
use Rattle.rx_collection.specs.Held.{Held}
use Rattle.rx_index.specs.Index.{Indexed}
use Rattle.rx_observe.specs.Front.{AreFronts}
use Rattle.rx_observe.specs.Indexes.{AreIndexesOf}
use Rattle.rx_observe.specs.Observing.{Observing, Queries, HaveDistinctNames, AllRight}
use Rattle.rx_observe.specs.declared.front.Front.{Front}
use Rattle.rx_observe.specs.declared.live.Live.TheInside.{Inside}

-- as its parts
abbrev pub observing : Inside → Observing
observing l =
    record { collection = l.collection; queries = l.queries.items; broken = l.broken }

-- while it isn't broken, no name stands twice, each query is right and so is its front, and the
-- indexes are those of the collection
pub record IsWhole (c : Held) (qs : Queries) (fs : List Front) (indexes : List Indexed) : Type 0
  where
    pub names : HaveDistinctNames qs
    pub right : AllRight c qs
    pub fronts : AreFronts c qs fs
    pub indexed : AreIndexesOf c indexes

-- so it is of the fields
abbrev pub IsWholeUnlessBroken : Inside → Type 0
IsWholeUnlessBroken l =
    l.broken ≡ false → IsWhole l.collection l.queries.items l.fronts.items l.indexes.items
