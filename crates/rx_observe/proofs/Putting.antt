-- Rows put one after another.
use Rattle.std.proofs.Common.{◌≡◌, false, List, [], ◌∷◌, refl, sym, ap, ◌∙◌, subst}
use Rattle.rx_document.specs.declared.stored.Stored.{Stored}
use Rattle.rx_collection.specs.Commit.{with_row}
use Rattle.rx_collection.specs.Held.{Held}
use Rattle.rx_index.specs.Index.{Indexed}
use Rattle.rx_observe.specs.Front.{AreFronts}
use Rattle.rx_observe.specs.Indexes.{AreIndexesOf}
use Rattle.rx_observe.specs.Lived.{IsWhole}
use Rattle.rx_observe.specs.Observing.{Observing, Queries, AllRight, each, queries_after, change_by, watch_after, put_all}
use Rattle.rx_observe.specs.Watched.{Watched, stepped}
use Rattle.rx_observe.specs.declared.front.Front.{Front}
use Rattle.rx_observe.proofs.Emitting.{distinct_each}
use Rattle.rx_observe.proofs.Steps.{right_after}

-- what is done to each query, and then something else
each_then : (f g : Watched → Watched) (qs : Queries)
    → each g (each f qs) ≡ each (λ w. g (f w)) qs
each_then f g [] = refl
each_then f g (q ∷ qs) = ap (λ rest. (q.0, g (f q.1)) ∷ rest) (each_then f g qs)

-- where nothing is done to it
each_same : (qs : Queries) → each (λ w. w) qs ≡ qs
each_same [] = refl
each_same (q ∷ qs) = ap (λ rest. q ∷ rest) (each_same qs)

-- no rows leave all as it was
pub put_none : (o : Observing) → put_all o [] ≡ o
put_none o = λ i. record {
  collection = o.collection;
  queries = each_same o.queries i;
  broken = o.broken;
}

-- a collection and queries that aren't broken
abbrev pub whole : Held → Queries → Observing
whole c qs = record { collection = c; queries = qs; broken = false }

module _ (c new : Held) (row : Stored) (qs now : Queries) (new_is : new ≡ with_row c row)
    (now_is : now ≡ queries_after c row qs) where
  -- after a row the queries are right
  right_put : AllRight c qs → AllRight new now
  right_put all =
      subst (λ d. AllRight d now) (sym new_is)
      (subst (AllRight (with_row c row)) (sym now_is)
      (right_after c (with_row c row) (change_by c row) qs refl all))

  pub whole_put : (fs gs : List Front) (before after : List Indexed) → IsWhole c qs fs before
      → AreFronts new now gs → AreIndexesOf new after → IsWhole new now gs after
  whole_put fs gs before after kept fronts indexed = record {
    names = distinct_each (stepped (with_row c row).documents (change_by c row)) qs now now_is
        kept.names;
    right = right_put kept.right;
    fronts = fronts;
    indexed = indexed;
  }

  -- the other rows make of that what all make of what was before
  pub put_on : (rows : List Stored)
      → put_all (whole new now) rows ≡ put_all (whole c qs) (row ∷ rows)
  put_on rows =
      ap (λ o. put_all o rows) (λ i. whole (new_is i) (now_is i))
      ∙ (λ i. record {
        collection = (put_all (whole c qs) (row ∷ rows)).collection;
        queries = each_then (stepped (with_row c row).documents (change_by c row))
            (watch_after (with_row c row) rows) qs i;
        broken = false;
      })
