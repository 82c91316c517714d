-- A journal is opened again: the queries move to the collections that were read from it, and are
-- cold.
use Rattle.std.proofs.Common.{◌≡◌, ℕ, false, cond, List, [], ◌∷◌, ◌++◌, map, Option, Some, None, option_map, refl, sym, ap, ◌∙◌}
use Rattle.std.proofs.lemmas.Map.Made.{lookup-map_values}
use Rattle.std.specs.List.{AllByRecursion, IsDistinct}
use Rattle.std.specs.Map.{keys_of}
use Rattle.std.specs.Str.{bytes_eq}
use Rattle.rx_value.specs.Named.{named, change_named}
use Rattle.rx_value.proofs.Lists.{cons_parts}
use Rattle.rx_value.proofs.Bytes.{bytes_itself, bytes_apart_turned}
use Rattle.rx_collection.specs.Held.{Held}
use Rattle.rx_observe.specs.Observing.{Observing, each, cooled, with_queries}
use Rattle.rx_world.specs.World.{World}
use Rattle.rx_session.specs.Lives.{with_cooled, bare, each_live}
use Rattle.rx_session.specs.Placed.{ArePlaced, AreQuietUnless, AreUnwatched, Lives, queries_at}
use Rattle.rx_session.specs.Session.{Observed, with_watched}
use Rattle.rx_session.specs.declared.query_place.QueryPlace.{QueryPlace}
use Rattle.rx_session.proofs.Places.{colls, placed_told}

-- ---- queries made cold

-- all of them
abbrev pub all_cold : List Observed → List Observed
all_cold os = map (λ o. with_watched (cooled o.watched) o) os

-- they stay at their places
pub moved_placed : (old : Lives) (ps : List QueryPlace) (os : List Observed) → ArePlaced old ps os
    → ArePlaced (each_live with_cooled old) ps (all_cold os)
moved_placed old ps os placed =
    placed_told old (each_live with_cooled old) ps os placed (λ n v. cooled v)
    (λ n. ap queries_at (lookup-map_values with_cooled (bytes_eq n) old) ∙ here (named old n))
  where
    here : (o : Option Observing)
        → queries_at (option_map with_cooled o) ≡ each cooled (queries_at o)
    here None = refl
    here (Some l) = refl

-- what is to be emitted of a query that is made cold is what was
pub moved_quiet : (w : World) (os : List Observed) → AreQuietUnless [] w os
    → AreQuietUnless [] w (all_cold os)
moved_quiet w [] quiet = tt
moved_quiet w (o ∷ os) quiet = (quiet.0, moved_quiet w os quiet.1)

-- the collections stay
pub moved_colls : (old : Lives) → colls (each_live with_cooled old) ≡ colls old
moved_colls [] = refl
moved_colls (l ∷ ls) = ap (λ cs. (l.0, l.1.collection) ∷ cs) (moved_colls ls)

-- ---- one collection after another

-- no collection is broken
abbrev pub AreUnbroken : Lives → Type 0
AreUnbroken ls = AllByRecursion (λ l. l.1.broken ≡ false) ls

-- collections that were read, with no query, are those that were, without their queries
pub bare_are : (old fresh : Lives) → colls fresh ≡ colls old → AreUnwatched fresh
    → AreUnbroken old → fresh ≡ each_live bare old
bare_are [] [] same none whole = refl
bare_are [] (f ∷ fs) same none whole = absurd (cc)
bare_are (l ∷ ls) [] same none whole = absurd (cc)
bare_are (l ∷ ls) (f ∷ fs) same none whole =
    let parts = cons_parts {X = List ℕ × Held} (f.0, f.1.collection) (l.0, l.1.collection)
    (colls fs) (colls ls)
    same in
    let name : f.0 ≡ l.0 = ap (λ (e : List ℕ × Held). e.0) parts.0 in
    let collection : f.1.collection ≡ l.1.collection = ap (λ (e : List ℕ × Held). e.1) parts.0 in
    let queries : f.1.queries ≡ [] = none.0.none in
    let broken : f.1.broken ≡ l.1.broken = none.0.unbroken ∙ sym whole.0 in
    let all = bare_are ls fs parts.1 none.1 whole.1 in
    λ i. (
      name i,
      record {
        collection = collection i;
        queries = queries i;
        broken = broken i;
      },
    ) ∷ all i

-- one that is done has another name than the one whose turn it is
not_done : (k : List ℕ) (ds : Lives) (n : List ℕ) (l : Observing) (rest : Lives)
    → AllByRecursion (λ y. bytes_eq k y ≡ false) (keys_of (ds ++ (n, l) ∷ rest))
    → bytes_eq n k ≡ false
not_done k [] n l rest apart = bytes_apart_turned k n apart.0
not_done k (d ∷ ds) n l rest apart = not_done k ds n l rest apart.1

-- the collection whose turn it is has no query yet
pub next_bare : (done : Lives) (n : List ℕ) (l : Observing) (rest : Lives)
    → IsDistinct bytes_eq (keys_of (done ++ (n, l) ∷ rest))
    → named (each_live with_cooled done ++ each_live bare ((n, l) ∷ rest)) n ≡ Some (bare l)
unfolding IsDistinct
next_bare [] n l rest apart =
    ap (λ b. cond b (Some (bare l)) (named (each_live bare rest) n)) (bytes_itself n)
next_bare (d ∷ ds) n l rest apart =
    let later = named (each_live with_cooled ds ++ each_live bare ((n, l) ∷ rest)) n in
    ap (λ b. cond b (Some (with_cooled d.1)) later) (not_done d.0 ds n l rest apart.0)
    ∙ next_bare ds n l rest apart.1

-- it gets its queries, made cold, and the others stay as they are
pub next_moved : (done : Lives) (n : List ℕ) (l : Observing) (rest : Lives)
    → IsDistinct bytes_eq (keys_of (done ++ (n, l) ∷ rest))
    → change_named (each_live with_cooled done ++ each_live bare ((n, l) ∷ rest)) n
    (λ x. with_queries x (each cooled l.queries))
    ≡ each_live with_cooled (done ++ (n, l) ∷ []) ++ each_live bare rest
unfolding IsDistinct
next_moved [] n l rest apart =
    let give : Observing → Observing = λ x. with_queries x (each cooled l.queries) in
    ap (λ b. cond b ((n, with_cooled l) ∷ each_live bare rest)
    ((n, bare l) ∷ change_named (each_live bare rest) n give)) (bytes_itself n)
next_moved (d ∷ ds) n l rest apart =
    let give : Observing → Observing = λ x. with_queries x (each cooled l.queries) in
    let later = each_live with_cooled ds ++ each_live bare ((n, l) ∷ rest) in
    ap (λ b. cond b ((d.0, give (with_cooled d.1)) ∷ later)
    ((d.0, with_cooled d.1) ∷ change_named later n give)) (not_done d.0 ds n l rest apart.0)
    ∙ ap (λ ls. (d.0, with_cooled d.1) ∷ ls) (next_moved ds n l rest apart.1)

module _ (ls done : Lives) (n : List ℕ) (l : Observing) (rest : Lives)
    (is : ls ≡ each_live with_cooled done ++ each_live bare ((n, l) ∷ rest))
    (apart : IsDistinct bytes_eq (keys_of (done ++ (n, l) ∷ rest))) where
  -- both of a list that is known to be so
  pub next_is_bare : named ls n ≡ Some (bare l)
  next_is_bare = ap (λ ls. named ls n) is ∙ next_bare done n l rest apart

  pub next_is_moved : change_named ls n (λ x. with_queries x (each cooled l.queries))
      ≡ each_live with_cooled (done ++ (n, l) ∷ []) ++ each_live bare rest
  next_is_moved =
      ap (λ ls. change_named ls n (λ x. with_queries x (each cooled l.queries))) is
      ∙ next_moved done n l rest apart
