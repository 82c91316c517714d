-- The places of a session's queries, and the queries themselves.
use Rattle.std.proofs.Common.{◌≡◌, ℕ, true, false, cond, not, ◌||◌, Bool, List, [], ◌∷◌, ◌++◌, map, filter, length, Option, Some, None, is_some, option_map, refl, sym, ap, ◌∙◌, subst}
use Rattle.std.proofs.lemmas.Bool.{or_parts}
use Rattle.std.proofs.lemmas.Cmp.{nat_list_eq_equiv}
use Rattle.std.proofs.lemmas.List.{length-map, map-append, map-id}
use Rattle.std.proofs.lemmas.List.Elements.{filter-append}
use Rattle.std.proofs.lemmas.Map.Keys.{IsDistinct-push}
use Rattle.std.proofs.lemmas.Map.Made.{keys_of-map_values, lookup-map_values}
use Rattle.std.proofs.lemmas.Option.{none-some, same_Some}
use Rattle.std.proofs.lemmas.Simd.{map-map}
use Rattle.std.proofs.lemmas.Slice.Eq.{bytes_eq-Decides}
use Rattle.std.specs.declared.alloc.Global.{Global}
use Rattle.std.specs.Prelude.{String, string_bytes, if◌then◌else◌}
use Rattle.std.specs.List.{AllByRecursion, IsDistinct, cons_option, filter_map, find, list_any}
use Rattle.std.specs.Map.{keys_of}
use Rattle.std.specs.Str.{bytes_eq}
use Rattle.rx_value.specs.Named.{named, change_named, by_bytes, by_name}
use Rattle.rx_value.proofs.Lists.{all_weaker, all_both, all_passed, map-filter}
use Rattle.rx_value.proofs.Outcomes.{none_mapped}
use Rattle.rx_value.proofs.Bytes.{bytes_itself, bytes_apart_turned, bytes_differ}
use Rattle.rx_collection.specs.Held.{Held}
use Rattle.rx_observe.specs.Observing.{Observing, Queries, each, without}
use Rattle.rx_observe.specs.Watched.{Watched}
use Rattle.rx_world.specs.Holders.{Holders, holders_in}
use Rattle.rx_world.specs.Valid.{AreDistinct}
use Rattle.rx_world.proofs.Looked.{named-change_other, named-change_same}
use Rattle.rx_session.specs.Lives.{IsFree}
use Rattle.rx_session.specs.Placed.{AreUnwatched, ArePlaced, Lives, observed_at, place_named, place_of, queries_at, queries_in, queries_of, query_at, world_of}
use Rattle.rx_session.specs.Session.{Observed, by_query, with_watched}
use Rattle.rx_session.specs.declared.query_place.QueryPlace.{QueryPlace}

-- ---- lists

module _ {X Y : Type 0} (f : X → Y) where
  -- the first that passes, among what things are mapped to
  find-map : (test : Y → Bool) (xs : List X)
      → find test (map f xs) ≡ option_map f (find (λ x. test (f x)) xs)
  find-map test [] = refl
  find-map test (x ∷ xs) =
      elim (test (f x)) as (λ b. cond b (Some (f x)) (find test (map f xs))
      ≡ option_map f (cond b (Some x) (find (λ x. test (f x)) xs)))
      [ true ↦ refl | false ↦ find-map test xs ]

  -- some passes among what things are mapped to
  any-map : (test : Y → Bool) (xs : List X)
      → list_any test (map f xs) ≡ list_any (λ x. test (f x)) xs
  any-map test [] = refl
  any-map test (x ∷ xs) = ap (λ b. test (f x) || b) (any-map test xs)

  -- what holds of all that things are mapped to
  pub all_mapped : (P : Y → Type 0) (xs : List X) → AllByRecursion P (map f xs)
      → AllByRecursion (λ x. P (f x)) xs
  all_mapped P [] all = tt
  all_mapped P (x ∷ xs) all = (all.0, all_mapped P xs all.1)

  -- things that are found again from what they are mapped to
  found_again : (g : Y → Option X) (xs : List X) → AllByRecursion (λ x. g (f x) ≡ Some x) xs
      → filter_map g (map f xs) ≡ xs
  found_again g [] all = refl
  found_again g (x ∷ xs) all =
      ap (λ o. cons_option o (filter_map g (map f xs))) all.0
      ∙ ap (λ ys. x ∷ ys) (found_again g xs all.1)

module _ {X : Type 0} (test : X → Bool) where
  -- the first that passes is there where some passes
  is_some-first : (xs : List X) → is_some (find test xs) ≡ list_any test xs
  is_some-first [] = refl
  is_some-first (x ∷ xs) =
      elim (test x) as (λ b. is_some (cond b (Some x) (find test xs)) ≡ (b || list_any test xs))
      [ true ↦ refl | false ↦ is_some-first xs ]

  -- the first that passes does so, and is as each one is
  all_find : (P : X → Type 0) (xs : List X) (x : X) → find test xs ≡ Some x
      → AllByRecursion P xs → (test x ≡ true) × P x
  all_find P [] x at all = absurd (none-some x at)
  all_find P (y ∷ ys) x at all =
      elim (test y) as (λ b. test y ≡ b → cond b (Some y) (find test ys) ≡ Some x
      → (test x ≡ true) × P x) [
        | true ↦ (λ is at.
            subst (λ z. (test z ≡ true) × P z) (same_Some y x at) (is, all.0))
        | false ↦ (λ is at. all_find P ys x at all.1)
      ] refl at

  -- two filters in either order
  filters_swap : (q : X → Bool) (xs : List X)
      → filter q (filter test xs) ≡ filter test (filter q xs)
  filters_swap q [] = refl
  filters_swap q (x ∷ xs) =
      let ps = filter test xs in
      let qs = filter q xs in
      elim (test x) as (λ b. test x ≡ b
      → filter q (cond b (x ∷ ps) ps) ≡ filter test (cond (q x) (x ∷ qs) qs)) [
        | true ↦ (λ is.
            elim (q x) as
            (λ c. cond c (x ∷ filter q ps) (filter q ps) ≡ filter test (cond c (x ∷ qs) qs)) [
              | true ↦ ap (λ ys. x ∷ ys) (filters_swap q xs)
                  ∙ sym (ap (λ b. cond b (x ∷ filter test qs) (filter test qs)) is)
              | false ↦ filters_swap q xs
            ])
        | false ↦ (λ is.
            elim (q x) as (λ c. filter q ps ≡ filter test (cond c (x ∷ qs) qs)) [
              | true ↦ filters_swap q xs
                  ∙ sym (ap (λ b. cond b (x ∷ filter test qs) (filter test qs)) is)
              | false ↦ filters_swap q xs
            ])
      ] refl

-- distinct keys stay so when some are dropped
distinct_passed : (p : List ℕ → Bool) (ks : List (List ℕ)) → IsDistinct bytes_eq ks
    → IsDistinct bytes_eq (filter p ks)
unfolding IsDistinct
distinct_passed p [] apart = tt
distinct_passed p (k ∷ ks) apart =
    elim (p k) as (λ b. IsDistinct bytes_eq (cond b (k ∷ filter p ks) (filter p ks))) [
      | true ↦ (all_passed (λ y. bytes_eq k y ≡ false) p ks apart.0, distinct_passed p ks apart.1)
      | false ↦ distinct_passed p ks apart.1
    ]

-- ---- the world of collections with queries

-- the collections without their queries
abbrev pub colls : Lives → List (List ℕ × Held)
colls ls = map (λ l. (l.0, l.1.collection)) ls

-- those of entries
colls_in : (es : List (String Global × Observing))
    → by_name (λ (l : Observing). l.collection) es ≡ colls (by_bytes es)
colls_in [] = refl
colls_in (e ∷ es) = ap (λ cs. (string_bytes e.0, e.1.collection) ∷ cs) (colls_in es)

-- the world's collections
pub world_colls : (h : Holders Observing) → (world_of h).collections ≡ colls (holders_in h)
world_colls h = colls_in h.entries

-- the names of collections differ where the world's do
pub distinct_in : (h : Holders Observing) → AreDistinct (world_of h)
    → IsDistinct bytes_eq (keys_of (holders_in h))
distinct_in h distinct =
    subst (IsDistinct bytes_eq) (ap (λ cs. keys_of cs) (world_colls h)
    ∙ keys_of-map_values (λ (l : Observing). l.collection) (holders_in h)) distinct

-- the collection of a name
pub named-colls : (ls : Lives) (name : List ℕ)
    → named (colls ls) name ≡ option_map (λ (l : Observing). l.collection) (named ls name)
named-colls ls name = lookup-map_values (λ (l : Observing). l.collection) (bytes_eq name) ls

-- a change of the queries alone leaves the collections
pub colls-change_named : (f : Observing → Observing)
    → ((l : Observing) → (f l).collection ≡ l.collection) → (ls : Lives) (name : List ℕ)
    → colls (change_named ls name f) ≡ colls ls
colls-change_named f same [] name = refl
colls-change_named f same (l ∷ ls) name =
    elim (bytes_eq name l.0)
    as (λ b. colls (cond b ((l.0, f l.1) ∷ ls) (l ∷ change_named ls name f)) ≡ colls (l ∷ ls)) [
      | true ↦ ap (λ (c : Held). (l.0, c) ∷ colls ls) (same l.1)
      | false ↦ ap (λ cs. (l.0, l.1.collection) ∷ cs) (colls-change_named f same ls name)
    ]

-- what a name names once a collection is changed
pub named-changed : (f : Observing → Observing) (ls : Lives) (coll n : List ℕ)
    → named (change_named ls coll f) n
    ≡ cond (bytes_eq coll n) (option_map f (named ls n)) (named ls n)
named-changed f ls coll n =
    elim (bytes_eq coll n) as (λ b. bytes_eq coll n ≡ b → named (change_named ls coll f) n
    ≡ cond b (option_map f (named ls n)) (named ls n)) [
      | true ↦ (λ is.
          subst (λ k. named (change_named ls k f) n ≡ option_map f (named ls n))
          (sym ((bytes_eq-Decides coll n).0 is)) (named-change_same f ls n))
      | false ↦ (λ is.
          named-change_other f ls coll n (λ same. bytes_differ coll n is (sym same)))
    ] refl

-- ---- the queries of places are those of all

-- a query's name and state
abbrev shown : Observed → List ℕ × Watched
shown o = (o.name, o.watched)

-- with one of another name in front
later : (x o : Observed) (os : List Observed) → bytes_eq o.name x.name ≡ false
    → named (queries_in o.coll os) o.name ≡ Some o.watched
    → named (queries_in o.coll (x ∷ os)) o.name ≡ Some o.watched
later x o os apart is =
    let rest = filter (λ (y : Observed). bytes_eq o.coll y.coll) os in
    elim (bytes_eq o.coll x.coll)
    as (λ b. named (map shown (cond b (x ∷ rest) rest)) o.name ≡ Some o.watched) [
      | true ↦ ap (λ b. cond b (Some x.watched) (named (map shown rest) o.name)) apart ∙ is
      | false ↦ is
    ]

-- each has its own name in its collection
own_query : (os : List Observed) → IsDistinct bytes_eq (map (λ o. o.name) os)
    → AllByRecursion (λ o. named (queries_in o.coll os) o.name ≡ Some o.watched) os
unfolding IsDistinct
own_query [] distinct = tt
own_query (o ∷ os) distinct =
    let rest = filter (λ (y : Observed). bytes_eq o.coll y.coll) os in (
      ap (λ b. named (map shown (cond b (o ∷ rest) rest)) o.name) (bytes_itself o.coll)
          ∙ ap (λ b. cond b (Some o.watched) (named (map shown rest) o.name))
          (bytes_itself o.name),
      all_weaker (λ (x : Observed). (bytes_eq o.name x.name ≡ false)
          × (named (queries_in x.coll os) x.name ≡ Some x.watched))
          (λ x. named (queries_in x.coll (o ∷ os)) x.name ≡ Some x.watched)
          (λ x h. later o x os (bytes_apart_turned o.name x.name h.0) h.1) os
          (all_both _ _ os
          (all_mapped (λ (x : Observed). x.name) (λ k. bytes_eq o.name k ≡ false) os distinct.0)
          (own_query os distinct.1)),
    )

module _ (ls : Lives) (ps : List QueryPlace) (os : List Observed) (placed : ArePlaced ls ps os)
  where
    -- each is found in its collection
    pub own : AllByRecursion (λ o. named (queries_at (named ls o.coll)) o.name ≡ Some o.watched) os
    own =
        all_weaker (λ (o : Observed). named (queries_in o.coll os) o.name ≡ Some o.watched)
        (λ o. named (queries_at (named ls o.coll)) o.name ≡ Some o.watched)
        (λ o is. ap (λ qs. named qs o.name) (placed.listed o.coll) ∙ is) os
        (own_query os placed.distinct)

    -- so the queries of the places are all
    pub seen : queries_of ls ps ≡ os
    seen =
        ap (filter_map (query_at ls)) (sym placed.places)
        ∙ found_again place_of (query_at ls) os
        (all_weaker (λ (o : Observed). named (queries_at (named ls o.coll)) o.name ≡ Some o.watched)
        (λ o. query_at ls (place_of o) ≡ Some o)
        (λ o is. ap (option_map (observed_at (place_of o))) is) os own)

    pub placed_seen : ArePlaced ls ps (queries_of ls ps)
    placed_seen = subst (ArePlaced ls ps) (sym seen) placed

    -- they are as many
    pub as_many : length ps ≡ length os
    as_many = ap (λ qs. length qs) (sym placed.places) ∙ length-map os place_of

    -- the first place that passes is that of the first query
    pub first_place : (test : QueryPlace → Bool)
        → find test ps ≡ option_map place_of (find (λ o. test (place_of o)) os)
    first_place test = ap (find test) (sym placed.places) ∙ find-map place_of test os

    -- so the name of the first query in a group is that of the first place there
    pub first_named : (G : List ℕ → Bool) → option_map (λ p. p.name) (find (λ p. G p.coll) ps)
        ≡ option_map (λ o. o.name) (find (λ o. G o.coll) os)
    first_named G =
        ap (option_map (λ (p : QueryPlace). p.name)) (first_place (λ p. G p.coll))
        ∙ twice (find (λ o. G o.coll) os)
      where
        twice : (x : Option Observed) → option_map (λ (p : QueryPlace). p.name)
            (option_map place_of x) ≡ option_map (λ o. o.name) x
        twice None = refl
        twice (Some o) = refl

    -- a name is that of a query where it is that of a place
    pub any_place : (name : List ℕ) → is_some (place_named name ps)
        ≡ list_any (λ o. bytes_eq name o.name) os
    any_place name =
        is_some-first (λ (p : QueryPlace). bytes_eq name p.name) ps
        ∙ ap (list_any (λ (p : QueryPlace). bytes_eq name p.name)) (sym placed.places)
        ∙ any-map place_of (λ p. bytes_eq name p.name) os

    query_named : (name : List ℕ) → named (by_query os) name
        ≡ find (λ o. bytes_eq name o.name) os
    query_named name = by_names os
      where
        by_names : (xs : List Observed)
            → named (by_query xs) name ≡ find (λ x. bytes_eq name x.name) xs
        by_names [] = refl
        by_names (x ∷ xs) = ap (cond (bytes_eq name x.name) (Some x)) (by_names xs)

    -- the counts of a query are told in the collection of the place of its name
    pub no_counts_at : (name : List ℕ) → place_named name ps ≡ None
        → option_map (λ (o : Observed). o.watched.counts) (named (by_query os) name) ≡ None
    no_counts_at name none =
        ap (option_map (λ (o : Observed). o.watched.counts)) (query_named name
        ∙ none_mapped place_of (find (λ o. bytes_eq name o.name) os)
        (sym (first_place (λ p. bytes_eq name p.name)) ∙ none))

    pub counts_at : (name : List ℕ) (p : QueryPlace) → place_named name ps ≡ Some p
        → option_map (λ (o : Observed). o.watched.counts) (named (by_query os) name)
        ≡ option_map (λ (v : Watched). v.counts) (named (queries_at (named ls p.coll)) name)
    counts_at name p at =
        by (find (λ o. bytes_eq name o.name) os) refl
        (sym (first_place (λ p. bytes_eq name p.name)) ∙ at)
      where
        by : (x : Option Observed) → find (λ o. bytes_eq name o.name) os ≡ x
            → option_map place_of x ≡ Some p
            → option_map (λ (o : Observed). o.watched.counts) (named (by_query os) name)
            ≡ option_map (λ (v : Watched). v.counts) (named (queries_at (named ls p.coll)) name)
        by None is there = absurd (none-some p there)
        by (Some o) is there =
            let here = all_find (λ (x : Observed). bytes_eq name x.name)
            (λ x. named (queries_at (named ls x.coll)) x.name ≡ Some x.watched) os o is own in
            ap (option_map (λ (x : Observed). x.watched.counts)) (query_named name ∙ is)
            ∙ ap (option_map (λ (v : Watched). v.counts))
            (sym here.1 ∙ ap (named (queries_at (named ls o.coll)))
            (sym ((bytes_eq-Decides name o.name).0 here.0))
            ∙ ap (λ (q : QueryPlace). named (queries_at (named ls q.coll)) name)
            (same_Some (place_of o) p there))

-- ---- something is done to the query of each

-- by the name of its collection
abbrev pub told : (List ℕ → Watched → Watched) → List Observed → List Observed
told k os = map (λ o. with_watched (k o.coll o.watched) o) os

-- in one collection alone
abbrev pub at_coll : List ℕ → (Watched → Watched) → List ℕ → Watched → Watched
at_coll coll g n v = if bytes_eq coll n then g v else v

queries_in-told : (k : List ℕ → Watched → Watched) (coll : List ℕ) (os : List Observed)
    → queries_in coll (told k os) ≡ each (k coll) (queries_in coll os)
queries_in-told k coll [] = refl
queries_in-told k coll (o ∷ os) =
    let new = with_watched (k o.coll o.watched) o in
    let here = filter (λ (x : Observed). bytes_eq coll x.coll) in
    let rest = queries_in-told k coll os in
    elim (bytes_eq coll o.coll) as (λ b. bytes_eq coll o.coll ≡ b
    → map shown (cond b (new ∷ here (told k os)) (here (told k os)))
    ≡ each (k coll) (map shown (cond b (o ∷ here os) (here os)))) [
      | true ↦ (λ is.
          ap (λ n. (o.name, k n o.watched) ∷ queries_in coll (told k os))
          (sym ((bytes_eq-Decides coll o.coll).0 is))
          ∙ ap (λ qs. (o.name, k coll o.watched) ∷ qs) rest)
      | false ↦ (λ is. rest)
    ] refl

module _ (ls new : Lives) (ps : List QueryPlace) (os : List Observed) (placed : ArePlaced ls ps os)
  where
    -- where each collection's queries become others, so do all
    pub placed_told : (k : List ℕ → Watched → Watched)
        → ((n : List ℕ) → queries_at (named new n) ≡ each (k n) (queries_at (named ls n)))
        → ArePlaced new ps (told k os)
    placed_told k so = record {
      places = map-map place_of (λ o. with_watched (k o.coll o.watched) o) os ∙ placed.places;
      distinct = subst (IsDistinct bytes_eq)
          (sym (map-map (λ (o : Observed). o.name) (λ o. with_watched (k o.coll o.watched) o) os))
          placed.distinct;
      listed = λ n. so n ∙ ap (each (k n)) (placed.listed n) ∙ sym (queries_in-told k n os);
    }

    -- where they stay, so do all
    pub placed_same : ((n : List ℕ) → queries_at (named new n) ≡ queries_at (named ls n))
        → ArePlaced new ps os
    placed_same so = record {
      places = placed.places;
      distinct = placed.distinct;
      listed = λ n. so n ∙ placed.listed n;
    }

    -- with one more
    pub placed_more : (o : Observed) → list_any (λ x. bytes_eq o.name x.name) os ≡ false
        → ((n : List ℕ)
        → queries_at (named new n) ≡ queries_at (named ls n) ++ queries_in n (o ∷ []))
        → ArePlaced new (ps ++ place_of o ∷ []) (os ++ o ∷ [])
    placed_more o free so = record {
      places = map-append place_of os (o ∷ []) ∙ ap (λ qs. qs ++ place_of o ∷ []) placed.places;
      distinct = subst (IsDistinct bytes_eq)
          (sym (map-append (λ (x : Observed). x.name) os (o ∷ [])))
          (IsDistinct-push nat_list_eq_equiv (map (λ x. x.name) os) o.name placed.distinct
          (any-map (λ (x : Observed). x.name) (bytes_eq o.name) os ∙ free));
      listed = λ n. so n ∙ ap (λ qs. qs ++ queries_in n (o ∷ [])) (placed.listed n)
          ∙ sym (ap (map shown) (filter-append (λ x. bytes_eq n x.coll) os (o ∷ []))
          ∙ map-append shown (filter (λ x. bytes_eq n x.coll) os)
          (filter (λ x. bytes_eq n x.coll) (o ∷ [])));
    }

    -- without those of a name
    pub placed_less : (name : List ℕ)
        → ((n : List ℕ) → queries_at (named new n) ≡ without name (queries_at (named ls n)))
        → ArePlaced new (filter (λ p. not (bytes_eq name p.name)) ps)
        (filter (λ o. not (bytes_eq name o.name)) os)
    placed_less name so = record {
      places = map-filter place_of (λ p. not (bytes_eq name p.name)) os
          ∙ ap (filter (λ p. not (bytes_eq name p.name))) placed.places;
      distinct = subst (IsDistinct bytes_eq)
          (sym (map-filter (λ (o : Observed). o.name) (λ k. not (bytes_eq name k)) os))
          (distinct_passed (λ k. not (bytes_eq name k)) (map (λ o. o.name) os) placed.distinct);
      listed = λ n. so n ∙ ap (without name) (placed.listed n)
          ∙ sym (ap (map shown)
          (filters_swap (λ (o : Observed). not (bytes_eq name o.name)) (λ o. bytes_eq n o.coll) os)
          ∙ map-filter shown (λ q. not (bytes_eq name q.0)) (filter (λ o. bytes_eq n o.coll) os));
    }

-- a change of one collection is told to its queries
pub changed : (f : Observing → Observing) (g : Watched → Watched) (ls : Lives) (coll : List ℕ)
    → ((l : Observing) → named ls coll ≡ Some l → (f l).queries ≡ each g l.queries) → (n : List ℕ)
    → queries_at (named (change_named ls coll f) n)
    ≡ each (at_coll coll g n) (queries_at (named ls n))
changed f g ls coll same n =
    ap queries_at (named-changed f ls coll n)
    ∙ elim (bytes_eq coll n) as (λ b. bytes_eq coll n ≡ b
    → queries_at (cond b (option_map f (named ls n)) (named ls n))
    ≡ each (λ v. cond b (g v) v) (queries_at (named ls n))) [
      | true ↦ (λ is.
          here (named ls n) (λ l at. same l (ap (named ls) ((bytes_eq-Decides coll n).0 is) ∙ at)))
      | false ↦ (λ is. sym (map-id (queries_at (named ls n))))
    ] refl
  where
    here : (o : Option Observing)
        → ((l : Observing) → o ≡ Some l → (f l).queries ≡ each g l.queries)
        → queries_at (option_map f o) ≡ each g (queries_at o)
    here None same = refl
    here (Some l) same = same l refl

-- ---- a name

-- a name that no query has is that of none in a collection
none_named : (name coll : List ℕ) (os : List Observed)
    → AllByRecursion (λ k. bytes_eq name k ≡ false) (map (λ o. o.name) os)
    → named (queries_in coll os) name ≡ None
none_named name coll [] none = refl
none_named name coll (o ∷ os) none =
    let here = filter (λ (x : Observed). bytes_eq coll x.coll) os in
    let rest = none_named name coll os none.1 in
    elim (bytes_eq coll o.coll)
    as (λ b. named (map shown (cond b (o ∷ here) here)) name ≡ None) [
      | true ↦ ap (λ b. cond b (Some o.watched) (named (map shown here) name)) none.0 ∙ rest
      | false ↦ rest
    ]

-- so it is where none is found by it
pub no_name : (name coll : List ℕ) (os : List Observed)
    → list_any (λ o. bytes_eq name o.name) os ≡ false → named (queries_in coll os) name ≡ None
no_name name coll os none = none_named name coll os (others os none)
  where
    others : (xs : List Observed) → list_any (λ o. bytes_eq name o.name) xs ≡ false
        → AllByRecursion (λ k. bytes_eq name k ≡ false) (map (λ o. o.name) xs)
    others [] none = tt
    others (x ∷ xs) none =
        let parts = or_parts (bytes_eq name x.name) (list_any (λ o. bytes_eq name o.name) xs) none
        in (parts.0, others xs parts.1)

-- and in each collection but that of the query that has it
pub elsewhere : (name coll : List ℕ) (os : List Observed) (o : Observed)
    → IsDistinct bytes_eq (map (λ o. o.name) os)
    → find (λ x. bytes_eq name x.name) os ≡ Some o → bytes_eq coll o.coll ≡ false
    → named (queries_in coll os) name ≡ None
unfolding IsDistinct
elsewhere name coll [] o distinct at apart = refl
elsewhere name coll (x ∷ xs) o distinct at apart =
    let here = filter (λ (y : Observed). bytes_eq coll y.coll) xs in
    elim (bytes_eq name x.name) as (λ b. bytes_eq name x.name ≡ b
    → cond b (Some x) (find (λ y. bytes_eq name y.name) xs) ≡ Some o
    → named (queries_in coll (x ∷ xs)) name ≡ None) [
      | true ↦ (λ is at.
          ap (λ b. named (map shown (cond b (x ∷ here) here)) name)
          (ap (λ (y : Observed). bytes_eq coll y.coll) (same_Some x o at) ∙ apart)
          ∙ none_named name coll xs
          (subst (λ n. AllByRecursion (λ k. bytes_eq n k ≡ false) (map (λ o. o.name) xs))
          (sym ((bytes_eq-Decides name x.name).0 is)) distinct.0))
      | false ↦ (λ is at.
          let rest = elsewhere name coll xs o distinct.1 at apart in
          elim (bytes_eq coll x.coll)
          as (λ b. named (map shown (cond b (x ∷ here) here)) name ≡ None) [
            | true ↦ ap (λ b. cond b (Some x.watched) (named (map shown here) name)) is ∙ rest
            | false ↦ rest
          ])
    ] refl at

-- a name is free in a collection where it names none of its queries
pub is_free : (name : List ℕ) (o : Option Observing) → named (queries_at o) name ≡ None
    → IsFree name o
is_free name None none = tt
is_free name (Some l) none = none

-- and then all its queries are without it
pub without_none : (name : List ℕ) (qs : Queries) → named qs name ≡ None → without name qs ≡ qs
without_none name [] none = refl
without_none name (q ∷ qs) none =
    let left = without name qs in
    elim (bytes_eq name q.0) as (λ b. cond b (Some q.1) (named qs name) ≡ None
    → cond (not b) (q ∷ left) left ≡ q ∷ qs) [
      | true ↦ (λ h. absurd (none-some q.1 (sym h)))
      | false ↦ (λ h. ap (λ xs. q ∷ xs) (without_none name qs h))
    ] none

-- ---- where no query is observed

no_queries : (ls : Lives) → AreUnwatched ls → (n : List ℕ) → queries_at (named ls n) ≡ []
no_queries [] all n = refl
no_queries (l ∷ ls) all n =
    elim (bytes_eq n l.0) as (λ b. queries_at (cond b (Some l.1) (named ls n)) ≡ [])
    [ true ↦ all.0.none | false ↦ no_queries ls all.1 n ]

pub bare_placed : (ls : Lives) → AreUnwatched ls → ArePlaced ls [] []
unfolding IsDistinct
bare_placed ls all = record { places = refl; distinct = tt; listed = no_queries ls all }
