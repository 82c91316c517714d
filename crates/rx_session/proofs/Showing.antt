-- What is emitted of the queries, and what they are then.
use Rattle.std.proofs.Common.{◌≡◌, ℕ, true, false, cond, Bool, List, [], ◌∷◌, ◌++◌, map, filter, Option, Some, None, option_map, refl, sym, ap, ◌∙◌, subst}
use Rattle.std.proofs.lemmas.Bool.{or_from}
use Rattle.std.proofs.lemmas.List.Folds.{find-append}
use Rattle.std.proofs.lemmas.Slice.Eq.{bytes_eq-Decides}
use Rattle.std.specs.List.{AllByRecursion, IsDistinct, cons_option, flat_map, list_any}
use Rattle.std.specs.Option.{option_or}
use Rattle.std.specs.Str.{bytes_eq}
use Rattle.rx_value.specs.Named.{named, change_named}
use Rattle.rx_value.proofs.Lists.{all_weaker, all_both, map_none}
use Rattle.rx_value.proofs.Bytes.{bytes_itself, bytes_apart_turned}
use Rattle.rx_query.specs.declared.results.Row.{Row}
use Rattle.rx_collection.specs.Held.{Held}
use Rattle.rx_observe.specs.Observing.{Observing, each}
use Rattle.rx_observe.specs.Rows.{emissions_due, unseen, with_emission}
use Rattle.rx_observe.specs.Watched.{Watched, with_emitted}
use Rattle.rx_observe.specs.declared.emission.Emission.{Emission}
use Rattle.rx_observe.proofs.Unseen.{seen_last, settled_none}
use Rattle.rx_world.specs.World.{World}
use Rattle.rx_session.specs.Emissions.{emission_due, result, rows_on, settled_query}
use Rattle.rx_session.specs.Lives.{due_of, with_settled}
use Rattle.rx_session.specs.Placed.{ArePlaced, AreQuietUnless, Lives, place_of, queries_at, queries_in}
use Rattle.rx_session.specs.Playing.{due_each, due_in_all, emission_of, in_places, settled_each, without_emission}
use Rattle.rx_session.specs.Session.{Observed, with_watched}
use Rattle.rx_session.specs.declared.query_place.QueryPlace.{QueryPlace}
use Rattle.rx_session.proofs.Places.{all_mapped, at_coll, changed, colls, colls-change_named, named-colls, placed_told, told}

-- ---- the emission of a name's rows, where there are any

abbrev shown_as : List ℕ → Option (List Row) → Option Emission
shown_as name o = option_map (λ rows. record { name = name; rows = rows }) o

-- in front of others
first : (name : List ℕ) (o : Option (List Row)) (es : List Emission)
    → with_emission name o [] ++ es ≡ with_emission name o es
first name None es = refl
first name (Some rows) es = refl

first_is : (name : List ℕ) (o : Option (List Row)) (es : List Emission)
    → with_emission name o [] ++ es ≡ cons_option (shown_as name o) es
first_is name None es = refl
first_is name (Some rows) es = refl

-- where nothing is emitted there are none
no_rows : (name : List ℕ) (o : Option (List Row)) → with_emission name o [] ≡ [] → o ≡ None
no_rows name None none = refl
no_rows name (Some rows) none = cc

-- it is found by its name, where no other one has it
found_first : (name : List ℕ) (o : Option (List Row)) (es : List Emission)
    → emission_of name es ≡ None
    → emission_of name (with_emission name o [] ++ es) ≡ shown_as name o
found_first name None es none = none
found_first name (Some rows) es none =
    ap (λ b. cond b (Some (record { name = name; rows = rows })) (emission_of name es))
    (bytes_itself name)

-- and leaves it to the others where it has another name
found_past : (n name : List ℕ) (o : Option (List Row)) (es : List Emission)
    → bytes_eq n name ≡ false
    → emission_of n (with_emission name o [] ++ es) ≡ emission_of n es
found_past n name None es apart = refl
found_past n name (Some rows) es apart =
    ap (λ b. cond b (Some (record { name = name; rows = rows })) (emission_of n es)) apart

or_none : {X : Type 0} (o : Option X) → option_or o None ≡ o
or_none None = refl
or_none (Some x) = refl

-- another name's emission stays when one is taken
emission_left : (n m : List ℕ) (es : List Emission) → bytes_eq m n ≡ false
    → emission_of m (without_emission n es) ≡ emission_of m es
emission_left n m [] apart = refl
emission_left n m (e ∷ es) apart =
    elim (bytes_eq n e.name) as (λ b. bytes_eq n e.name ≡ b
    → emission_of m (cond b es (e ∷ without_emission n es))
    ≡ cond (bytes_eq m e.name) (Some e) (emission_of m es)) [
      | true ↦ (λ is.
          let other : bytes_eq m e.name ≡ false =
          subst (λ k. bytes_eq m k ≡ false) ((bytes_eq-Decides n e.name).0 is) apart in
          sym (ap (λ b. cond b (Some e) (emission_of m es)) other))
      | false ↦ (λ is. ap (cond (bytes_eq m e.name) (Some e)) (emission_left n m es apart))
    ] refl

module _ {X Y : Type 0} (f : X → List Y) where
  -- nothing of each is nothing of all
  pub none_of_all : (xs : List X) → AllByRecursion (λ x. f x ≡ []) xs → flat_map f xs ≡ []
  none_of_all [] none = refl
  none_of_all (x ∷ xs) none = ap (λ ys. ys ++ flat_map f xs) none.0 ∙ none_of_all xs none.1

  -- where there is nothing of the others, that of some is that of all
  some_are_all : (test : X → Bool) (xs : List X)
      → AllByRecursion (λ x. test x ≡ false → f x ≡ []) xs
      → flat_map f (filter test xs) ≡ flat_map f xs
  some_are_all test [] none = refl
  some_are_all test (x ∷ xs) none =
      elim (test x) as (λ b. test x ≡ b
      → flat_map f (cond b (x ∷ filter test xs) (filter test xs)) ≡ flat_map f (x ∷ xs)) [
        | true ↦ (λ is. ap (λ ys. f x ++ ys) (some_are_all test xs none.1))
        | false ↦ (λ is.
            some_are_all test xs none.1 ∙ sym (ap (λ ys. ys ++ flat_map f xs) (none.0 is)))
      ] refl

module _ (w : World) where
  -- the emission of a query, if one is due
  abbrev pub due : Observed → Option Emission
  due o = shown_as o.name (unseen (Some (result w o)) o.watched.emitted)

  none_due : (o : Observed) → emission_due w o ≡ [] → due o ≡ None
  none_due o none = ap (shown_as o.name) (no_rows o.name _ none)

  -- a query of which nothing is to be emitted is settled
  stays : (o : Observed) → emission_due w o ≡ [] → settled_query w o ≡ o
  stays o none =
      ap (λ e. with_watched (record {
        query = o.watched.query;
        rows = o.watched.rows;
        emitted = e;
        counts = o.watched.counts;
      }) o) (sym (seen_last (result w o) o.watched.emitted (no_rows o.name _ none)))

  pub all_settled : (os : List Observed) → AreQuietUnless [] w os → map (settled_query w) os ≡ os
  all_settled [] quiet = refl
  all_settled (o ∷ os) quiet =
      ap (λ x. x ∷ map (settled_query w) os) (stays o (quiet.0 refl))
      ∙ ap (λ xs. o ∷ xs) (all_settled os quiet.1)

  -- nothing is to be emitted of a settled one
  pub settled_quiet : (os : List Observed) → AreQuietUnless [] w (map (settled_query w) os)
  settled_quiet [] = tt
  settled_quiet (o ∷ os) =
      (λ none. ap (λ x. with_emission o.name x []) (settled_none (result w o)), settled_quiet os)

  -- where nothing is of any there are no emissions
  pub quiet_due : (os : List Observed) → AreQuietUnless [] w os → flat_map (emission_due w) os ≡ []
  quiet_due os quiet =
      none_of_all (emission_due w) os
      (all_weaker (λ o. list_any (bytes_eq o.coll) [] ≡ false → emission_due w o ≡ [])
      (λ o. emission_due w o ≡ []) (λ o none. none refl) os quiet)

  -- ---- by their names

  -- no emission has a name that no query has
  none_named : (test : Observed → Bool) (name : List ℕ) (os : List Observed)
      → AllByRecursion (λ k. bytes_eq name k ≡ false) (map (λ o. o.name) os)
      → emission_of name (flat_map (emission_due w) (filter test os)) ≡ None
  none_named test name [] apart = refl
  none_named test name (o ∷ os) apart =
      let rest = filter test os in
      elim (test o) as (λ b. emission_of name (flat_map (emission_due w) (cond b (o ∷ rest) rest))
      ≡ None) [
        | true ↦ found_past name o.name _ (flat_map (emission_due w) rest) apart.0
            ∙ none_named test name os apart.1
        | false ↦ none_named test name os apart.1
      ]

  -- among those of some queries a query's name has its emission, if it is one of them
  own_due : (test : Observed → Bool) (os : List Observed)
      → IsDistinct bytes_eq (map (λ o. o.name) os)
      → AllByRecursion (λ o. emission_of o.name (flat_map (emission_due w) (filter test os))
      ≡ cond (test o) (due o) None) os
  unfolding IsDistinct
  own_due test [] distinct = tt
  own_due test (o ∷ os) distinct =
      let rest = filter test os in
      let es = flat_map (emission_due w) rest in (
        elim (test o) as (λ b. emission_of o.name (flat_map (emission_due w)
            (cond b (o ∷ rest) rest)) ≡ cond b (due o) None) [
              | true ↦ found_first o.name _ es (none_named test o.name os distinct.0)
              | false ↦ none_named test o.name os distinct.0
            ],
        all_weaker (λ (x : Observed). (bytes_eq o.name x.name ≡ false)
            × (emission_of x.name es ≡ cond (test x) (due x) None))
            (λ x. emission_of x.name (flat_map (emission_due w) (filter test (o ∷ os)))
            ≡ cond (test x) (due x) None)
            (λ x h. elim (test o) as (λ b. emission_of x.name (flat_map (emission_due w)
            (cond b (o ∷ rest) rest)) ≡ cond (test x) (due x) None) [
              | true ↦
                  found_past x.name o.name _ es (bytes_apart_turned o.name x.name h.0) ∙ h.1
              | false ↦ h.1
            ]) os
            (all_both _ _ os
            (all_mapped (λ (x : Observed). x.name) (λ k. bytes_eq o.name k ≡ false) os distinct.0)
            (own_due test os distinct.1)),
      )

  -- in the order of places stands what is found for each
  in_order : (os : List Observed) (es : List Emission) → IsDistinct bytes_eq (map (λ o. o.name) os)
      → AllByRecursion (λ o. emission_of o.name es ≡ due o) os
      → in_places (map place_of os) es ≡ flat_map (emission_due w) os
  unfolding IsDistinct
  in_order [] es distinct all = refl
  in_order (o ∷ os) es distinct all =
      let left = without_emission o.name es in
      ap (λ x. cons_option x (in_places (map place_of os) left)) all.0
      ∙ ap (cons_option (due o)) (in_order os left distinct.1
      (all_weaker (λ (x : Observed). (bytes_eq o.name x.name ≡ false)
      × (emission_of x.name es ≡ due x)) (λ x. emission_of x.name left ≡ due x)
      (λ x h. emission_left o.name x.name es (bytes_apart_turned o.name x.name h.0) ∙ h.1) os
      (all_both _ _ os
      (all_mapped (λ (x : Observed). x.name) (λ k. bytes_eq o.name k ≡ false) os distinct.0)
      all.1)))
      ∙ sym (first_is o.name _ (flat_map (emission_due w) os))

  -- ---- one collection after another

  -- with the rows of a collection's queries emitted
  abbrev emitted_at : List ℕ → Watched → Watched
  emitted_at coll v = with_emitted (rows_on v.query (named w.collections coll)) v

  abbrev settled_at : List ℕ → List Observed → List Observed
  settled_at coll os = told (at_coll coll (emitted_at coll)) os

  -- once its queries are settled, nothing is to be emitted of them
  one_settled : (coll : List ℕ) (o : Observed) → bytes_eq coll o.coll ≡ true
      → emission_due w (with_watched (emitted_at coll o.watched) o) ≡ []
  one_settled coll o is =
      subst (λ n. emission_due w (with_watched (emitted_at n o.watched) o) ≡ [])
      (sym ((bytes_eq-Decides coll o.coll).0 is))
      (ap (λ x. with_emission o.name x []) (settled_none (result w o)))

  quiet_less : (coll : List ℕ) (written : List (List ℕ)) (os : List Observed)
      → AreQuietUnless (coll ∷ written) w os → AreQuietUnless written w (settled_at coll os)
  quiet_less coll written [] quiet = tt
  quiet_less coll written (o ∷ os) quiet = (
    elim (bytes_eq coll o.coll) as (λ b. bytes_eq coll o.coll ≡ b
        → list_any (bytes_eq o.coll) written ≡ false
        → emission_due w (with_watched (cond b (emitted_at coll o.watched) o.watched) o) ≡ []) [
          | true ↦ (λ is none. one_settled coll o is)
          | false ↦ (λ is none. quiet.0 (or_from (bytes_eq o.coll coll)
              (list_any (bytes_eq o.coll) written) (bytes_apart_turned coll o.coll is) none))
        ] refl,
    quiet_less coll written os quiet.1,
  )

  -- to settle all settles those too
  settled_twice : (coll : List ℕ) (os : List Observed)
      → map (settled_query w) (settled_at coll os) ≡ map (settled_query w) os
  settled_twice coll [] = refl
  settled_twice coll (o ∷ os) =
      ap (λ x. x ∷ map (settled_query w) (settled_at coll os))
      (elim (bytes_eq coll o.coll) as (λ b. settled_query w
      (with_watched (cond b (emitted_at coll o.watched) o.watched) o) ≡ settled_query w o)
      [ true ↦ refl | false ↦ refl ])
      ∙ ap (λ xs. settled_query w o ∷ xs) (settled_twice coll os)

  -- ---- the collections

  module _ (ls : Lives) (same : w.collections ≡ colls ls) where
    -- the collection of a name
    pub held_at : (name : List ℕ) (l : Observing) → named ls name ≡ Some l
        → named w.collections name ≡ Some l.collection
    held_at name l at =
        ap (λ cs. named cs name) same ∙ named-colls ls name
        ∙ ap (option_map (λ (x : Observing). x.collection)) at

    -- its queries' emissions are those that are due of them
    due_in : (c : Held) (coll : List ℕ) (os : List Observed) → named w.collections coll ≡ Some c
        → emissions_due c (queries_in coll os)
        ≡ flat_map (emission_due w) (filter (λ o. bytes_eq coll o.coll) os)
    due_in c coll [] at = refl
    due_in c coll (o ∷ os) at =
        let here = filter (λ (x : Observed). bytes_eq coll x.coll) os in
        let rest = due_in c coll os at in
        let of : Option Held → Option (List Row) =
        λ h. unseen (Some (rows_on o.watched.query h)) o.watched.emitted in
        elim (bytes_eq coll o.coll) as (λ b. bytes_eq coll o.coll ≡ b
        → emissions_due c (map (λ (x : Observed). (x.name, x.watched)) (cond b (o ∷ here) here))
        ≡ flat_map (emission_due w) (cond b (o ∷ here) here)) [
          | true ↦ (λ is.
              sym (first o.name (of (Some c)) (emissions_due c (queries_in coll os)))
              ∙ ap (λ h. with_emission o.name (of h) [] ++ emissions_due c (queries_in coll os))
              (sym at ∙ ap (named w.collections) ((bytes_eq-Decides coll o.coll).0 is))
              ∙ ap (λ es. emission_due w o ++ es) rest)
          | false ↦ (λ is. rest)
        ] refl

  module _ (ls : Lives) (same : w.collections ≡ colls ls) (ps : List QueryPlace)
      (os : List Observed) (placed : ArePlaced ls ps os) where
    pub due_at : (coll : List ℕ) → due_of (named ls coll)
        ≡ flat_map (emission_due w) (filter (λ o. bytes_eq coll o.coll) os)
    due_at coll = by (named ls coll) refl (placed.listed coll)
      where
        by : (o : Option Observing) → named ls coll ≡ o → queries_at o ≡ queries_in coll os
            → due_of o ≡ flat_map (emission_due w) (filter (λ o. bytes_eq coll o.coll) os)
        by None at listed =
            sym (ap (flat_map (emission_due w))
            (map_none (λ (o : Observed). (o.name, o.watched))
            (filter (λ o. bytes_eq coll o.coll) os) (sym listed)))
        by (Some l) at listed =
            ap (emissions_due l.collection) listed
            ∙ due_in ls same l.collection coll os (held_at ls same coll l at)

    -- the queries are as the collections', once one is settled
    settled_placed : (coll : List ℕ)
        → ArePlaced (change_named ls coll with_settled) ps (settled_at coll os)
    settled_placed coll =
        placed_told ls (change_named ls coll with_settled) ps os placed
        (at_coll coll (emitted_at coll)) (changed with_settled (emitted_at coll) ls coll
        (λ l at. ap (λ h. each (λ v. with_emitted (rows_on v.query h) v) l.queries)
        (sym (held_at ls same coll l at))))

  settled_colls : (ls : Lives) (coll : List ℕ)
      → colls (change_named ls coll with_settled) ≡ colls ls
  settled_colls ls coll = colls-change_named with_settled (λ l. refl) ls coll

  -- what is taken of a query's collection, and then of others, is what is due of it
  found_each : (written : List (List ℕ)) (ls : Lives) → w.collections ≡ colls ls
      → (ps : List QueryPlace) (os : List Observed) → ArePlaced ls ps os
      → AreQuietUnless written w os
      → AllByRecursion (λ o. emission_of o.name (due_each written ls) ≡ due o) os
  found_each [] ls same ps os placed quiet =
      all_weaker (λ o. list_any (bytes_eq o.coll) [] ≡ false → emission_due w o ≡ [])
      (λ o. None ≡ due o) (λ o none. sym (none_due o (none refl))) os quiet
  found_each (coll ∷ written) ls same ps os placed quiet =
      let then = change_named ls coll with_settled in
      let here = filter (λ (o : Observed). bytes_eq coll o.coll) os in
      all_weaker (λ (o : Observed).
      (emission_of o.name (flat_map (emission_due w) here)
      ≡ cond (bytes_eq coll o.coll) (due o) None)
      × (emission_of o.name (due_each written then)
      ≡ due (with_watched (at_coll coll (emitted_at coll) o.coll o.watched) o)))
      (λ o. emission_of o.name (due_each (coll ∷ written) ls) ≡ due o)
      (λ o h.
      find-append (λ e. bytes_eq o.name e.name) (due_of (named ls coll)) (due_each written then)
      ∙ ap (λ x. option_or (emission_of o.name x) (emission_of o.name (due_each written then)))
      (due_at ls same ps os placed coll)
      ∙ ap (λ x. option_or x (emission_of o.name (due_each written then))) h.0
      ∙ ap (option_or (cond (bytes_eq coll o.coll) (due o) None)) h.1
      ∙ elim (bytes_eq coll o.coll) as (λ b. bytes_eq coll o.coll ≡ b
      → option_or (cond b (due o) None)
      (due (with_watched (cond b (emitted_at coll o.watched) o.watched) o)) ≡ due o) [
        | true ↦ (λ is. ap (option_or (due o)) (none_due
            (with_watched (emitted_at coll o.watched) o) (one_settled coll o is))
            ∙ or_none (due o))
        | false ↦ (λ is. refl)
      ] refl) os
      (all_both _ _ os (own_due (λ o. bytes_eq coll o.coll) os placed.distinct)
      (all_mapped (λ o. with_watched (at_coll coll (emitted_at coll) o.coll o.watched) o)
      (λ o. emission_of o.name (due_each written then) ≡ due o) os
      (found_each written then (same ∙ sym (settled_colls ls coll)) ps (settled_at coll os)
      (settled_placed ls same ps os placed coll) (quiet_less coll written os quiet))))

  -- ---- all collections that were written

  -- what is taken of them is all that is due
  pub taken_is_due : (written : List (List ℕ)) (ls : Lives) → w.collections ≡ colls ls
      → (ps : List QueryPlace) (os : List Observed) → ArePlaced ls ps os
      → AreQuietUnless written w os → due_in_all written ps ls ≡ flat_map (emission_due w) os
  taken_is_due [] ls same ps os placed quiet = sym (quiet_due os quiet)
  taken_is_due (coll ∷ []) ls same ps os placed quiet =
      due_at ls same ps os placed coll
      ∙ some_are_all (emission_due w) (λ o. bytes_eq coll o.coll) os
      (all_weaker (λ (o : Observed). list_any (bytes_eq o.coll) (coll ∷ []) ≡ false
      → emission_due w o ≡ []) (λ o. bytes_eq coll o.coll ≡ false → emission_due w o ≡ [])
      (λ o none other. none (or_from (bytes_eq o.coll coll) false
      (bytes_apart_turned coll o.coll other) refl)) os quiet)
  taken_is_due (coll ∷ next ∷ written) ls same ps os placed quiet =
      let all : List (List ℕ) = coll ∷ next ∷ written in
      ap (λ qs. in_places qs (due_each all ls)) (sym placed.places)
      ∙ in_order os (due_each all ls) placed.distinct
      (found_each all ls same ps os placed quiet)

  -- and once it is emitted, all are settled
  pub placed_each : (written : List (List ℕ)) (ls : Lives) → w.collections ≡ colls ls
      → (ps : List QueryPlace) (os : List Observed) → ArePlaced ls ps os
      → AreQuietUnless written w os
      → ArePlaced (settled_each written ls) ps (map (settled_query w) os)
  placed_each [] ls same ps os placed quiet =
      subst (ArePlaced ls ps) (sym (all_settled os quiet)) placed
  placed_each (coll ∷ written) ls same ps os placed quiet =
      let then = change_named ls coll with_settled in
      subst (ArePlaced (settled_each written then) ps) (settled_twice coll os)
      (placed_each written then (same ∙ sym (settled_colls ls coll)) ps (settled_at coll os)
      (settled_placed ls same ps os placed coll) (quiet_less coll written os quiet))

  pub colls_each : (written : List (List ℕ)) (ls : Lives)
      → colls (settled_each written ls) ≡ colls ls
  colls_each [] ls = refl
  colls_each (coll ∷ written) ls =
      colls_each written (change_named ls coll with_settled) ∙ settled_colls ls coll
