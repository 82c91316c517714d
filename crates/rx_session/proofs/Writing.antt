-- What a record makes of the queries, and of what is to be emitted.
use Rattle.std.proofs.Common.{◌≡◌, ℕ, true, false, true≢false, cond, Bool, List, [], ◌∷◌, ◌++◌, map, filter, Option, Some, None, option_map, refl, sym, ap, ◌∙◌, subst}
use Rattle.std.proofs.lemmas.Bool.{and_parts, or_parts}
use Rattle.std.proofs.lemmas.List.{map-id}
use Rattle.std.proofs.lemmas.List.Folds.{list_any-append}
use Rattle.std.proofs.lemmas.Option.{none-some}
use Rattle.std.proofs.lemmas.Slice.Eq.{bytes_eq-Decides}
use Rattle.std.specs.List.{AllByRecursion, list_any}
use Rattle.std.specs.Option.{option_map_or}
use Rattle.std.specs.Str.{bytes_eq}
use Rattle.rx_value.specs.Named.{named, change_named}
use Rattle.rx_value.proofs.Named.{named-put_named}
use Rattle.rx_value.proofs.Outcomes.{none_is, none_mapped}
use Rattle.rx_value.proofs.Lists.{all_both, all_weaker}
use Rattle.rx_value.proofs.Bytes.{bytes_itself}
use Rattle.rx_record.specs.Content.{Content, collection, rows, replication, exchange, migration}
use Rattle.rx_record.specs.declared.record.RowOut.{RowOut}
use Rattle.rx_observe.specs.Observing.{Observing, each}
use Rattle.rx_observe.specs.Rows.{unseen, with_emission}
use Rattle.rx_observe.specs.Watched.{Watched}
use Rattle.rx_world.specs.Migrating.{is_in_group}
use Rattle.rx_world.specs.Schema.{schema_in}
use Rattle.rx_world.specs.Step.{legal}
use Rattle.rx_world.specs.Touch.{IsNoMigration, Touch, no_collection, new_collection, new_rows, remade, remade_where, new_where, fork_rows, touch}
use Rattle.rx_world.specs.World.{World}
use Rattle.rx_world.specs.declared.replication.Replication.{Replication}
use Rattle.rx_session.specs.Applied.{IsAfter, coll_written, with_written}
use Rattle.rx_session.specs.Doing.{query_after, watch_in, IsUnobserved}
use Rattle.rx_session.specs.Emissions.{emission_due, rows_on}
use Rattle.rx_session.specs.Placed.{ArePlaced, AreQuietUnless, Lives, queries_at, queries_in}
use Rattle.rx_session.specs.Playing.{add_written}
use Rattle.rx_session.specs.Session.{Observed, with_watched}
use Rattle.rx_session.specs.declared.query_place.QueryPlace.{QueryPlace}
use Rattle.rx_session.proofs.Places.{at_coll, changed, colls, named-changed, named-colls, own, placed_same, placed_told, told}
use Rattle.rx_session.proofs.Remade.{remade_bare, remade_stays}
use Rattle.rx_session.proofs.Showing.{held_at}

-- ---- a new collection

-- the name of what a record makes isn't held
abbrev pub IsUnheld : World → Touch → Type 0
IsUnheld w no_collection = Unit {0}
IsUnheld w (new_collection name schema) = named w.collections name ≡ None
IsUnheld w (new_rows name lwt written) = Unit {0}
IsUnheld w (remade in_group schema steps) = Unit {0}

-- so it is with a legal one
pub legal_unheld : (content : Content) (w : World) → legal content w ≡ true
    → IsUnheld w (touch content w)
legal_unheld (collection name schema) w allowed =
    let is = (and_parts _ _ (and_parts _ _ (and_parts _ _ allowed).0).0).1 in
    elim (schema_in schema) as (λ o. IsUnheld w (new_where name o)) [
      | None ↦ tt
      | Some s ↦ none_is (named w.collections name) is
    ]
legal_unheld (rows name lwt written) w allowed = tt
legal_unheld (replication name fork master handler field) w allowed = tt
legal_unheld (exchange name lwt written known up down) w allowed =
    of_fork (named w.replications name) written
  where
    of_fork : (o : Option Replication) (written : List RowOut)
        → IsUnheld w (option_map_or (fork_rows lwt written) o no_collection)
    of_fork None written = tt
    of_fork (Some r) [] = tt
    of_fork (Some r) (row ∷ written) = tt
legal_unheld (migration name text steps) w allowed =
    elim (schema_in text) as (λ o.
    IsUnheld w (remade_where (is_in_group w.replications name) steps o))
    [ None ↦ tt | Some s ↦ tt ]
legal_unheld entry w allowed = tt

fork_none_anew : (lwt : ℕ) (written : List RowOut) (queries : List Observed)
    (o : Option Replication)
    → IsUnobserved (option_map_or (fork_rows lwt written) o no_collection) queries
fork_none_anew lwt written queries None = tt
fork_none_anew lwt [] queries (Some r) = tt
fork_none_anew lwt (row ∷ written) queries (Some r) = tt

-- a record that is no migration makes none anew
pub none_anew : (content : Content) (w : World) (queries : List Observed) → IsNoMigration content
    → IsUnobserved (touch content w) queries
none_anew (collection name schema) w queries other =
    elim (schema_in schema) as (λ o. IsUnobserved (new_where name o) queries) [
      | None ↦ tt
      | Some s ↦ tt
    ]
none_anew (rows name lwt written) w queries other = tt
none_anew (replication name fork master handler field) w queries other = tt
none_anew (exchange name lwt written known up down) w queries other =
    fork_none_anew lwt written queries (named w.replications name)
none_anew (migration name text steps) w queries other = absurd other
none_anew entry w queries other = tt

-- ---- the collections that were written

-- all that were written before are still noted
still_noted : (coll : List ℕ) (written : List (List ℕ)) (name : List ℕ)
    → list_any (bytes_eq name) (add_written (Some coll) written) ≡ false
    → list_any (bytes_eq name) written ≡ false
still_noted coll written name none =
    elim (list_any (bytes_eq coll) written)
    as (λ b. list_any (bytes_eq name) (cond b written (written ++ coll ∷ [])) ≡ false
    → list_any (bytes_eq name) written ≡ false) [
      | true ↦ (λ n. n)
      | false ↦
          (λ n. (or_parts (list_any (bytes_eq name) written) (list_any (bytes_eq name) (coll ∷ []))
          (sym (list_any-append (bytes_eq name) written (coll ∷ [])) ∙ n)).0)
    ] none

-- and so is the one that is written now
now_noted : (coll : List ℕ) (written : List (List ℕ))
    → list_any (bytes_eq coll) (add_written (Some coll) written) ≡ false → true ≡ false
now_noted coll written none =
    elim (list_any (bytes_eq coll) written) as (λ b. list_any (bytes_eq coll) written ≡ b
    → list_any (bytes_eq coll) (cond b written (written ++ coll ∷ [])) ≡ false → true ≡ false) [
      | true ↦ (λ is n. sym is ∙ n)
      | false ↦ (λ is n.
          let last =
          (or_parts (list_any (bytes_eq coll) written) (list_any (bytes_eq coll) (coll ∷ []))
          (sym (list_any-append (bytes_eq coll) written (coll ∷ [])) ∙ n)).1 in
          sym (bytes_itself coll) ∙ (or_parts (bytes_eq coll coll) false last).0)
    ] refl none

-- ---- what a record touches

-- no query is in a collection of a group in which none is
none_in : (in_group : List ℕ → Bool) (coll : List ℕ) (os : List Observed) → in_group coll ≡ true
    → AllByRecursion (λ o. in_group o.coll ≡ false) os → queries_in coll os ≡ []
none_in in_group coll [] is out = refl
none_in in_group coll (o ∷ os) is out =
    let shown : Observed → List ℕ × Watched = λ x. (x.name, x.watched) in
    let here = filter (λ (x : Observed). bytes_eq coll x.coll) os in
    elim (bytes_eq coll o.coll) as (λ b. bytes_eq coll o.coll ≡ b
    → map shown (cond b (o ∷ here) here) ≡ []) [
      | true ↦ (λ same. absurd (true≢false
          (sym is ∙ ap in_group ((bytes_eq-Decides coll o.coll).0 same) ∙ out.0)))
      | false ↦ (λ other. none_in in_group coll os is out.1)
    ] refl

-- what rows of a collection tell the queries
rows_told : (w : World) (name : List ℕ) (lwt : ℕ) (written : List RowOut) (os : List Observed)
    → told (at_coll name (watch_in (named w.collections name) lwt written)) os
    ≡ map (query_after w (new_rows name lwt written)) os
rows_told w name lwt written [] = refl
rows_told w name lwt written (o ∷ os) =
    let g = watch_in (named w.collections name) lwt written in
    ap (λ x. x ∷ told (at_coll name g) os)
    (elim (bytes_eq name o.coll) as (λ b. with_watched (cond b (g o.watched) o.watched) o
    ≡ cond b (with_watched (g o.watched) o) o) [ true ↦ refl | false ↦ refl ])
    ∙ ap (λ xs. query_after w (new_rows name lwt written) o ∷ xs) (rows_told w name lwt written os)

module _ (w then : World) (ls new : Lives) (same : w.collections ≡ colls ls)
    (same_then : then.collections ≡ colls new) (ps : List QueryPlace) (os : List Observed)
    (placed : ArePlaced ls ps os) (written : List (List ℕ)) (quiet : AreQuietUnless written w os)
  where
    -- what becomes of the queries
    abbrev pub AreKept : List (List ℕ) → List Observed → Type 0
    AreKept now qs = ArePlaced new ps qs × AreQuietUnless now then qs

    -- what is to be emitted of one in a collection that stays is what was
    same_due : (o : Observed) → named new o.coll ≡ named ls o.coll
        → emission_due then o ≡ emission_due w o
    same_due o stays =
        ap (λ c.
        with_emission o.name (unseen (Some (rows_on o.watched.query c)) o.watched.emitted) [])
        (ap (λ cs. named cs o.coll) same_then ∙ named-colls new o.coll
        ∙ ap (option_map (λ (l : Observing). l.collection)) stays
        ∙ sym (ap (λ cs. named cs o.coll) same ∙ named-colls ls o.coll))

    -- where the collections of all queries stay
    untouched : ((n : List ℕ) → queries_at (named new n) ≡ queries_at (named ls n))
        → AllByRecursion (λ o. named new o.coll ≡ named ls o.coll) os
        → AreKept written (map (λ o. o) os)
    untouched so stay =
        subst (AreKept written) (sym (map-id os)) (
          placed_same ls new ps os placed so,
          all_weaker (λ (o : Observed). (named new o.coll ≡ named ls o.coll)
              × (list_any (bytes_eq o.coll) written ≡ false → emission_due w o ≡ []))
              (λ o. list_any (bytes_eq o.coll) written ≡ false → emission_due then o ≡ [])
              (λ o h none. same_due o h.0 ∙ h.1 none) os (all_both _ _ os stay quiet),
        )

    -- the others' stay where one takes rows
    others_quiet : (name : List ℕ) (f : Observing → Observing) (g : Watched → Watched)
        → new ≡ change_named ls name f → (qs : List Observed) → AreQuietUnless written w qs
        → AreQuietUnless (add_written (Some name) written) then (told (at_coll name g) qs)
    others_quiet name f g after [] all = tt
    others_quiet name f g after (o ∷ qs) all = (
      λ none. elim (bytes_eq name o.coll) as (λ b. bytes_eq name o.coll ≡ b
          → emission_due then (with_watched (cond b (g o.watched) o.watched) o) ≡ []) [
            | true ↦ (λ is. absurd (true≢false (now_noted name written
                (subst (λ n. list_any (bytes_eq n) (add_written (Some name) written) ≡ false)
                (sym ((bytes_eq-Decides name o.coll).0 is)) none))))
            | false ↦ (λ is.
                same_due o (ap (λ (x : Lives). named x o.coll) after
                ∙ named-changed f ls name o.coll
                ∙ ap (λ b. cond b (option_map f (named ls o.coll)) (named ls o.coll)) is)
                ∙ all.0 (still_noted name written o.coll none))
          ] refl,
      others_quiet name f g after qs all.1,
    )

    -- the queries follow a record, and nothing is to be emitted of any but its collection's
    pub all_follow : (t : Touch) → IsUnheld w t → IsUnobserved t os → IsAfter t ls new
        → AreKept (add_written (coll_written t) written) (map (query_after w t) os)
    all_follow no_collection unheld out after =
        untouched (λ n. ap (λ (x : Lives). queries_at (named x n)) after)
        (all_weaker (λ (o : Observed). named (queries_at (named ls o.coll)) o.name ≡ Some o.watched)
        (λ o. named new o.coll ≡ named ls o.coll)
        (λ o is. ap (λ (x : Lives). named x o.coll) after) os (own ls ps os placed))
    all_follow (new_collection name schema) unheld out after =
        let l = after.0 in
        let at : (n : List ℕ) → named new n ≡ cond (bytes_eq n name) (Some l) (named ls n) =
        λ n. ap (λ (x : Lives). named x n) after.2 ∙ named-put_named ls name n l in
        let none : (n : List ℕ) → bytes_eq n name ≡ true → named ls n ≡ None =
        λ n is. ap (named ls) ((bytes_eq-Decides n name).0 is)
        ∙ none_mapped (λ (x : Observing). x.collection) (named ls name)
        (sym (named-colls ls name) ∙ ap (λ cs. named cs name) (sym same) ∙ unheld) in
        untouched
        (λ n. ap queries_at (at n) ∙ elim (bytes_eq n name) as (λ b. bytes_eq n name ≡ b
        → queries_at (cond b (Some l) (named ls n)) ≡ queries_at (named ls n)) [
          | true ↦ (λ is.
              ap (λ (x : Observing). x.queries) after.1 ∙ sym (ap queries_at (none n is)))
          | false ↦ (λ is. refl)
        ] refl)
        (all_weaker (λ (o : Observed). named (queries_at (named ls o.coll)) o.name ≡ Some o.watched)
        (λ o. named new o.coll ≡ named ls o.coll)
        (λ o is. at o.coll ∙ elim (bytes_eq o.coll name) as (λ b. bytes_eq o.coll name ≡ b
        → cond b (Some l) (named ls o.coll) ≡ named ls o.coll) [
          | true ↦ (λ here. absurd (none-some o.watched
              (ap (λ x. named (queries_at x) o.name) (sym (none o.coll here)) ∙ is)))
          | false ↦ (λ other. refl)
        ] refl) os (own ls ps os placed))
    all_follow (new_rows name lwt added) unheld out after =
        let g = watch_in (named w.collections name) lwt added in
        subst (AreKept (add_written (Some name) written)) (rows_told w name lwt added os) (
          placed_told ls new ps os placed (at_coll name g)
              (λ n. ap (λ (x : Lives). queries_at (named x n)) after
              ∙ changed (with_written lwt added) g ls name (λ l at.
              ap (λ h. each (watch_in h lwt added) l.queries)
              (sym (held_at w ls same name l at))) n),
          others_quiet name (with_written lwt added) g after os quiet,
        )
    all_follow (remade in_group schema steps) unheld out after =
        untouched
        (λ n. elim (in_group n) as (λ b. in_group n ≡ b
        → queries_at (named new n) ≡ queries_at (named ls n)) [
          | true ↦ (λ is. remade_bare in_group schema steps ls new n is after
              ∙ sym (placed.listed n ∙ none_in in_group n os is out))
          | false ↦ (λ is. ap queries_at (remade_stays in_group schema steps ls new n is after))
        ] refl)
        (all_weaker (λ (o : Observed). in_group o.coll ≡ false)
        (λ o. named new o.coll ≡ named ls o.coll)
        (λ o is. remade_stays in_group schema steps ls new o.coll is after) os out)
