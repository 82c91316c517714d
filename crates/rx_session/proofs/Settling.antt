-- What a line makes of a session: its collections with their queries, and the places of all.
use Rattle.std.proofs.Common.{◌≡◌, ℕ, true, false, true≢false, cond, not, Option, Some, None, is_some, option_map, List, [], ◌∷◌, ◌++◌, map, filter, Result, Ok, Err, refl, sym, ap, ◌∙◌, subst, IfOk, append-nil}
use Rattle.std.proofs.lemmas.Bool.{or_parts}
use Rattle.std.proofs.lemmas.Option.{same_Some, none-some}
use Rattle.std.proofs.lemmas.Slice.Eq.{bytes_eq-Decides}
use Rattle.std.specs.List.{find, flat_map, list_any}
use Rattle.std.specs.Str.{bytes_eq}
use Rattle.rx_value.specs.Named.{named}
use Rattle.rx_value.proofs.Bytes.{bytes_itself, bytes_apart_turned}
use Rattle.rx_value.proofs.Lists.{all_passed, all_push, all_weaker}
use Rattle.rx_query.specs.QuerySpec.{QuerySpec}
use Rattle.rx_observe.specs.Observing.{Observing, each, new_watch, put_all, watch_after, without}
use Rattle.rx_observe.specs.Watched.{Watched}
use Rattle.rx_stream.specs.declared.stream.Stream.{Stream}
use Rattle.rx_update.specs.Attached.{Hooking}
use Rattle.rx_world.specs.Holders.{Holders, holders_in}
use Rattle.rx_world.specs.Touch.{Touch}
use Rattle.rx_world.specs.World.{World}
use Rattle.rx_world.proofs.Holding.{after_all}
use Rattle.rx_session.specs.Applied.{IsAfter, IsMadeFor, without_observed, watched_in}
use Rattle.rx_session.specs.Doing.{session_after, new_query, has_key, unwatch}
use Rattle.rx_session.specs.Emissions.{documents_at, emissions, emission_due, settled_session, settled_query, IsSettled}
use Rattle.rx_session.specs.Inside.{IsInOrder, session_in}
use Rattle.rx_session.specs.Lives.{with_query, without_query}
use Rattle.rx_session.specs.Placed.{ArePlaced, AreQuietUnless, AreUnwatched, IsUnwatched, Lives, place_named, place_of, queries_at, queries_in, queries_of, world_of}
use Rattle.rx_session.specs.Playing.{due_in_all, settled_each}
use Rattle.rx_session.specs.Session.{Observed, Session}
use Rattle.rx_session.specs.declared.query_place.QueryPlace.{QueryPlace}
use Rattle.rx_session.specs.declared.session.Session.TheInside.{Inside}
use Rattle.rx_session.proofs.Places.{any_place, colls, colls-change_named, elsewhere, first_place, named-changed, named-colls, no_name, placed_less, placed_more, placed_seen, seen, without_none, world_colls}
use Rattle.rx_session.proofs.Showing.{all_settled, colls_each, held_at, placed_each, quiet_due, settled_quiet, taken_is_due}

-- ---- where no query is observed

-- none is after a record
pub unwatched_after : (t : Touch) (ls new : Lives) → IsAfter t ls new → AreUnwatched ls
    → AreUnwatched new
unwatched_after t ls new session_after none =
    after_all IsUnwatched (λ (l : Observing). l.collection) put_all IsMadeFor
    (λ c l is. record {
      none = ap (λ (x : Observing). x.queries) is;
      unbroken = ap (λ (x : Observing). x.broken) is;
    })
    (λ l rows so. record {
      none = ap (each (watch_after l.collection rows)) so.none;
      unbroken = so.unbroken;
    })
    t ls new session_after none

-- the same of what may have failed
pub unwatched_in : {W E : Type 0} (lives : W → Lives) (t : Touch) (ls : Lives) (made : Result W E)
    → IfOk made (λ w. IsAfter t ls (lives w)) → AreUnwatched ls
    → IfOk made (λ w. AreUnwatched (lives w))
unwatched_in lives t ls (Ok w) session_after none =
    unwatched_after t ls (lives w) session_after none
unwatched_in lives t ls (Err e) session_after none = tt

-- ---- sessions

-- a session by its parts
abbrev pub session_of : Holders Observing → ℕ → Hooking → List Stream → List QueryPlace → Session
session_of h moment hooks streams ps =
    record {
      world = world_of h;
      moment = moment;
      hooks = hooks;
      streams = streams;
      queries = queries_of (holders_in h) ps;
    }

-- worlds of the same collections and replications, and of the same epoch
pub same_world : (h g : Holders Observing) → colls (holders_in h) ≡ colls (holders_in g)
    → h.replications ≡ g.replications → h.epoch ≡ g.epoch → world_of h ≡ world_of g
same_world h g same replications epochs =
    let collections = world_colls h ∙ same ∙ sym (world_colls g) in
    λ i. record { collections = collections i; replications = replications i; epoch = epochs i }

-- ---- between two lines

module _ (i : Inside) (so : IsInOrder i) where
  -- nothing of a session is to be emitted
  pub is_settled : IsSettled (session_in i)
  is_settled = record {
    same = ap (λ qs. record (session_in i) { queries = qs })
        (all_settled (world_of i.world) (session_in i).queries so.quiet);
    quiet = quiet_due (world_of i.world) (session_in i).queries so.quiet;
  }

-- ---- once all is emitted

-- these queries are those of collections that were written, and their emissions were taken
pub record IsTaken (w : World) (ls : Lives) (ps : List QueryPlace) (os : List Observed)
    (written : List (List ℕ)) (last : Holders Observing) : Type 0 where
  pub placed : ArePlaced ls ps os
  pub collections : w.collections ≡ colls ls
  pub quiet : AreQuietUnless written w os
  pub emitted : holders_in last ≡ settled_each written ls
  pub replications : last.replications ≡ w.replications
  pub epochs : last.epoch ≡ w.epoch

module _ (w : World) (ls : Lives) (ps : List QueryPlace) (os : List Observed)
    (written : List (List ℕ)) (last : Holders Observing) (so : IsTaken w ls ps os written last)
  where
    -- the world stays
    pub taken_world : world_of last ≡ w
    taken_world =
        let collections =
        world_colls last ∙ ap colls so.emitted ∙ colls_each w written ls ∙ sym so.collections in
        λ i. record {
          collections = collections i;
          replications = so.replications i;
          epoch = so.epochs i;
        }

    -- all queries are settled
    settled : ArePlaced (holders_in last) ps (map (settled_query w) os)
    settled =
        subst (λ (x : Lives). ArePlaced x ps (map (settled_query w) os)) (sym so.emitted)
        (placed_each w written ls so.collections ps os so.placed so.quiet)

    taken_queries : queries_of (holders_in last) ps ≡ map (settled_query w) os
    taken_queries = seen (holders_in last) ps (map (settled_query w) os) settled

    pub taken_placed : ArePlaced (holders_in last) ps (queries_of (holders_in last) ps)
    taken_placed = placed_seen (holders_in last) ps (map (settled_query w) os) settled

    pub taken_quiet : AreQuietUnless [] (world_of last) (queries_of (holders_in last) ps)
    taken_quiet =
        subst (λ v. AreQuietUnless [] v (queries_of (holders_in last) ps)) (sym taken_world)
        (subst (AreQuietUnless [] w) (sym taken_queries) (settled_quiet w os))

    pub taken_due : due_in_all written ps ls ≡ flat_map (emission_due w) os
    taken_due = taken_is_due w written ls so.collections ps os so.placed so.quiet

    pub taken_session : (moment : ℕ) (hooks : Hooking) (streams : List Stream)
        → session_of last moment hooks streams ps
        ≡ settled_session (record {
          world = w;
          moment = moment;
          hooks = hooks;
          streams = streams;
          queries = os;
        })
    taken_session moment hooks streams =
        λ i. record {
          world = taken_world i;
          moment = moment;
          hooks = hooks;
          streams = streams;
          queries = taken_queries i;
        }

-- ---- once a query is observed

module _ (i : Inside) (so : IsInOrder i) (name coll : List ℕ) (q : QuerySpec) where
  abbrev ls : Lives
  ls = holders_in i.world

  abbrev w : World
  w = world_of i.world

  abbrev one : Observed
  one = new_query w name coll q

  -- a collection that has a key is there
  held : has_key q.primary (named w.collections coll) ≡ true
      → (l : Observing) × (named ls coll ≡ Some l)
  held keyed =
      there (named ls coll) (subst (λ o. has_key q.primary o ≡ true)
      (ap (λ cs. named cs coll) (world_colls i.world) ∙ named-colls ls coll) keyed)
    where
      there : (o : Option Observing)
          → has_key q.primary (option_map (λ (l : Observing). l.collection) o) ≡ true
          → (l : Observing) × (o ≡ Some l)
      there None keyed = absurd (true≢false (sym keyed))
      there (Some l) keyed = (l, refl)

  -- its queries have one more, and those of the others stay
  added : has_key q.primary (named w.collections coll) ≡ true → (n : List ℕ)
      → queries_at (named (watched_in name coll q ls) n)
      ≡ queries_at (named ls n) ++ queries_in n (one ∷ [])
  added keyed n =
      let shown : Observed → List ℕ × Watched = λ o. (o.name, o.watched) in
      let l = (held keyed).0 in
      let at = (held keyed).1 in
      ap queries_at (named-changed (with_query name q) ls coll n)
      ∙ elim (bytes_eq coll n) as (λ b. bytes_eq coll n ≡ b
      → queries_at (cond b (option_map (with_query name q) (named ls n)) (named ls n))
      ≡ queries_at (named ls n) ++ map shown (cond (bytes_eq n coll) (one ∷ []) [])) [
        | true ↦ (λ is.
            subst (λ k. queries_at (option_map (with_query name q) (named ls k))
            ≡ queries_at (named ls k) ++ map shown (cond (bytes_eq k coll) (one ∷ []) []))
            ((bytes_eq-Decides coll n).0 is)
            (ap (λ o. queries_at (option_map (with_query name q) o)) at
            ∙ ap (λ h. l.queries ++ (name, new_watch q (documents_at h)) ∷ [])
            (sym (held_at w ls (world_colls i.world) coll l at))
            ∙ sym (ap (λ o. queries_at o ++ map shown (cond (bytes_eq coll coll) (one ∷ []) [])) at
            ∙ ap (λ b. l.queries ++ map shown (cond b (one ∷ []) [])) (bytes_itself coll))))
        | false ↦ (λ is.
            sym (ap (λ b. queries_at (named ls n) ++ map shown (cond b (one ∷ []) []))
            (bytes_apart_turned coll n is) ∙ append-nil (queries_at (named ls n))))
      ] refl

  -- so its emission is the one that is to be taken
  pub watched : list_any (λ o. bytes_eq name o.name) (session_in i).queries ≡ false
      → has_key q.primary (named w.collections coll) ≡ true → (last : Holders Observing)
      → holders_in last ≡ settled_each (coll ∷ []) (watched_in name coll q ls)
      → last.replications ≡ i.world.replications → last.epoch ≡ i.world.epoch
      → IsTaken w (watched_in name coll q ls) (i.places.items ++ place_of one ∷ [])
      ((session_in i).queries ++ one ∷ []) (coll ∷ []) last
  watched free keyed last emitted replications epochs = record {
    placed = placed_more ls (watched_in name coll q ls) i.places.items (session_in i).queries
        so.placed one free (added keyed);
    collections = world_colls i.world
        ∙ sym (colls-change_named (with_query name q) (λ l. refl) ls coll);
    quiet = all_push
        (λ (o : Observed). list_any (bytes_eq o.coll) (coll ∷ []) ≡ false → emission_due w o ≡ [])
        (session_in i).queries one
        (all_weaker
        (λ (o : Observed). list_any (bytes_eq o.coll) [] ≡ false → emission_due w o ≡ [])
        (λ o. list_any (bytes_eq o.coll) (coll ∷ []) ≡ false → emission_due w o ≡ [])
        (λ o none noted. none refl) (session_in i).queries so.quiet)
        (λ none. absurd (true≢false
        (sym (bytes_itself coll) ∙ (or_parts (bytes_eq coll coll) false none).0)));
    emitted = emitted;
    replications = replications;
    epochs = epochs;
  }

  -- its name is free in its collection
  pub free_there : list_any (λ o. bytes_eq name o.name) (session_in i).queries ≡ false
      → named (queries_at (named ls coll)) name ≡ None
  free_there free =
      ap (λ qs. named qs name) (so.placed.listed coll)
      ∙ no_name name coll (session_in i).queries free

-- ---- once a query is observed no more

module _ (i : Inside) (so : IsInOrder i) (name : List ℕ) (new : Holders Observing)
    (dropped : holders_in new
    ≡ without_observed name (place_named name i.places.items) (holders_in i.world))
    (replications : new.replications ≡ i.world.replications) (epochs : new.epoch ≡ i.world.epoch)
  where
    abbrev was : Lives
    was = holders_in i.world

    abbrev left_places : List QueryPlace
    left_places = filter (λ (p : QueryPlace). not (bytes_eq name p.name)) i.places.items

    abbrev left : List Observed
    left = filter (λ (o : Observed). not (bytes_eq name o.name)) (session_in i).queries

    -- each collection's queries are without it
    each_less : (o : Option QueryPlace) → place_named name i.places.items ≡ o → (n : List ℕ)
        → queries_at (named (without_observed name o was) n)
        ≡ without name (queries_at (named was n))
    each_less None none n =
        sym (without_none name (queries_at (named was n))
        (ap (λ qs. named qs name) (so.placed.listed n)
        ∙ no_name name n (session_in i).queries
        (sym (any_place was i.places.items (session_in i).queries so.placed name)
        ∙ ap is_some none)))
    each_less (Some p) at n =
        ap queries_at (named-changed (without_query name) was p.coll n)
        ∙ elim (bytes_eq p.coll n) as (λ b. bytes_eq p.coll n ≡ b
        → queries_at (cond b (option_map (without_query name) (named was n)) (named was n))
        ≡ without name (queries_at (named was n))) [
          | true ↦ (λ is. here (named was n))
          | false ↦ (λ is.
              sym (without_none name (queries_at (named was n))
              (ap (λ qs. named qs name) (so.placed.listed n)
              ∙ apart (find (λ o. bytes_eq name o.name) (session_in i).queries) refl
              (sym (first_place was i.places.items (session_in i).queries so.placed
              (λ q. bytes_eq name q.name)) ∙ at) is)))
        ] refl
      where
        here : (o : Option Observing)
            → queries_at (option_map (without_query name) o) ≡ without name (queries_at o)
        here None = refl
        here (Some l) = refl

        apart : (o : Option Observed)
            → find (λ x. bytes_eq name x.name) (session_in i).queries ≡ o
            → option_map place_of o ≡ Some p → bytes_eq p.coll n ≡ false
            → named (queries_in n (session_in i).queries) name ≡ None
        apart None first is other = absurd (none-some p is)
        apart (Some o) first is other =
            elsewhere name n (session_in i).queries o so.placed.distinct first
            (bytes_apart_turned o.coll n
            (ap (λ (q : QueryPlace). bytes_eq q.coll n) (same_Some (place_of o) p is) ∙ other))

    all_left : ArePlaced (holders_in new) left_places left
    all_left =
        placed_less was (holders_in new) i.places.items (session_in i).queries so.placed name
        (λ n. ap (λ (x : Lives). queries_at (named x n)) dropped
        ∙ each_less (place_named name i.places.items) refl n)

    pub left_placed : ArePlaced (holders_in new) left_places
        (queries_of (holders_in new) left_places)
    left_placed = placed_seen (holders_in new) left_places left all_left

    left_queries : queries_of (holders_in new) left_places ≡ left
    left_queries = seen (holders_in new) left_places left all_left

    -- the world stays
    pub left_world : world_of new ≡ world_of i.world
    left_world =
        same_world new i.world (ap colls dropped ∙ same (place_named name i.places.items))
        replications epochs
      where
        same : (o : Option QueryPlace) → colls (without_observed name o was) ≡ colls was
        same None = refl
        same (Some p) = colls-change_named (without_query name) (λ l. refl) was p.coll

    -- nothing of the others is to be emitted
    quiet_left : AreQuietUnless [] (world_of i.world) left
    quiet_left =
        all_passed (λ (o : Observed). list_any (bytes_eq o.coll) [] ≡ false
        → emission_due (world_of i.world) o ≡ []) (λ o. not (bytes_eq name o.name))
        (session_in i).queries so.quiet

    pub left_quiet : AreQuietUnless [] (world_of new) (queries_of (holders_in new) left_places)
    left_quiet =
        subst (λ v. AreQuietUnless [] v (queries_of (holders_in new) left_places)) (sym left_world)
        (subst (AreQuietUnless [] (world_of i.world)) (sym left_queries) quiet_left)

    pub left_due : emissions (session_after (unwatch name) (session_in i)) ≡ []
    left_due = quiet_due (world_of i.world) left quiet_left

    pub left_session : session_of new (session_in i).moment (session_in i).hooks
        (session_in i).streams left_places
        ≡ settled_session (session_after (unwatch name) (session_in i))
    left_session =
        let queries = left_queries ∙ sym (all_settled (world_of i.world) left quiet_left) in
        λ k. record {
          world = left_world k;
          moment = (session_in i).moment;
          hooks = (session_in i).hooks;
          streams = (session_in i).streams;
          queries = queries k;
        }
