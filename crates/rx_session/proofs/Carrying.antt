-- The queries of old collections are carried to the same collections, one after another.
use Rattle.std.proofs.Common.{◌≡◌, ℕ, false, cond, List, [], ◌∷◌, ◌++◌, map, Some, refl, sym, ap, ◌∙◌, subst, append_assoc}
use Rattle.std.proofs.lemmas.Map.Keys.{IsDistinct-head, IsDistinct-tail}
use Rattle.std.specs.List.{AllByRecursion, IsDistinct, list_any}
use Rattle.std.specs.Map.{keys_of}
use Rattle.std.specs.Str.{bytes_eq}
use Rattle.rx_value.specs.Named.{named, change_named}
use Rattle.rx_value.proofs.Lists.{all_at, all_both, all_passed, all_weaker, cons_parts}
use Rattle.rx_value.proofs.Bytes.{bytes_apart_turned, bytes_itself}
use Rattle.rx_collection.specs.Held.{Held}
use Rattle.rx_observe.specs.Observing.{Observing, cooled, each, with_queries}
use Rattle.rx_observe.specs.Rows.{emissions_due}
use Rattle.rx_world.specs.Holders.{Holders, IsWhole, holders_in}
use Rattle.rx_world.specs.Valid.{AreDistinct}
use Rattle.rx_session.specs.Doing.{session_after, restart}
use Rattle.rx_session.specs.Emissions.{emission_due, emissions, settled_session}
use Rattle.rx_session.specs.Inside.{IsInOrder, session_in}
use Rattle.rx_session.specs.Lives.{bare, due_of, with_cooled, each_live}
use Rattle.rx_session.specs.Placed.{ArePlaced, AreQuietUnless, AreUnwatched, IsQuiet, Lives, queries_of, world_of}
use Rattle.rx_session.specs.Session.{Observed}
use Rattle.rx_session.specs.declared.session.Session.TheInside.{Inside}
use Rattle.rx_session.proofs.Moving.{AreUnbroken, all_cold, bare_are, next_is_bare, next_is_moved, moved_colls, moved_placed, moved_quiet}
use Rattle.rx_session.proofs.Places.{all_mapped, colls, distinct_in, placed_seen, seen, world_colls}
use Rattle.rx_session.proofs.Settling.{session_of}
use Rattle.rx_session.proofs.Showing.{all_settled, due_at, none_of_all, quiet_due}

-- each collection is whole and has its name
abbrev pub AreWholeLives : Lives → Type 0
AreWholeLives ls =
    AllByRecursion (λ e. IsWhole (λ (l : Observing). l.collection) (λ l. l.broken) e.0 e.1) ls

-- the first collections have their queries, the others have none yet, and those of the others are
-- left
pub record IsCarrying (old ls : Lives) (left : List Observing) : Type 0 where
  pub done : Lives
  pub rest : Lives
  pub all : old ≡ done ++ rest
  pub lives : ls ≡ each_live with_cooled done ++ each_live bare rest
  pub are_left : left ≡ map (λ l. l.1) rest

-- one of the others is next
pub record IsNext (old ls : Lives) (l : Observing) (left : List Observing) : Type 0 where
  pub done : Lives
  pub name : List ℕ
  pub rest : Lives
  pub all : old ≡ done ++ (name, l) ∷ rest
  pub lives : ls ≡ each_live with_cooled done ++ each_live bare ((name, l) ∷ rest)
  pub are_left : left ≡ map (λ l. l.1) rest

-- ---- at the start

-- whole collections aren't broken
unbroken : (ls : Lives) → AreWholeLives ls → AreUnbroken ls
unbroken [] all = tt
unbroken (l ∷ ls) all = (all.0.unbroken, unbroken ls all.1)

-- no collection has its queries yet
pub carrying_none : (old new : Holders Observing) (left : List Observing)
    → (world_of new).collections ≡ (world_of old).collections → AreUnwatched (holders_in new)
    → AreWholeLives (holders_in old)
    → left ≡ map (λ e. e.1) (holders_in old)
    → IsCarrying (holders_in old) (holders_in new) left
carrying_none old new left same none whole is = record {
  done = [];
  rest = holders_in old;
  all = refl;
  lives = bare_are (holders_in old) (holders_in new)
      (sym (world_colls new) ∙ same ∙ world_colls old) none (unbroken (holders_in old) whole);
  are_left = is;
}

-- ---- one after another

-- the first of those that are left is next
next_by : (old ls done rest : Lives) (l : Observing) (left : List Observing) → old ≡ done ++ rest
    → ls ≡ each_live with_cooled done ++ each_live bare rest → l ∷ left ≡ map (λ e. e.1) rest
    → IsNext old ls l left
next_by old ls done [] l left all lives is = absurd (cc)
next_by old ls done (e ∷ rest) l left all lives is =
    let parts = cons_parts l e.1 left (map (λ (x : List ℕ × Observing). x.1) rest) is in
    let same : e.1 ≡ l = sym parts.0 in
    record {
      done = done;
      name = e.0;
      rest = rest;
      all = subst (λ (x : Observing). old ≡ done ++ (e.0, x) ∷ rest) same all;
      lives = subst
          (λ (x : Observing). ls ≡ each_live with_cooled done ++ each_live bare ((e.0, x) ∷ rest))
          same lives;
      are_left = parts.1;
    }

pub next_of : (old ls : Lives) (l : Observing) (left all : List Observing)
    → IsCarrying old ls all → all ≡ l ∷ left → IsNext old ls l left
next_of old ls l left all c is =
    next_by old ls c.done c.rest l left c.all c.lives (sym is ∙ c.are_left)

module _ (old : Holders Observing) (ls : Lives) (l : Observing) (left : List Observing)
    (n : IsNext (holders_in old) ls l left) where
  -- it is whole where all are
  next_whole : AreWholeLives (holders_in old)
      → IsWhole (λ (x : Observing). x.collection) (λ x. x.broken) n.name l
  next_whole whole =
      all_at (λ (e : List ℕ × Observing).
      IsWhole (λ (x : Observing). x.collection) (λ x. x.broken) e.0 e.1)
      n.done (n.name, l) n.rest (subst AreWholeLives n.all whole)

  -- so it isn't broken
  pub next_unbroken : AreWholeLives (holders_in old) → l.broken ≡ false
  next_unbroken whole = (next_whole whole).unbroken

  -- it is quiet where all are
  pub next_quiet : AllByRecursion IsQuiet (holders_in old) → emissions_due l.collection l.queries
      ≡ []
  next_quiet quiet =
      all_at IsQuiet n.done (n.name, l) n.rest (subst (AllByRecursion IsQuiet) n.all quiet)

  -- no name comes twice
  apart : AreDistinct (world_of old)
      → IsDistinct bytes_eq (keys_of (n.done ++ (n.name, l) ∷ n.rest))
  apart distinct =
      subst (λ (xs : Lives). IsDistinct bytes_eq (keys_of xs)) n.all (distinct_in old distinct)

  module _ (whole : AreWholeLives (holders_in old)) (distinct : AreDistinct (world_of old)) where
    -- the collection of its name has no query yet
    pub next_has_none : named ls l.collection.name ≡ Some (bare l)
    next_has_none =
        ap (named ls) (next_whole whole).called
        ∙ next_is_bare ls n.done n.name l n.rest n.lives (apart distinct)

    -- and once it has them, the following one is next
    pub carrying_next : (session_after : Lives)
        → session_after
        ≡ change_named ls l.collection.name (λ x. with_queries x (each cooled l.queries))
        → IsCarrying (holders_in old) session_after left
    carrying_next session_after is = record {
      done = n.done ++ (n.name, l) ∷ [];
      rest = n.rest;
      all = n.all ∙ sym (append_assoc n.done ((n.name, l) ∷ []) n.rest);
      lives = is
          ∙ ap (λ k. change_named ls k (λ (x : Observing). with_queries x (each cooled l.queries)))
          (next_whole whole).called
          ∙ next_is_moved ls n.done n.name l n.rest n.lives (apart distinct);
      are_left = n.are_left;
    }

-- ---- at the end

module _ (old new : Holders Observing)
    (lives : holders_in new ≡ each_live with_cooled (holders_in old)) where
  -- the collections stay
  pub carried_collections : (world_of new).collections ≡ (world_of old).collections
  carried_collections =
      world_colls new ∙ ap colls lives ∙ moved_colls (holders_in old) ∙ sym (world_colls old)

  -- so no name comes twice
  pub carried_distinct : AreDistinct (world_of old) → AreDistinct (world_of new)
  carried_distinct distinct =
      subst (λ (cs : List (List ℕ × Held)). IsDistinct bytes_eq (keys_of cs))
      (sym carried_collections)
      distinct

-- ---- the sessions

-- where names differ, each names its own thing
own_named : {X : Type 0} (es : List (List ℕ × X)) → IsDistinct bytes_eq (keys_of es)
    → AllByRecursion (λ e. named es e.0 ≡ Some e.1) es
own_named [] distinct = tt
own_named {X} (e ∷ es) distinct = (
  ap (λ b. cond b (Some e.1) (named es e.0)) (bytes_itself e.0),
  all_weaker (λ (d : List ℕ × X). (bytes_eq e.0 d.0 ≡ false) × (named es d.0 ≡ Some d.1))
      (λ d. named (e ∷ es) d.0 ≡ Some d.1)
      (λ d h. ap (λ b. cond b (Some e.1) (named es d.0)) (bytes_apart_turned e.0 d.0 h.0)
      ∙ h.1) es
      (all_both _ _ es
      (all_mapped (λ (d : List ℕ × X). d.0) (λ n. bytes_eq e.0 n ≡ false) es
      (IsDistinct-head bytes_eq e.0 (keys_of es) distinct))
      (own_named es (IsDistinct-tail bytes_eq e.0 (keys_of es) distinct))),
)

module _ (i : Inside) (so : IsInOrder i) where
  -- nothing of any collection is to be emitted
  pub each_quiet : AllByRecursion IsQuiet (holders_in i.world)
  each_quiet =
      let w = world_of i.world in
      let ls = holders_in i.world in
      let os = (session_in i).queries in
      all_weaker (λ (e : List ℕ × Observing). named ls e.0 ≡ Some e.1) IsQuiet
      (λ e at. ap due_of (sym at)
      ∙ due_at w ls (world_colls i.world) i.places.items os so.placed e.0
      ∙ none_of_all (emission_due w) _
      (all_weaker (λ o. list_any (bytes_eq o.coll) [] ≡ false → emission_due w o ≡ [])
      (λ o. emission_due w o ≡ []) (λ o none. none refl) _
      (all_passed (λ (o : Observed). list_any (bytes_eq o.coll) [] ≡ false → emission_due w o ≡ [])
      (λ o. bytes_eq e.0 o.coll) os so.quiet))) ls
      (own_named ls (distinct_in i.world so.distinct))

  -- nor of its queries once they are cold
  pub carried_due : (number : ℕ) → emissions (session_after (restart number) (session_in i)) ≡ []
  carried_due number =
      quiet_due (world_of i.world) (all_cold (session_in i).queries)
      (moved_quiet (world_of i.world) (session_in i).queries so.quiet)

  module _ (new : Holders Observing)
      (lives : holders_in new ≡ each_live with_cooled (holders_in i.world)) where
    carried : ArePlaced (holders_in new) i.places.items (all_cold (session_in i).queries)
    carried =
        subst (λ (x : Lives). ArePlaced x i.places.items (all_cold (session_in i).queries))
        (sym lives)
        (moved_placed (holders_in i.world) i.places.items (session_in i).queries so.placed)

    queries : queries_of (holders_in new) i.places.items ≡ all_cold (session_in i).queries
    queries = seen (holders_in new) i.places.items (all_cold (session_in i).queries) carried

    pub carried_placed : ArePlaced (holders_in new) i.places.items
        (queries_of (holders_in new) i.places.items)
    carried_placed =
        placed_seen (holders_in new) i.places.items (all_cold (session_in i).queries) carried

    -- the world has the collections that it had
    stays : world_of new ≡ record {
      collections = (world_of i.world).collections;
      replications = new.replications;
      epoch = new.epoch;
    }
    stays =
        let collections = carried_collections i.world new lives in
        λ k. record {
          collections = collections k;
          replications = new.replications;
          epoch = new.epoch;
        }

    pub carried_quiet : AreQuietUnless [] (world_of new)
        (queries_of (holders_in new) i.places.items)
    carried_quiet =
        subst (λ v. AreQuietUnless [] v (queries_of (holders_in new) i.places.items)) (sym stays)
        (subst (AreQuietUnless [] (world_of i.world)) (sym queries)
        (moved_quiet (world_of i.world) (session_in i).queries so.quiet))

    -- the session that goes on is the one before, in that epoch, with its queries made cold
    pub carried_session : (number : ℕ) → new.replications ≡ i.world.replications
        → new.epoch ≡ number
        → session_of new (session_in i).moment (session_in i).hooks [] i.places.items
        ≡ settled_session (session_after (restart number) (session_in i))
    carried_session number replications epoch =
        let collections = carried_collections i.world new lives in
        let all = queries ∙ sym (all_settled (world_of i.world) (all_cold (session_in i).queries)
        (moved_quiet (world_of i.world) (session_in i).queries so.quiet)) in
        λ k. record {
          world = record {
            collections = collections k;
            replications = replications k;
            epoch = epoch k;
          };
          moment = (session_in i).moment;
          hooks = (session_in i).hooks;
          streams = [];
          queries = all k;
        }
