-- What a record, and each other thing that a line does, makes of streams.
use Rattle.std.proofs.Common.{◌≡◌, ◌∙◌, ◌+◌, ℕ, suc, Bool, true, false, cond, not, List, [], ◌∷◌, ◌++◌, map, arith, filter, Option, Some, None, option_map, refl, sym, ap, subst}
use Rattle.std.proofs.lemmas.Slice.Eq.{bytes_eq-Decides}
use Rattle.std.proofs.lemmas.Iterator.Adapters.{position_from-zero}
use Rattle.std.specs.List.{AllByRecursion, position_from}
use Rattle.std.specs.Option.{option_map_or}
use Rattle.std.specs.Prelude.{option_and_then, position, set, slice_index_or}
use Rattle.std.specs.Str.{bytes_eq}
use Rattle.rx_value.specs.Named.{named}
use Rattle.rx_value.proofs.Outcomes.{not_none, some_same}
use Rattle.rx_collection.specs.Held.{Held}
use Rattle.rx_collection.proofs.Named.{at_name}
use Rattle.rx_schema.specs.declared.shape.Shape.{Shape}
use Rattle.rx_record.specs.Content.{Content, migration}
use Rattle.rx_record.specs.Writable.{IsOrdered}
use Rattle.rx_record.specs.declared.record.MasterName.{MasterName}
use Rattle.rx_record.specs.declared.record.MasterName.TheVariants.{Local, Port}
use Rattle.rx_stream.specs.Events.{Queue, emptied, follow, kept, new_queue}
use Rattle.rx_stream.specs.Good.{IsGoodEvent, IsGoodQueue}
use Rattle.rx_stream.specs.declared.event.Event.{Event}
use Rattle.rx_stream.specs.declared.stream.Stream.{Stream}
use Rattle.rx_stream.proofs.Good.{emptied_good, follow_good, kept_good, new_good, stays_good}
use Rattle.rx_world.specs.Linked.{IsLinked}
use Rattle.rx_world.specs.Made.{IsMadeWorld}
use Rattle.rx_world.specs.Migrating.{is_in_group}
use Rattle.rx_world.specs.Step.{legal, step}
use Rattle.rx_world.specs.Touch.{Touch, touch}
use Rattle.rx_world.specs.Valid.{AreValid}
use Rattle.rx_world.specs.ValidState.{is_valid_state}
use Rattle.rx_world.specs.World.{World}
use Rattle.rx_world.specs.declared.replication.Replication.{Replication}
use Rattle.rx_world.proofs.Grown.{IsApart, documents_pass, stays_from, stays_grown}
use Rattle.rx_world.proofs.Steps.{lawful_at}
use Rattle.rx_session.specs.Applied.{coll_written}
use Rattle.rx_session.specs.Doing.{new_stream, pulled_to, still_open, stream_after, stream_in, with_queue}
use Rattle.rx_session.specs.Emissions.{documents_at}
use Rattle.rx_session.specs.Playing.{coll_to_follow}
use Rattle.rx_session.specs.Session.{queued_at, stream_at}
use Rattle.rx_session.specs.Streams.{AreStreamed, IsGoodFor, IsStreamable, IsStreamed}

-- ---- lists

module _ {X : Type 0} (P : X → Type 0) where
  -- what holds of all holds of those that are left
  all_left : (keep : X → Bool) (xs : List X) → AllByRecursion P xs
      → AllByRecursion P (filter keep xs)
  all_left keep [] all = tt
  all_left keep (x ∷ xs) all =
      elim (keep x) as (λ b. AllByRecursion P (cond b (x ∷ filter keep xs) (filter keep xs))) [
        | true ↦ (all.0, all_left keep xs all.1)
        | false ↦ all_left keep xs all.1
      ]

  all_more : (xs ys : List X) → AllByRecursion P xs → AllByRecursion P ys
      → AllByRecursion P (xs ++ ys)
  all_more [] ys all more = more
  all_more (x ∷ xs) ys all more = (all.0, all_more xs ys all.1 more)

-- those that are left pass the test
left_pass : {X : Type 0} (test : X → Bool) (xs : List X)
    → AllByRecursion (λ x. test x ≡ false) (filter (λ x. not (test x)) xs)
left_pass test [] = tt
left_pass test (x ∷ xs) =
    elim (test x) as (λ b. test x ≡ b → AllByRecursion (λ x. test x ≡ false)
    (cond (not b) (x ∷ filter (λ x. not (test x)) xs) (filter (λ x. not (test x)) xs))) [
      | true ↦ (λ is. left_pass test xs)
      | false ↦ (λ is. (is, left_pass test xs))
    ] refl

-- masters of this journal that are one have one name
local_same : {a b : List ℕ} → Local a ≡ Local b → a ≡ b
local_same is = ap name_or is
  where
    name_or : MasterName → List ℕ
    name_or (Local name) = name
    name_or (Port port) = []

-- ---- a record

all_apart : (w : World) (sts : List Stream) → AllByRecursion (λ (st : Stream). Unit {0}) sts
all_apart w [] = tt
all_apart w (st ∷ sts) = (tt, all_apart w sts)

-- a record makes no master of an open stream anew
open_apart : (content : Content) (w : World) (sts : List Stream)
    → AllByRecursion (λ (st : Stream). IsApart content w st.master) (still_open content w sts)
open_apart (migration name text steps) w sts =
    left_pass (λ (st : Stream). is_in_group w.replications name st.master) sts
open_apart other w sts = all_apart w sts

open_left : (content : Content) (w : World) (sts : List Stream) → AreStreamed w sts
    → AreStreamed w (still_open content w sts)
open_left (migration name text steps) w sts all =
    all_left (IsStreamed w)
    (λ (st : Stream). not (is_in_group w.replications name st.master)) sts all
open_left other w sts all = all

-- a stream whose master isn't made anew has what it had
stream_stays : (content : Content) (w : World) → legal content w ≡ true → IsOrdered content
    → IsMadeWorld w → (st : Stream) → IsApart content w st.master → IsStreamed w st
    → IsStreamed (step content w) st
stream_stays content w is ordered made st apart s =
    let g = stays_grown content w is ordered made st.master s.documents s.master_held apart in
    let f = stays_from content w is st.name s.replication s.held in
    record {
      replication = f.new;
      held = f.held;
      local = f.master ∙ s.local;
      documents = g.new;
      master_held = g.held;
      good =
          subst (λ (schema : Shape). IsGoodQueue (is_valid_state schema) g.new.documents st.queue)
          (sym g.grown.schema)
          (stays_good (is_valid_state s.documents.schema) s.documents.documents g.new.documents
          g.grown.states g.grown.wrote st.queue s.good);
    }

-- a collection of a world that records made has lawful and valid documents
module _ (w : World) (made : IsMadeWorld w) (at : List ℕ) (c : Held)
    (held : named w.collections at ≡ Some c) where
  pub follows_well : (q : Queue) → IsGoodQueue (is_valid_state c.schema) c.documents q
      → IsGoodQueue (is_valid_state c.schema) c.documents (follow c.documents q)
  follows_well q good =
      let lawful = (lawful_at w at c made.lawful held).lawful in
      let valid = at_name (λ (k : List ℕ) x. AreValid x) w.collections at c made.valid held in
      follow_good (is_valid_state c.schema) c lawful (documents_pass c lawful valid) q good

-- it follows its master
stream_follows : (w : World) → IsMadeWorld w → (st : Stream) → IsStreamed w st
    → IsStreamed w (stream_in w st)
stream_follows w made st s = record {
  replication = s.replication;
  held = s.held;
  local = s.local;
  documents = s.documents;
  master_held = s.master_held;
  good = subst (λ (o : Option Held). IsGoodQueue (is_valid_state s.documents.schema)
      s.documents.documents (follow (documents_at o) st.queue)) (sym s.master_held)
      (follows_well w made st.master s.documents s.master_held st.queue s.good);
}

-- where it was written
stream_goes_on : (w : World) → IsMadeWorld w → (coll : Option (List ℕ)) → (st : Stream)
    → IsStreamed w st → IsStreamed w (stream_after w coll st)
stream_goes_on w made None st s = s
stream_goes_on w made (Some coll) st s =
    elim (bytes_eq coll st.master) as (λ b. IsStreamed w (cond b (stream_in w st) st)) [
      | true ↦ stream_follows w made st s
      | false ↦ s
    ]

each_goes_on : (content : Content) (w : World) → legal content w ≡ true → IsOrdered content
    → IsMadeWorld w → IsMadeWorld (step content w) → (coll : Option (List ℕ)) → (sts : List Stream)
    → AllByRecursion (λ (st : Stream). IsApart content w st.master) sts → AreStreamed w sts
    → AreStreamed (step content w) (map (stream_after (step content w) coll) sts)
each_goes_on content w is ordered made then coll [] apart all = tt
each_goes_on content w is ordered made then coll (st ∷ sts) apart all = (
  stream_goes_on (step content w) then coll st
      (stream_stays content w is ordered made st apart.0 all.0),
  each_goes_on content w is ordered made then coll sts apart.1 all.1,
)

-- all streams that a record leaves open
pub streamed_step : (content : Content) (w : World) → legal content w ≡ true → IsOrdered content
    → IsMadeWorld w → IsMadeWorld (step content w) → (sts : List Stream) → AreStreamed w sts
    → AreStreamed (step content w)
    (map (stream_after (step content w) (coll_written (touch content w)))
    (still_open content w sts))
streamed_step content w is ordered made then sts all =
    each_goes_on content w is ordered made then (coll_written (touch content w))
    (still_open content w sts) (open_apart content w sts) (open_left content w sts all)

-- without rows all stay as they are
pub all_stay : (w : World) (sts : List Stream) → map (stream_after w None) sts ≡ sts
all_stay w [] = refl
all_stay w (st ∷ sts) = ap (λ xs. st ∷ xs) (all_stay w sts)

-- where no stream is open, nothing needs to be told
pub followed_by : (w : World) (t : Touch) (sts : List Stream)
    → map (stream_after w (coll_to_follow sts t)) sts ≡ map (stream_after w (coll_written t)) sts
followed_by w t [] = refl
followed_by w t (st ∷ sts) = refl

-- ---- a new one

pub new_streamed : (w : World) → IsMadeWorld w → (name master : List ℕ)
    → IsStreamable w name master → IsStreamed w (new_stream w name master)
new_streamed w made name master s =
    let c = s.documents in
    let r = s.replication in
    let lawful = (lawful_at w master c made.lawful s.master_held).lawful in
    let l = at_name (λ k x. IsLinked w.collections k x) w.replications name r
    made.linked.each s.held in
    record {
      replication = r;
      held = s.held;
      local = s.local;
      documents = c;
      master_held = s.master_held;
      good = subst (λ (o : Option Held). IsGoodQueue (is_valid_state c.schema) c.documents
          (new_queue (pulled_to name w) (documents_at o))) (sym s.master_held)
          (subst (λ (o : Option Replication). IsGoodQueue (is_valid_state c.schema) c.documents
          (new_queue (option_and_then (λ (x : Replication). x.side.down) o) c.documents))
          (sym s.held)
          (new_good (is_valid_state c.schema) c lawful r.side.down s.reached l.down_has_time));
    }

-- ---- the stream of a name

-- it is at its place
pub record IsPlaced (name : List ℕ) (sts : List Stream) (i : ℕ) : Type 0 where
  pub stream : Stream
  pub at : (x : Stream) → slice_index_or sts i x ≡ stream
  pub found : stream_at name sts ≡ Some stream
  pub changed : (change : Queue → Queue)
      → with_queue name change sts ≡ set sts i (record stream { queue = change stream.queue })

-- the first place of several
from_next : {X : Type 0} (test : X → Bool) (i : ℕ) (xs : List X)
    → position_from test (suc i) xs ≡ option_map suc (position_from test i xs)
from_next test i [] = refl
from_next test i (x ∷ xs) =
    elim (test x) as (λ b. cond b (Some (suc i)) (position_from test (suc i + 1) xs)
    ≡ option_map suc (cond b (Some i) (position_from test (i + 1) xs))) [
      | true ↦ refl
      | false ↦ ap (λ n. position_from test n xs) (omega arith) ∙ from_next test (i + 1) xs
    ]

position_next : {X : Type 0} (test : X → Bool) (x : X) (xs : List X)
    → position test (x ∷ xs) ≡ cond (test x) (Some 0) (option_map suc (position test xs))
position_next test x xs =
    position_from-zero test (x ∷ xs)
    ∙ ap (cond (test x) (Some 0)) (from_next test 0 xs
    ∙ ap (option_map suc) (sym (position_from-zero test xs)))

module _ (name : List ℕ) where
  abbrev is_called : Stream → Bool
  is_called st = bytes_eq name st.name

  placed_by : (st : Stream) (sts : List Stream)
      → ((i : ℕ) → position is_called sts ≡ Some i → IsPlaced name sts i)
      → (b : Bool) → is_called st ≡ b → (o : Option ℕ) → position is_called sts ≡ o → (i : ℕ)
      → cond b (Some 0) (option_map suc o) ≡ Some i → IsPlaced name (st ∷ sts) i
  placed_by st sts rest true is o at i there =
      subst (IsPlaced name (st ∷ sts)) (some_same there) (record {
        stream = st;
        at = λ x. refl;
        found = ap (λ b. cond b (Some st) (stream_at name sts)) is;
        changed = λ change. ap (λ b. cond b (record st { queue = change st.queue } ∷ sts)
            (st ∷ with_queue name change sts)) is;
      })
  placed_by st sts rest false is None at i there = not_none there
  placed_by st sts rest false is (Some j) at i there =
      let p = rest j at in
      subst (IsPlaced name (st ∷ sts)) (some_same there) (record {
        stream = p.stream;
        at = p.at;
        found = ap (λ b. cond b (Some st) (stream_at name sts)) is ∙ p.found;
        changed = λ change. ap (λ b. cond b (record st { queue = change st.queue } ∷ sts)
            (st ∷ with_queue name change sts)) is ∙ ap (λ xs. st ∷ xs) (p.changed change);
      })

  placed_at : (sts : List Stream) (i : ℕ) → position is_called sts ≡ Some i → IsPlaced name sts i
  placed_at [] i is = not_none is
  placed_at (st ∷ sts) i is =
      placed_by st sts (placed_at sts) (is_called st) refl (position is_called sts) refl i
      (sym (position_next is_called st sts) ∙ is)

  -- as it is found
  pub is_placed : (sts seen : List Stream) (found : Option ℕ) (i : ℕ) → seen ≡ sts
      → found ≡ position is_called seen → found ≡ Some i → IsPlaced name sts i
  is_placed sts seen found i same is at =
      placed_at sts i (ap (position is_called) (sym same) ∙ sym is ∙ at)

  -- or nowhere
  pub record IsNowhere (sts : List Stream) : Type 0 where
    pub found : stream_at name sts ≡ None
    pub same : (change : Queue → Queue) → with_queue name change sts ≡ sts

  nowhere_by : (st : Stream) (sts : List Stream) → (position is_called sts ≡ None → IsNowhere sts)
      → (b : Bool) → is_called st ≡ b → (o : Option ℕ) → position is_called sts ≡ o
      → cond b (Some 0) (option_map suc o) ≡ None → IsNowhere (st ∷ sts)
  nowhere_by st sts rest true is o at none = not_none (sym none)
  nowhere_by st sts rest false is None at none =
      let n = rest at in
      record {
        found = ap (λ b. cond b (Some st) (stream_at name sts)) is ∙ n.found;
        same = λ change. ap (λ b. cond b (record st { queue = change st.queue } ∷ sts)
            (st ∷ with_queue name change sts)) is ∙ ap (λ xs. st ∷ xs) (n.same change);
      }
  nowhere_by st sts rest false is (Some j) at none = not_none (sym none)

  nowhere_at : (sts : List Stream) → position is_called sts ≡ None → IsNowhere sts
  nowhere_at [] is = record { found = refl; same = λ change. refl }
  nowhere_at (st ∷ sts) is =
      nowhere_by st sts (nowhere_at sts) (is_called st) refl (position is_called sts) refl
      (sym (position_next is_called st sts) ∙ is)

  pub is_nowhere : (sts seen : List Stream) (found : Option ℕ) → seen ≡ sts
      → found ≡ position is_called seen → found ≡ None → IsNowhere sts
  is_nowhere sts seen found same is none =
      nowhere_at sts (ap (position is_called) (sym same) ∙ sym is ∙ none)

  -- a change of its queue that keeps it good keeps all streams
  pub changed_streamed : (w : World) (change : Queue → Queue) (sts : List Stream)
      → ((st : Stream) → IsStreamed w st → st.name ≡ name
      → IsStreamed w (record st { queue = change st.queue }))
      → AreStreamed w sts → AreStreamed w (with_queue name change sts)
  changed_streamed w change [] keeps all = tt
  changed_streamed w change (st ∷ sts) keeps all =
      elim (is_called st) as (λ b. is_called st ≡ b
      → AreStreamed w (cond b (record st { queue = change st.queue } ∷ sts)
      (st ∷ with_queue name change sts))) [
        | true ↦ (λ is. (keeps st all.0 (sym ((bytes_eq-Decides name st.name).0 is)), all.1))
        | false ↦ (λ is. (all.0, changed_streamed w change sts keeps all.1))
      ] refl

  -- it has its master
  pub stream_there : (w : World) (sts : List Stream) → AreStreamed w sts → (st : Stream)
      → stream_at name sts ≡ Some st → IsStreamed w st × (name ≡ st.name)
  stream_there w [] all st is = not_none is
  stream_there w (x ∷ sts) all st is =
      (elim (is_called x) as (λ b. is_called x ≡ b → cond b (Some x) (stream_at name sts) ≡ Some st
      → IsStreamed w st × (name ≡ st.name)) [
        | true ↦
            (λ h there. subst (λ (y : Stream). IsStreamed w y × (name ≡ y.name)) (some_same there)
            (all.0, (bytes_eq-Decides name x.name).0 h))
        | false ↦ (λ h there. stream_there w sts all.1 st there)
      ]) refl is

  -- its events are good
  pub queued_good_for : (w : World) (sts : List Stream) → AreStreamed w sts
      → AllByRecursion (IsGoodFor w name) (queued_at name sts)
  queued_good_for w [] all = tt
  queued_good_for w (st ∷ sts) all =
      elim (is_called st) as (λ b. is_called st ≡ b → AllByRecursion (IsGoodFor w name)
      (option_map_or (λ (x : Stream). x.queue.events) (cond b (Some st) (stream_at name sts)) [])) [
        | true ↦ (λ is. each_good w st all.0 ((bytes_eq-Decides name st.name).0 is) st.queue.events
            all.0.good.events)
        | false ↦ (λ is. queued_good_for w sts all.1)
      ] refl
    where
      each_good : (w : World) (st : Stream) (s : IsStreamed w st) → name ≡ st.name
          → (es : List Event)
          → AllByRecursion (IsGoodEvent (is_valid_state s.documents.schema) s.documents.documents)
          es
          → AllByRecursion (IsGoodFor w name) es
      each_good w st s same [] all = tt
      each_good w st s same (e ∷ es) all = (
        (λ r at m here c held.
            let r_is : s.replication ≡ r =
            some_same (sym s.held ∙ ap (named w.replications) (sym same) ∙ at) in
            let m_is : st.master ≡ m =
            local_same (sym s.local ∙ ap (λ (x : Replication). x.master) r_is ∙ here) in
            let c_is : s.documents ≡ c =
            some_same (sym s.master_held ∙ ap (named w.collections) m_is ∙ held) in
            subst (λ (x : Held). IsGoodEvent (is_valid_state x.schema) x.documents e) c_is all.0),
        each_good w st s same es all.1,
      )

-- with good events more all streams are as they were
pub kept_streamed : (w : World) (name : List ℕ) (es : List Event)
    → AllByRecursion (IsGoodFor w name) es → (sts : List Stream) → AreStreamed w sts
    → AreStreamed w (with_queue name (kept es) sts)
kept_streamed w name es good sts all =
    changed_streamed name w (kept es) sts
    (λ st s is. record {
      replication = s.replication;
      held = s.held;
      local = s.local;
      documents = s.documents;
      master_held = s.master_held;
      good = kept_good (is_valid_state s.documents.schema) s.documents.documents es st.queue
          (good_here st s is es good) s.good;
    }) all
  where
    good_here : (st : Stream) (s : IsStreamed w st) → st.name ≡ name → (es : List Event)
        → AllByRecursion (IsGoodFor w name) es
        → AllByRecursion (IsGoodEvent (is_valid_state s.documents.schema) s.documents.documents) es
    good_here st s is [] good = tt
    good_here st s is (e ∷ es) good = (
      good.0 s.replication
          (ap (named w.replications) (sym is) ∙ s.held) st.master s.local s.documents
          s.master_held,
      good_here st s is es good.1,
    )

-- and when one has given what it had
pub emptied_streamed : (w : World) (name : List ℕ) (sts : List Stream) → AreStreamed w sts
    → AreStreamed w (with_queue name emptied sts)
emptied_streamed w name sts all =
    changed_streamed name w emptied sts
    (λ st s is. record {
      replication = s.replication;
      held = s.held;
      local = s.local;
      documents = s.documents;
      master_held = s.master_held;
      good = emptied_good (is_valid_state s.documents.schema) s.documents.documents st.queue s.good;
    }) all

-- one that is opened, beside others
pub opened_streamed : (w : World) (sts : List Stream) (st : Stream) → AreStreamed w sts
    → IsStreamed w st → AreStreamed w (sts ++ st ∷ [])
opened_streamed w sts st all one = all_more (IsStreamed w) sts (st ∷ []) all (one, tt)

-- and once one is closed
pub closed_streamed : (w : World) (name : List ℕ) (sts : List Stream) → AreStreamed w sts
    → AreStreamed w (filter (λ (st : Stream). not (bytes_eq name st.name)) sts)
closed_streamed w name sts all =
    all_left (IsStreamed w) (λ (st : Stream). not (bytes_eq name st.name)) sts all
