-- Playing the records of a journal of either version, one after another.
use Rattle.std.proofs.Common.{◌≡◌, ◌≤◌, ◌<◌, ◌^◌, ℕ, ◌+◌, max, List, [], ◌∷◌, ◌++◌, length, true, false, true≢false, cond, Some, None, Ok, refl, sym, ◌∙◌, ap, subst, arith, append-nil, append_assoc, length-append, leb-true}
use Rattle.std.proofs.Math.Nat.{le-max_left, le-max_right}
use Rattle.rx_collection.specs.Held.{Held}
use Rattle.rx_disk.specs.declared.disk.Disk.{Ghosts}
use Rattle.rx_document.specs.declared.stored.Stored.{Stored}
use Rattle.rx_frame.specs.File.{records}
use Rattle.rx_frame.specs.Gate.{IsClosed, NextIs}
use Rattle.rx_frame.proofs.Records.{length-records-push}
use Rattle.rx_journal.specs.Hold.{Hold}
use Rattle.rx_journal.specs.Windows.{HaveLent, WillLend, left, gate_place}
use Rattle.rx_journal.specs.declared.windows.Windows.{Windows}
use Rattle.rx_journal.proofs.Holding.{one_before}
use Rattle.rx_record.specs.Content.{Content, collection, rows, replication, exchange, epoch, migration, part, known_part, end, record_of}
use Rattle.rx_world.specs.Copy.{after_copied, copy_step, is_end, may_copy, most_copied_epoch, replay_copy}
use Rattle.rx_world.specs.Holders.{AreMadeFor, holders_in}
use Rattle.rx_world.specs.Replay.{replay_from}
use Rattle.rx_world.specs.World.{World}
use Rattle.rx_world.proofs.Replays.{replay_from-none}
use Rattle.rx_store.specs.Made.{AreMade}
use Rattle.rx_store.specs.Phase.{ArePlayed, HasNone, IsMadeIn, world_to_come}
use Rattle.rx_store.specs.Versions.{replay_in}
use Rattle.rx_store.specs.declared.phase.Phase.{Phase}
use Rattle.rx_store.specs.declared.phase.Phase.TheVariants.{Copying, Running}
use Rattle.rx_store.proofs.Made.{new_made}
use Rattle.rx_store.proofs.Playing.{Lends}

-- ---- the bodies of a copy

-- its end
pub ends_copy : (body : List ℕ) (c : Content) (w w' : World) (more : List (List ℕ))
    → record_of body ≡ Ok c → is_end (Ok c) ≡ true → after_copied (Ok c) w ≡ Some w'
    → replay_copy (Some w) (body ∷ more) ≡ replay_from (Some w') more
unfolding replay_copy
ends_copy body c w w' more is last after =
    ap (λ r.
    cond (is_end r) (replay_from (after_copied r w) more) (replay_copy (after_copied r w) more)) is
    ∙ ap (λ b. cond b (replay_from (after_copied (Ok c) w) more)
    (replay_copy (after_copied (Ok c) w) more)) last
    ∙ ap (λ o. replay_from o more) after

-- any other
pub copies_on : (body : List ℕ) (c : Content) (w w' : World) (more : List (List ℕ))
    → record_of body ≡ Ok c → is_end (Ok c) ≡ false → after_copied (Ok c) w ≡ Some w'
    → replay_copy (Some w) (body ∷ more) ≡ replay_copy (Some w') more
unfolding replay_copy
copies_on body c w w' more is last after =
    ap (λ r.
    cond (is_end r) (replay_from (after_copied r w) more) (replay_copy (after_copied r w) more)) is
    ∙ ap (λ b. cond b (replay_from (after_copied (Ok c) w) more)
    (replay_copy (after_copied (Ok c) w) more)) last
    ∙ ap (λ o. replay_copy o more) after

-- one that may not stand there
pub copies_none : (body : List ℕ) (w : World) (more : List (List ℕ))
    → after_copied (record_of body) w ≡ None → replay_copy (Some w) (body ∷ more) ≡ None
unfolding replay_copy
copies_none body w more none =
    ap (λ o. cond (is_end (record_of body)) (replay_from o more) (replay_copy o more)) none
    ∙ (elim (is_end (record_of body))
    as (λ b. cond b (replay_from None more) (replay_copy None more) ≡ None)
    [ true ↦ replay_from-none more | false ↦ refl ])

-- none are left, and the end wasn't there
pub copy_unended : (w : World) → replay_copy (Some w) [] ≡ None
unfolding replay_copy
copy_unended w = refl

-- a record of a copy leaves the epoch, or is the end
pub copied_epoch : (c : Content) (w : World) → may_copy c w ≡ true
    → (copy_step c w).epoch ≤ max (w.epoch + 1) most_copied_epoch
copied_epoch (end number) w may =
    let few = leb-true number most_copied_epoch may in
    let right = le-max_right (w.epoch + 1) most_copied_epoch in omega arith
copied_epoch (collection name schema) w may =
    let left = le-max_left (w.epoch + 1) most_copied_epoch in omega arith
copied_epoch (replication name fork master handler field) w may =
    let left = le-max_left (w.epoch + 1) most_copied_epoch in omega arith
copied_epoch (part name written) w may =
    let left = le-max_left (w.epoch + 1) most_copied_epoch in omega arith
copied_epoch (known_part name known up down) w may =
    let left = le-max_left (w.epoch + 1) most_copied_epoch in omega arith
copied_epoch (rows name lwt written) w may = absurd (true≢false (sym may))
copied_epoch (exchange name lwt written known up down) w may = absurd (true≢false (sym may))
copied_epoch (epoch number) w may = absurd (true≢false (sym may))
copied_epoch (migration name schema steps) w may = absurd (true≢false (sym may))

-- what was made of collections has taken nothing yet
pub made_first : {H : Type 0} (Makes : Held → H → Type 0) (written : H → List Stored → H)
    (hs : List (List ℕ × H)) → AreMadeFor Makes hs → AreMade Makes written hs
made_first Makes written [] made = tt
made_first Makes written (e ∷ hs) made =
    (new_made Makes written made.0.0 e.1 made.0.1, made_first Makes written hs made.1)

pub made_none : {H : Type 0} (Makes : Held → H → Type 0) (written : H → List Stored → H)
    (p : Phase H) → HasNone p → IsMadeIn Makes written p
made_none Makes written (Copying copy) none = tt
made_none {H} Makes written (Running run) none = go (holders_in run) none
  where
    go : (hs : List (List ℕ × H)) → hs ≡ [] → AreMade Makes written hs
    go [] is = tt
    go (e ∷ hs) is = absurd (cc)

-- ---- the bodies of a file

module _ {H : Type 0} (held : H → Held) (version : ℕ) where
  -- of the bodies that windows were to lend at first, those that they still are to lend are still
  -- to be played
  abbrev pub IsPlaying : List ℕ → Windows → Windows → Phase H → Type 0
  IsPlaying content first now phase = (bodies : List (List ℕ)) → WillLend content first bodies
      → (rest : List (List ℕ)) × WillLend content now rest
      × (replay_in version bodies ≡ world_to_come held phase rest)

  -- a body makes the next phase of one
  abbrev pub IsTurn : List ℕ → Phase H → Phase H → Type 0
  IsTurn body phase next = (more : List (List ℕ))
      → world_to_come held phase (body ∷ more) ≡ world_to_come held next more

  pub goes_on : (content : List ℕ) (first f f' : Windows) (body : List ℕ) (p p' : Phase H)
      → IsPlaying content first f p → Lends content f body f' → IsTurn body p p'
      → IsPlaying content first f' p'
  goes_on content first f f' body p p' playing lends turn bodies will =
      let rest = playing bodies will in
      let next = lends rest.0 rest.1 in
      (next.0, next.2, rest.2 ∙ ap (world_to_come held p) next.1 ∙ turn next.0)

  pub refused : (content : List ℕ) (first f f' : Windows) (body : List ℕ) (p : Phase H)
      → IsPlaying content first f p → Lends content f body f'
      → ((more : List (List ℕ)) → world_to_come held p (body ∷ more) ≡ None)
      → (bodies : List (List ℕ)) → WillLend content first bodies → replay_in version bodies ≡ None
  refused content first f f' body p playing lends none bodies will =
      let rest = playing bodies will in
      let next = lends rest.0 rest.1 in
      rest.2 ∙ ap (world_to_come held p) next.1 ∙ none next.0

  -- bodies that no windows may lend aren't played
  pub not_read : (content : List ℕ) (first f : Windows) (p : Phase H) → IsPlaying content first f p
      → ((bodies : List (List ℕ)) → WillLend content f bodies → ⊥)
      → (bodies : List (List ℕ)) → WillLend content first bodies → replay_in version bodies ≡ None
  not_read content first f p playing none bodies will =
      let rest = playing bodies will in absurd (none rest.0 rest.1)

  -- none are left
  pub all_played : (content : List ℕ) (first f : Windows) (p : Phase H)
      → IsPlaying content first f p
      → ((bodies : List (List ℕ)) → WillLend content f bodies → bodies ≡ [])
      → (bodies : List (List ℕ)) → WillLend content first bodies
      → replay_in version bodies ≡ world_to_come held p []
  all_played content first f p playing none bodies will =
      let rest = playing bodies will in rest.2 ∙ ap (world_to_come held p) (none rest.0 rest.1)

  -- those that were lent were played
  abbrev pub HasPlayed : {D : Type 0} → Ghosts D → D → Windows → Phase H → Type 0
  HasPlayed d disk f p = (bodies : List (List ℕ)) × HaveLent d disk f bodies
      × ((rest : List (List ℕ)) → replay_in version (bodies ++ rest) ≡ world_to_come held p rest)

  pub played_one : {D : Type 0} (d : Ghosts D) (disk disk' : D) (f f' : Windows) (body : List ℕ)
      (p p' : Phase H) → ((bodies : List (List ℕ)) → HaveLent d disk f bodies
      → HaveLent d disk' f' (bodies ++ body ∷ []))
      → IsTurn body p p' → HasPlayed d disk f p → HasPlayed d disk' f' p'
  played_one d disk disk' f f' body p p' lent turn (bodies, so_far, plays) = (
    bodies ++ body ∷ [],
    lent bodies so_far,
    λ rest. ap (replay_in version) (append_assoc bodies (body ∷ []) rest)
        ∙ plays (body ∷ rest) ∙ turn rest,
  )

  pub played_all : (bodies : List (List ℕ)) (p : Phase H)
      → ((rest : List (List ℕ)) → replay_in version (bodies ++ rest) ≡ world_to_come held p rest)
      → replay_in version bodies ≡ world_to_come held p []
  played_all bodies p plays = ap (replay_in version) (sym (append-nil bodies)) ∙ plays []

  -- bodies that stood before those which windows still are to lend were played and counted
  pub record HasRead (content : List ℕ) (first now : Windows) (p : Phase H) (count size : ℕ)
      : Type 0 where
    pub done : List (List ℕ)
    pub before : (rest : List (List ℕ)) → WillLend content now rest
        → WillLend content first (done ++ rest)
    pub plays : (rest : List (List ℕ))
        → replay_in version (done ++ rest) ≡ world_to_come held p rest
    pub counted : count ≡ length done
    pub sized : size ≡ length (records done)

  -- one more was lent
  pub read_one : (content : List ℕ) (first f f' : Windows) (body : List ℕ) (p p' : Phase H)
      (count size : ℕ) → NextIs (left f content) body (left f' content)
      → gate_place f' ≡ gate_place f + 5 + length body → IsTurn body p p'
      → HasRead content first f p count size
      → HasRead content first f' p' (count + 1) (size + (5 + length body))
  read_one content first f f' body p p' count size next moved turn h = record {
    done = h.done ++ body ∷ [];
    before = λ rest will.
        let here : WillLend content f (body ∷ rest) =
        one_before (gate_place f) (left f content) body (left f' content) rest next
        (subst (λ (n : ℕ). Hold n (left f' content) rest) moved will) in
        subst (λ (bs : List (List ℕ)). WillLend content first bs)
        (sym (append_assoc h.done (body ∷ []) rest)) (h.before (body ∷ rest) here);
    plays = λ rest.
        ap (replay_in version) (append_assoc h.done (body ∷ []) rest) ∙ h.plays (body ∷ rest)
        ∙ turn rest;
    counted = omega (arith, h.counted, length-append h.done (body ∷ []));
    sized = omega (arith, h.sized, length-records-push h.done body);
  }

  -- none is left
  pub read_all : (content : List ℕ) (first f : Windows) (p : Phase H) (count size : ℕ)
      → IsClosed (left f content) → gate_place f + 1 < 2 ^ 32 → HasRead content first f p count size
      → (bodies : List (List ℕ)) × WillLend content first bodies
      × ArePlayed held version bodies p count size
  read_all content first f p count size closed short h =
      let none : WillLend content f [] = record {
        gate = closed.0;
        rest = closed.1;
        closed = closed.2;
        fit = tt;
        split = closed.3;
        short = omega (arith, short);
      } in (
        h.done,
        subst (λ (bs : List (List ℕ)). WillLend content first bs) (append-nil h.done)
            (h.before [] none),
        record { plays = played_all h.done p h.plays; counted = h.counted; sized = h.sized },
      )
