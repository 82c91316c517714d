-- What bodies that say the records of a copy make.
use Rattle.std.proofs.Common.{◌≡◌, ◌≢◌, ℕ, true, false, cond, List, [], ◌∷◌, ◌++◌, map, Option, Some, None, Ok, refl, sym, ap, ◌∙◌, subst}
use Rattle.std.specs.List.{AllByRecursion, flat_map}
use Rattle.rx_value.proofs.Lists.{cons_parts, map_none}
use Rattle.rx_record.specs.Content.{Content, end, record_of}
use Rattle.rx_tree.proofs.Walks.{all_both}
use Rattle.rx_world.specs.Copy.{after_copied, copy_step, is_end, may_copy, replay_copy}
use Rattle.rx_world.specs.Replay.{replay_from}
use Rattle.rx_world.specs.World.{World}
use Rattle.rx_world.proofs.Replays.{replay_from-nothing}
use Rattle.rx_compact.specs.Laws.{Say}
use Rattle.rx_compact.specs.Making.{MayCopy, copied_world}

-- ---- records of which none is an end

-- none of them is the end of a copy
abbrev pub AreOpen : List Content → Type 0
AreOpen cs = AllByRecursion (λ c. is_end (Ok c) ≡ false) cs

pub open_both : (cs ds : List Content) → AreOpen cs → AreOpen ds → AreOpen (cs ++ ds)
open_both cs ds first last = all_both (λ c. is_end (Ok c) ≡ false) cs ds first last

pub open_map : {X : Type 0} (f : X → Content) → ((x : X) → is_end (Ok (f x)) ≡ false)
    → (xs : List X) → AreOpen (map f xs)
open_map f each [] = tt
open_map f each (x ∷ xs) = (each x, open_map f each xs)

pub open_flat : {X : Type 0} (f : X → List Content) → ((x : X) → AreOpen (f x)) → (xs : List X)
    → AreOpen (flat_map f xs)
open_flat f each [] = tt
open_flat f each (x ∷ xs) = open_both (f x) (flat_map f xs) (each x) (open_flat f each xs)

-- nor in a front of them and one more that leaves something out
pub open_front : (front rest cs : List Content) (c : Content) → cs ++ c ∷ [] ≡ front ++ rest
    → rest ≢ [] → AreOpen cs → AreOpen front
open_front [] rest cs c is some all = tt
open_front (d ∷ front) rest [] c is some all =
    let parts = cons_parts c d [] (front ++ rest) is in
    absurd (some (none_behind front (sym parts.1)))
  where
    none_behind : (xs : List Content) → xs ++ rest ≡ [] → rest ≡ []
    none_behind [] none = none
    none_behind (x ∷ xs) none = absurd (cc)
open_front (d ∷ front) rest (b ∷ cs) c is some all =
    let parts = cons_parts b d (cs ++ c ∷ []) (front ++ rest) is in (
      subst (λ (x : Content). is_end (Ok x) ≡ false) parts.0 all.0,
      open_front front rest cs c parts.1 some all.1,
    )

-- ---- bodies

-- a first body, and then the others
first_body : (body : List ℕ) (c : Content) (w : World) (more : List (List ℕ))
    → record_of body ≡ Ok c
    → replay_copy (Some w) (body ∷ more)
    ≡ cond (is_end (Ok c)) (replay_from (after_copied (Ok c) w) more)
    (replay_copy (after_copied (Ok c) w) more)
unfolding replay_copy
first_body body c w more is =
    ap (λ r. cond (is_end r) (replay_from (after_copied r w) more)
    (replay_copy (after_copied r w) more)) is

-- of a record that is no end
next_body : (body : List ℕ) (c : Content) (w : World) (more : List (List ℕ))
    → record_of body ≡ Ok c → is_end (Ok c) ≡ false
    → replay_copy (Some w) (body ∷ more) ≡ replay_copy (after_copied (Ok c) w) more
next_body body c w more is on =
    first_body body c w more is
    ∙ ap (λ b. cond b (replay_from (after_copied (Ok c) w) more)
    (replay_copy (after_copied (Ok c) w) more)) on

-- after a record that may stand there
after_one : (c : Content) (w : World) → may_copy c w ≡ true
    → after_copied (Ok c) w ≡ Some (copy_step c w)
after_one c w may = ap (λ b. cond b (Some (copy_step c w)) None) may

-- records with an end behind them, which may all stand where they come, make their world
pub replays_whole : (cs : List Content) (n : ℕ) (w : World) → AreOpen cs
    → MayCopy (cs ++ end n ∷ []) w → (bodies : List (List ℕ)) → Say bodies (cs ++ end n ∷ [])
    → replay_copy (Some w) bodies ≡ Some (copied_world (cs ++ end n ∷ []) w)
replays_whole [] n w all may [] say = absurd (cc)
replays_whole [] n w all may (body ∷ bodies) say =
    let parts = cons_parts (record_of body) (Ok (end n)) (map record_of bodies) [] say in
    let made = Some (copy_step (end n) w) in
    first_body body (end n) w bodies parts.0
    ∙ ap (λ o. replay_from o bodies) (after_one (end n) w may.0)
    ∙ ap (replay_from made) (map_none record_of bodies parts.1) ∙ replay_from-nothing made
replays_whole (c ∷ cs) n w all may [] say = absurd (cc)
replays_whole (c ∷ cs) n w all may (body ∷ bodies) say =
    let more = map Ok (cs ++ end n ∷ []) in
    let parts = cons_parts (record_of body) (Ok c) (map record_of bodies) more say in
    next_body body c w bodies parts.0 all.0
    ∙ ap (λ o. replay_copy o bodies) (after_one c w may.0)
    ∙ replays_whole cs n (copy_step c w) all.1 may.1 bodies parts.1

-- records without an end make none
pub replays_none : (cs : List Content) (o : Option World) → AreOpen cs
    → (bodies : List (List ℕ)) → Say bodies cs → replay_copy o bodies ≡ None
unfolding replay_copy
replays_none cs None all bodies say = refl
replays_none [] (Some w) all [] say = refl
replays_none [] (Some w) all (body ∷ bodies) say = absurd (cc)
replays_none (c ∷ cs) (Some w) all [] say = absurd (cc)
replays_none (c ∷ cs) (Some w) all (body ∷ bodies) say =
    let parts = cons_parts (record_of body) (Ok c) (map record_of bodies) (map Ok cs) say in
    next_body body c w bodies parts.0 all.0
    ∙ replays_none cs (after_copied (Ok c) w) all.1 bodies parts.1
