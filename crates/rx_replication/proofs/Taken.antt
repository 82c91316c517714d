-- A reply that is taken.
use Rattle.std.proofs.Common.{◌≡◌, ◌≢◌, ℕ, ◌≤◌, Bool, true, false, not, List, [], ◌∷◌, map, filter, take, Option, Some, None, option_map, refl, sym, ap, ◌∙◌, ◌⊎◌, inl, inr, subst, true≢false}
use Rattle.std.proofs.lemmas.Bool.{not-true, not-false}
use Rattle.rx_value.specs.Equal.{state_eq}
use Rattle.rx_value.specs.Named.{named}
use Rattle.rx_value.specs.declared.state.State.{State}
use Rattle.rx_value.proofs.Lists.{map_none}
use Rattle.rx_value.proofs.Outcomes.{some_same, not_none}
use Rattle.rx_document.specs.Documents.{Documents}
use Rattle.rx_document.specs.declared.place.Place.{Place}
use Rattle.rx_document.specs.declared.stored.Stored.{Stored}
use Rattle.rx_collection.specs.Since.{place_of}
use Rattle.rx_wire.specs.declared.message.AskKind.TheVariants.{Push, Pull}
use Rattle.rx_wire.specs.declared.message.PushRow.{PushRow}
use Rattle.rx_replication.specs.Answered.{IsPushAnswered, IsPullAnswered}
use Rattle.rx_replication.specs.Known.{KnownStates, with_learnt, is_state, is_pending, pending}
use Rattle.rx_replication.specs.Master.{last_place}
use Rattle.rx_replication.specs.Member.{Member}
use Rattle.rx_replication.specs.Request.{push_row, push_or_pull, IsCurrent}
use Rattle.rx_replication.specs.Sound.{IsSoundSide, Reach}
use Rattle.rx_replication.specs.Taking.{Resolve, KeepsKey, conflict_at, real_or, real_state, resolutions, pushed_place, place_or, differences}
use Rattle.rx_replication.specs.Write.{is_up_to, state_at, AreByKey}
use Rattle.rx_replication.proofs.Commits.{IsAmong, IsOld, IsNew, IsNewState, Wrote, learn_at, key_at}
use Rattle.rx_replication.proofs.Handled.{conflict-among, RowsApart, Agree}
use Rattle.rx_replication.proofs.Lists.{to_map, from_map, to_filter, from_filter, take_none}
use Rattle.rx_replication.proofs.Orders.{same_state, is_state-some, is_state-itself, up_to_itself, up_to_other}
use Rattle.rx_replication.proofs.Pages.{page_held, page_whole, last_place_is, placed, to_placed}
use Rattle.rx_replication.proofs.Sides.{Holds, above_reached, holds_after, reach_after}

-- ---- what is known of rows

-- a document that isn't pending is known
pub known_is : (o : Option State) (s : State) → not (is_state o s) ≡ false → o ≡ Some s
known_is o s e = is_state-some o s (not-false _ e)

real_key : (cs : List State) (row : PushRow) (o : Option State) → IsAmong row.new.key cs o
    → (real_or o row.new).key ≡ row.new.key
real_key cs row None among = refl
real_key cs row (Some t) among = (among.some t refl).1

-- the real state of a row has its key
pub real_state-key : (cs : List State) (row : PushRow) → (real_state cs row).key ≡ row.new.key
real_state-key cs row =
    real_key cs row (conflict_at row.new.key cs) (conflict-among row.new.key cs)

module _ (resolve : Resolve) (cs : List State) (rows : List PushRow) where
  -- the row's real state is another
  abbrev is_other : PushRow → Bool
  is_other row = not (state_eq (real_state cs row) row.new)

  abbrev resolution : PushRow → State
  resolution row = resolve (real_state cs row) row.new

  pub to_resolutions : (row : PushRow) → Member row rows
      → state_eq (real_state cs row) row.new ≡ false
      → Member (resolve (real_state cs row) row.new) (resolutions resolve cs rows)
  to_resolutions row h e =
      to_map resolution (filter is_other rows) row (to_filter is_other rows row h (ap not e))

  pub from_resolutions : (s : State) → Member s (resolutions resolve cs rows)
      → (row : PushRow) × Member row rows × (s ≡ resolve (real_state cs row) row.new)
      × (state_eq (real_state cs row) row.new ≡ false)
  from_resolutions s h =
      let x = from_map resolution (filter is_other rows) s h in
      let y = from_filter is_other rows x.0 x.1 in
      (x.0, y.0, x.2, not-true _ y.1)

  pub resolution-key : KeepsKey resolve → (row : PushRow)
      → (resolve (real_state cs row) row.new).key ≡ row.new.key
  resolution-key law row = law (real_state cs row) row.new (real_state-key cs row)

-- ---- a push

-- the first pending documents by place
abbrev pub pushed : Documents → KnownStates → ℕ → List Stored
pushed fork known n = take n (pending fork known)

abbrev pub rows_of : KnownStates → List Stored → List PushRow
rows_of known ds = map (push_row known) ds

pushed_place-rows : (fork : Documents) (known : KnownStates) (up : Option Place) (ds : List Stored)
    → ((d : Stored) → Member d ds → named fork d.state.key ≡ Some d)
    → pushed_place fork up (rows_of known ds) ≡ last_place up ds
pushed_place-rows fork known up [] held = refl
pushed_place-rows fork known up (d ∷ ds) held =
    ap (λ (o : Option Stored). pushed_place fork (place_or up o) (rows_of known ds))
    (held d (inl refl))
    ∙ pushed_place-rows fork known (Some (place_of d)) ds (λ e m. held e (inr m))

module _ (fork : Documents) (known : KnownStates) (by_key : AreByKey fork) (n : ℕ) where
  pub pushed_held : (d : Stored) → Member d (pushed fork known n)
      → named fork d.state.key ≡ Some d
  pushed_held d h = (page_held fork by_key (is_pending known) n d h).0

  pub pushed_pending : (d : Stored) → Member d (pushed fork known n) → is_pending known d ≡ true
  pushed_pending d h = (page_held fork by_key (is_pending known) n d h).1

  -- a pushed row is a document of the fork
  pub row_doc : (row : PushRow) → Member row (rows_of known (pushed fork known n))
      → (d : Stored) × Member d (pushed fork known n) × (named fork row.new.key ≡ Some d)
      × (row ≡ push_row known d)
  row_doc row h =
      let x = from_map (push_row known) (pushed fork known n) row h in
      (x.0, x.1, ap (λ (z : PushRow). named fork z.new.key) x.2 ∙ pushed_held x.0 x.1, x.2)

  pub rows_apart : RowsApart (rows_of known (pushed fork known n))
  rows_apart a b h k e =
      let x = row_doc a h in
      let y = row_doc b k in
      let same : x.0 ≡ y.0 = some_same (sym x.2 ∙ ap (named fork) e ∙ y.2) in
      x.3 ∙ ap (push_row known) same ∙ sym y.3

  -- up becomes the place of the last pushed document
  pub up_is : (up : Option Place) → pushed_place fork up (rows_of known (pushed fork known n))
      ≡ last_place up (pushed fork known n)
  up_is up = pushed_place-rows fork known up (pushed fork known n) pushed_held

module _ (fork : Documents) (known : KnownStates) (up : Option Place) (by_key : AreByKey fork)
    (sound : IsSoundSide fork known up) (n : ℕ) (some : 1 ≤ n) where
  abbrev ds : List Stored
  ds = pushed fork known n

  abbrev rows : List PushRow
  rows = rows_of known (pushed fork known n)

  abbrev IsLastOf : Option Place → Type 0
  IsLastOf q = ((ds ≡ []) × (q ≡ up)) ⊎ ((d : Stored) × Member d ds × (q ≡ Some (place_of d)))

  reach_by : (q : Option Place) → IsLastOf q → Reach fork q
  reach_by q (inl is) = subst (Reach fork) (sym is.1) sound.reached
  reach_by q (inr x) =
      subst (Reach fork) (sym x.2)
      (x.0.state.key, x.0, pushed_held fork known by_key n x.0 x.1, up_to_itself (place_of x.0))

  up_reach : Reach fork (pushed_place fork up rows)
  up_reach =
      subst (Reach fork) (sym (up_is fork known by_key n up))
      (reach_by (last_place up ds) (last_place_is up ds))

  module _ (resolve : Resolve) (law : KeepsKey resolve) (cs : List State) (new : Documents)
      (w : Wrote fork (resolutions resolve cs (rows_of known (pushed fork known n))) new) where
    abbrev learnt : List State
    learnt = map (real_state cs) (rows_of known (pushed fork known n))

    abbrev known_then : KnownStates
    known_then = with_learnt known (map (real_state cs) (rows_of known (pushed fork known n)))

    abbrev Learnt : List ℕ → Type 0
    Learnt k = IsOld known known_then learnt k ⊎ IsNewState known_then learnt k

    unpushed : (k : List ℕ) (d : Stored) → named fork k ≡ Some d
        → is_up_to (place_of d) (last_place up ds) ≡ true
        → ((s : State) → Member s learnt → s.key ≢ k) → named known k ≡ Some d.state
    unpushed k d at h absent =
        let key = key_at fork k d by_key at in
        elim (is_pending known d) as (λ b. is_pending known d ≡ b → named known k ≡ Some d.state) [
          | true ↦ (λ p.
              let row : PushRow = push_row known d in
              let m = page_whole fork by_key (is_pending known) n up k d some at p h in
              absurd (absent (real_state cs row)
              (to_map (real_state cs) rows row (to_map (push_row known) ds d m))
              (real_state-key cs row ∙ key)))
          | false ↦ (λ p. ap (named known) (sym key) ∙ known_is (named known d.state.key) d.state p)
        ] refl

    pushed_new : (k : List ℕ) (d : Stored) → named fork k ≡ Some d
        → ((s : State) → Member s (resolutions resolve cs rows) → s.key ≢ k)
        → IsNewState known_then learnt k → named known_then k ≡ Some d.state
    pushed_new k d at absent x =
        let y = from_map (real_state cs) rows x.state x.member in
        let row = y.0 in
        let z = row_doc fork known by_key n row y.1 in
        let key : row.new.key ≡ k =
        sym (real_state-key cs row) ∙ ap (λ (s : State). s.key) (sym y.2) ∙ x.key in
        let is : row.new ≡ d.state =
        ap (λ (r : PushRow). r.new) z.3
        ∙ ap (λ (c : Stored). c.state) (some_same (sym z.2 ∙ ap (named fork) key ∙ at)) in
        elim (state_eq (real_state cs row) row.new)
        as (λ b. state_eq (real_state cs row) row.new ≡ b → named known_then k ≡ Some d.state) [
          | true ↦ (λ h. x.held ∙ ap Some (y.2 ∙ same_state _ _ h ∙ is))
          | false ↦ (λ h. absurd (absent (resolve (real_state cs row) row.new)
              (to_resolutions resolve cs rows row y.1 h)
              (resolution-key resolve cs rows law row ∙ key)))
        ] refl

    pushed_old : (k : List ℕ) (d : Stored) → named fork k ≡ Some d
        → is_up_to (place_of d) (last_place up ds) ≡ true
        → ((s : State) → Member s (resolutions resolve cs rows) → s.key ≢ k) → Learnt k
        → named known_then k ≡ Some d.state
    pushed_old k d at h absent (inl o) = o.same ∙ unpushed k d at h o.absent
    pushed_old k d at h absent (inr x) = pushed_new k d at absent x

    settled_by : (k : List ℕ) (d : Stored) → named new k ≡ Some d
        → is_up_to (place_of d) (pushed_place fork up rows) ≡ true
        → IsOld fork new (resolutions resolve cs rows) k
        ⊎ IsNew fork new (resolutions resolve cs rows) k → named known_then k ≡ Some d.state
    settled_by k d at h (inl o) =
        pushed_old k d (sym o.same ∙ at)
        (ap (is_up_to (place_of d)) (sym (up_is fork known by_key n up)) ∙ h) o.absent
        (learn_at known learnt k)
    settled_by k d at h (inr x) =
        absurd (true≢false (sym h
        ∙ ap (λ (z : Stored). is_up_to (place_of z) (pushed_place fork up rows))
        (some_same (sym at ∙ x.held))
        ∙ above_reached fork (pushed_place fork up rows) x.doc up_reach x.later))

    holds_by : (k : List ℕ) (s : State) → named known_then k ≡ Some s → Learnt k → Holds fork k
    holds_by k s at (inl o) = sound.holds k s (sym o.same ∙ at)
    holds_by k s at (inr x) =
        let y = from_map (real_state cs) rows x.state x.member in
        let z = row_doc fork known by_key n y.0 y.1 in (
          z.0,
          ap (named fork)
              (sym x.key ∙ ap (λ (s : State). s.key) y.2 ∙ real_state-key cs y.0) ∙ z.2,
        )

    -- the fork's side after a push, whatever the master answered
    pub push_fork_side : IsSoundSide new known_then (pushed_place fork up rows)
    push_fork_side = record {
      settled = λ k d at h. settled_by k d at h (w.at k);
      holds = λ k s at. holds_after fork (resolutions resolve cs rows) new w k
          (holds_by k s at (learn_at known learnt k));
      reached = reach_after fork (resolutions resolve cs rows) new w _ up_reach;
    }

  -- no pending document is up to a checkpoint that is sound
  above_up : (d : Stored) → Member d ds → is_up_to (place_of d) up ≡ false
  above_up d h =
      let at = pushed_held fork known by_key n d h in
      elim (is_up_to (place_of d) up) as (λ b. is_up_to (place_of d) up ≡ b → b ≡ false) [
        | true ↦ (λ l. absurd (true≢false (sym (pushed_pending fork known by_key n d h)
            ∙ ap not (is_state-itself (named known d.state.key) d.state
            (sound.settled d.state.key d at l)))))
        | false ↦ (λ l. refl)
      ] refl

  risen_by : (q : Option Place) (x : Place) → up ≡ Some x → IsLastOf q → is_up_to x q ≡ true
  risen_by q x e (inl is) =
      subst (λ (z : Option Place). is_up_to x z ≡ true) (sym e ∙ sym is.1) (up_to_itself x)
  risen_by q x e (inr y) =
      subst (λ (z : Option Place). is_up_to x z ≡ true) (sym y.2)
      (up_to_other (place_of y.0) x (ap (is_up_to (place_of y.0)) (sym e) ∙ above_up y.0 y.1))

  -- so the checkpoint doesn't fall
  pub up_risen : (x : Place) → up ≡ Some x → is_up_to x (pushed_place fork up rows) ≡ true
  up_risen x e =
      subst (λ (z : Option Place). is_up_to x z ≡ true) (sym (up_is fork known by_key n up))
      (risen_by (last_place up ds) x e (last_place_is up ds))

module _ (master : Documents) (known : KnownStates) (down : Option Place)
    (sound : IsSoundSide master known down) (rows : List PushRow) (cs : List State)
    (answered : IsPushAnswered master down rows cs) where
  abbrev learnt_here : List State
  learnt_here = map (real_state cs) rows

  abbrev known_next : KnownStates
  known_next = with_learnt known (map (real_state cs) rows)

  abbrev LearntHere : List ℕ → Type 0
  LearntHere k = IsOld known known_next learnt_here k ⊎ IsNewState known_next learnt_here k

  -- the master has the real state of a row, or a place above down
  abbrev IsThereAt : List ℕ → State → Type 0
  IsThereAt k s =
      (d : Stored) × (named master k ≡ Some d)
      × ((d.state ≡ s) ⊎ (is_up_to (place_of d) down ≡ false))

  real_there : (row : PushRow) (o : Option State) → Member row rows
      → conflict_at row.new.key cs ≡ o → IsAmong row.new.key cs o
      → IsThereAt row.new.key (real_or o row.new)
  real_there row None h e among = answered.taken row h e
  real_there row (Some t) h e among =
      let a = among.some t refl in
      subst (λ (k : List ℕ). IsThereAt k t) a.1 (answered.met t a.0)

  learnt_master : (k : List ℕ) (x : IsNewState known_next learnt_here k) → IsThereAt k x.state
  learnt_master k x =
      let y = from_map (real_state cs) rows x.state x.member in
      let key : y.0.new.key ≡ k =
      sym (real_state-key cs y.0) ∙ ap (λ (s : State). s.key) (sym y.2) ∙ x.key in
      subst (λ (k : List ℕ). IsThereAt k x.state) key
      (subst (IsThereAt y.0.new.key) (sym y.2)
      (real_there y.0 (conflict_at y.0.new.key cs) y.1 refl (conflict-among y.0.new.key cs)))

  pulled_by : (k : List ℕ) (d : Stored) → named master k ≡ Some d
      → is_up_to (place_of d) down ≡ true → LearntHere k → named known_next k ≡ Some d.state
  pulled_by k d at h (inl o) = o.same ∙ sound.settled k d at h
  pulled_by k d at h (inr x) =
      let z = learnt_master k x in
      let is : z.0 ≡ d = some_same (sym z.1 ∙ at) in
      elim z.2 [
        | inl same ↦ x.held ∙ ap Some (sym same ∙ ap (λ (c : Stored). c.state) is)
        | inr above ↦ absurd (true≢false (sym h
            ∙ ap (λ (c : Stored). is_up_to (place_of c) down) (sym is) ∙ above))
      ]

  master_by : (k : List ℕ) (s : State) → named known_next k ≡ Some s → LearntHere k
      → Holds master k
  master_by k s at (inl o) = sound.holds k s (sym o.same ∙ at)
  master_by k s at (inr x) = let z = learnt_master k x in (z.0, z.1)

  -- the master's side after a push that was answered
  pub push_master_side : IsSoundSide master known_next down
  push_master_side = record {
    settled = λ k d at h. pulled_by k d at h (learn_at known learnt_here k);
    holds = λ k s at. master_by k s at (learn_at known learnt_here k);
    reached = sound.reached;
  }

-- ---- a pull

module _ (fork : Documents) (ss : List State) where
  -- the fork doesn't hold the state
  abbrev differs : State → Bool
  differs s = not (is_state (state_at fork s.key) s)

  pub to_differences : (s : State) → Member s ss → is_state (state_at fork s.key) s ≡ false
      → Member s (differences fork ss)
  to_differences s h e = to_filter differs ss s h (ap not e)

  pub from_differences : (s : State) → Member s (differences fork ss) → Member s ss
  from_differences s h = (from_filter differs ss s h).0

module _ (fork : Documents) (known : KnownStates)
    (none : (k : List ℕ) (d : Stored) → named fork k ≡ Some d → named known k ≡ Some d.state)
    (ss : List State) (agree : Agree ss) (new : Documents)
    (w : Wrote fork (differences fork ss) new) where
  abbrev known_now : KnownStates
  known_now = with_learnt known ss

  -- a state that isn't written is held
  kept_state : (k : List ℕ) (x : IsNewState known_now ss k)
      → ((s : State) → Member s (differences fork ss) → s.key ≢ k)
      → state_at fork k ≡ Some x.state
  kept_state k x absent =
      elim (is_state (state_at fork x.state.key) x.state)
      as (λ b. is_state (state_at fork x.state.key) x.state ≡ b
      → state_at fork k ≡ Some x.state) [
        | true ↦ (λ h. ap (state_at fork) (sym x.key)
            ∙ is_state-some (state_at fork x.state.key) x.state h)
        | false ↦ (λ h. absurd (absent x.state (to_differences fork ss x.state x.member h) x.key))
      ] refl

  known_by : (k : List ℕ) (d : Stored) → named new k ≡ Some d
      → IsOld fork new (differences fork ss) k ⊎ IsNew fork new (differences fork ss) k
      → IsOld known known_now ss k ⊎ IsNewState known_now ss k
      → named known_now k ≡ Some d.state
  known_by k d at (inl o) (inl l) = l.same ∙ none k d (sym o.same ∙ at)
  known_by k d at (inl o) (inr x) =
      x.held ∙ sym (kept_state k x o.absent)
      ∙ ap (option_map (λ (d : Stored). d.state)) (sym o.same ∙ at)
  known_by k d at (inr n) (inl l) =
      absurd (l.absent n.doc.state (from_differences fork ss n.doc.state n.member) n.key)
  known_by k d at (inr n) (inr x) =
      x.held
      ∙ ap Some (agree x.state n.doc.state x.member
      (from_differences fork ss n.doc.state n.member) (x.key ∙ sym n.key))
      ∙ ap (λ (z : Stored). Some z.state) (some_same (sym n.held ∙ at))

  -- after a pull each document of the fork is known
  pub pull_known : (k : List ℕ) (d : Stored) → named new k ≡ Some d
      → named known_now k ≡ Some d.state
  pull_known k d at = known_by k d at (w.at k) (learn_at known ss k)

  module _ (up : Option Place) (sound : IsSoundSide fork known up) where
    none_held : (k : List ℕ) (o : Option State) → named fork k ≡ None → named known k ≡ o
        → o ≡ None
    none_held k None e f = refl
    none_held k (Some s) e f = not_none (sym e ∙ (sound.holds k s f).1)

    none_by : (k : List ℕ) (o : Option State) → named new k ≡ None → named known_now k ≡ o
        → IsOld fork new (differences fork ss) k ⊎ IsNew fork new (differences fork ss) k
        → IsOld known known_now ss k ⊎ IsNewState known_now ss k → None ≡ o
    none_by k o e f (inr n) l = not_none (sym e ∙ n.held)
    none_by k o e f (inl i) (inl l) =
        sym (none_held k o (sym i.same ∙ e) (sym l.same ∙ f))
    none_by k o e f (inl i) (inr x) =
        not_none (ap (option_map (λ (d : Stored). d.state)) (sym e ∙ i.same)
        ∙ kept_state k x i.absent)

    same_by : (k : List ℕ) (o : Option Stored) → named new k ≡ o
        → option_map (λ (d : Stored). d.state) o ≡ named known_now k
    same_by k None e = none_by k (named known_now k) e refl (w.at k) (learn_at known ss k)
    same_by k (Some d) e = sym (pull_known k d e)

    -- and in a sound fork what is known is what it has
    pub pull_same : (k : List ℕ) → state_at new k ≡ named known_now k
    pull_same k = same_by k (named new k) refl

    held_by : (k : List ℕ) (s : State) (o : Option Stored) → named new k ≡ o
        → option_map (λ (d : Stored). d.state) o ≡ Some s → Holds new k
    held_by k s None e f = not_none f
    held_by k s (Some d) e f = (d, e)

    -- the fork's side after a pull, whatever the master answered
    pub pull_fork_side : IsSoundSide new known_now up
    pull_fork_side = record {
      settled = λ k d at h. pull_known k d at;
      holds = λ k s at. held_by k s (named new k) refl (pull_same k ∙ at);
      reached = reach_after fork (differences fork ss) new w up sound.reached;
    }

module _ (master : Documents) (known : KnownStates) (down : Option Place)
    (sound : IsSoundSide master known down) (by_key : AreByKey master) (ss : List State)
    (to : Option Place) (page : IsPullAnswered master down ss to) (agree : Agree ss) where
  abbrev LearntOf : List ℕ → Type 0
  LearntOf k = IsOld known (with_learnt known ss) ss k ⊎ IsNewState (with_learnt known ss) ss k

  pull_master : (k : List ℕ) (x : IsNewState (with_learnt known ss) ss k)
      → (d : Stored) × (named master k ≡ Some d) × (is_up_to (place_of d) down ≡ false)
  pull_master k x =
      let y = page.held x.state x.member in (y.0, ap (named master) (sym x.key) ∙ y.1, y.2)

  low_by : (k : List ℕ) (d : Stored) → named master k ≡ Some d
      → is_up_to (place_of d) down ≡ true → LearntOf k
      → named (with_learnt known ss) k ≡ Some d.state
  low_by k d at h (inl l) = l.same ∙ sound.settled k d at h
  low_by k d at h (inr x) =
      let y = pull_master k x in
      absurd (true≢false (sym h
      ∙ ap (λ (z : Stored). is_up_to (place_of z) down) (some_same (sym at ∙ y.1)) ∙ y.2))

  high_by : (k : List ℕ) (d : Stored) → named master k ≡ Some d → Member d.state ss → LearntOf k
      → named (with_learnt known ss) k ≡ Some d.state
  high_by k d at m (inl l) = absurd (l.absent d.state m (key_at master k d by_key at))
  high_by k d at m (inr x) =
      x.held
      ∙ ap Some (agree x.state d.state x.member m (x.key ∙ sym (key_at master k d by_key at)))

  pulled_now : (k : List ℕ) (d : Stored) → named master k ≡ Some d
      → is_up_to (place_of d) to ≡ true → named (with_learnt known ss) k ≡ Some d.state
  pulled_now k d at h =
      elim (is_up_to (place_of d) down) as (λ b. is_up_to (place_of d) down ≡ b
      → named (with_learnt known ss) k ≡ Some d.state) [
        | true ↦ (λ l. low_by k d at l (learn_at known ss k))
        | false ↦ (λ l. high_by k d at (page.whole k d at l h) (learn_at known ss k))
      ] refl

  master_now : (k : List ℕ) (s : State) → named (with_learnt known ss) k ≡ Some s → LearntOf k
      → Holds master k
  master_now k s at (inl l) = sound.holds k s (sym l.same ∙ at)
  master_now k s at (inr x) = let y = pull_master k x in (y.0, y.1)

  -- the master's side after a pull that was answered
  pub pull_master_side : IsSoundSide master (with_learnt known ss) to
  pull_master_side = record {
    settled = pulled_now;
    holds = λ k s at. master_now k s at (learn_at known ss k);
    reached = page.reached;
  }

-- ---- what a current request is

asked_rows : (rs rows : List PushRow) (down : Option Place) (n : ℕ)
    → Push rows ≡ push_or_pull rs down n → rows ≡ rs
asked_rows [] rows down n e = absurd (cc)
asked_rows (r ∷ rs) rows down n e = cc

no_rows : (rs : List PushRow) (p down : Option Place) (b n : ℕ)
    → Pull p b ≡ push_or_pull rs down n → rs ≡ []
no_rows [] p down b n e = refl
no_rows (r ∷ rs) p down b n e = absurd (cc)

module _ (fork : Documents) (known : KnownStates) (down : Option Place) where
  pub current_push : (rows : List PushRow) → (c : IsCurrent fork known down (Push rows))
      → rows ≡ rows_of known (pushed fork known c.0)
  current_push rows c = asked_rows (rows_of known (pushed fork known c.0)) rows down c.0 c.2

  -- where the current request is a pull nothing is pending
  pub current_pull : (p : Option Place) (b : ℕ) → AreByKey fork
      → IsCurrent fork known down (Pull p b)
      → (k : List ℕ) (d : Stored) → named fork k ≡ Some d → is_pending known d ≡ false
  current_pull p b by_key c k d at =
      let empty : pending fork known ≡ [] =
      take_none c.0 (pending fork known) c.1
      (map_none (push_row known) (pushed fork known c.0)
      (no_rows (rows_of known (pushed fork known c.0)) p down b c.0 c.2)) in
      elim (is_pending known d) as (λ b. is_pending known d ≡ b → b ≡ false) [
        | true ↦ (λ p. absurd (subst (Member d) empty
            (to_filter (is_pending known) (placed fork) d (to_placed fork k d by_key at) p)))
        | false ↦ (λ p. refl)
      ] refl

-- what isn't pending is known
pub none_pending-known : (fork : Documents) (known : KnownStates) → AreByKey fork
    → ((k : List ℕ) (d : Stored) → named fork k ≡ Some d → is_pending known d ≡ false)
    → (k : List ℕ) (d : Stored) → named fork k ≡ Some d → named known k ≡ Some d.state
none_pending-known fork known by_key none k d at =
    ap (named known) (sym (key_at fork k d by_key at))
    ∙ known_is (named known d.state.key) d.state (none k d at)
