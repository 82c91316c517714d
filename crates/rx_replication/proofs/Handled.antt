-- A request that is handled.
use Rattle.std.proofs.Common.{◌≡◌, ◌≢◌, ℕ, ◌<◌, ◌≤◌, true, false, not, cond, List, [], ◌∷◌, map, filter, length, length-take, Option, Some, None, is_none, option_map, refl, sym, ap, ◌∙◌, ◌⊎◌, inl, inr, subst, arith, true≢false}
use Rattle.std.proofs.Math.ListN.{length-map}
use Rattle.std.proofs.lemmas.Bool.{not-false}
use Rattle.std.specs.Str.{bytes_eq}
use Rattle.rx_value.specs.Named.{named}
use Rattle.rx_value.specs.declared.state.State.{State}
use Rattle.rx_value.proofs.Bytes.{bytes_itself, bytes_same}
use Rattle.rx_value.proofs.Outcomes.{some_same, not_none, none_is}
use Rattle.rx_document.specs.Documents.{Documents}
use Rattle.rx_document.specs.declared.place.Place.{Place}
use Rattle.rx_document.specs.declared.stored.Stored.{Stored}
use Rattle.rx_collection.specs.Since.{place_of, since}
use Rattle.rx_wire.specs.declared.message.AskKind.TheVariants.{Push, Pull}
use Rattle.rx_wire.specs.declared.message.Body.TheVariants.{Conflicts, Docs}
use Rattle.rx_wire.specs.declared.message.PushRow.{PushRow}
use Rattle.rx_replication.specs.Answered.{IsPushAnswered, IsPullAnswered, IsThere}
use Rattle.rx_replication.specs.Fitting.{IsFitting, PlaceFits, last_key}
use Rattle.rx_replication.specs.Known.{KnownStates, with_learnt, is_state}
use Rattle.rx_replication.specs.Master.{conflict_with, conflict_of, conflicts, writes, last_place}
use Rattle.rx_replication.specs.Member.{Member}
use Rattle.rx_replication.specs.Sound.{IsSoundSide, Reach}
use Rattle.rx_replication.specs.Taking.{conflict_at, real_or, real_state}
use Rattle.rx_replication.specs.Write.{is_up_to, state_at, AreByKey}
use Rattle.rx_replication.proofs.Commits.{IsAmong, IsOld, IsNew, IsNewState, Wrote, learn_at, key_at}
use Rattle.rx_replication.proofs.Lists.{to_map, from_map, to_filter, from_filter, to_filter_map, from_filter_map}
use Rattle.rx_replication.proofs.Orders.{up_to_itself, up_to_other}
use Rattle.rx_replication.proofs.Pages.{page, placed, page_held, page_whole, page_few, last_place_is, stands_above, since-page}
use Rattle.rx_replication.proofs.Sides.{Holds, above_reached}

-- ---- conflicts

pub conflict_held : (o : Option Stored) (row : PushRow) (s : State) → conflict_with o row ≡ Some s
    → (d : Stored) × (o ≡ Some d) × (d.state ≡ s)
conflict_held None row s e = not_none e
conflict_held (Some d) row s e =
    elim (is_state row.assumed d.state) as (λ b. cond b None (Some d.state) ≡ Some s
    → (f : Stored) × (◌≡◌ {A = Option Stored} (Some d) (Some f)) × (f.state ≡ s))
    [ true ↦ (λ f. not_none f) | false ↦ (λ f. (d, refl, some_same f)) ] e

-- the conflict of a key is one of them, or none has the key
pub conflict-among : (k : List ℕ) (cs : List State) → IsAmong k cs (conflict_at k cs)
conflict-among k [] = record { none = λ e s m. absurd m; some = λ s e. not_none e }
conflict-among k (c ∷ cs) =
    let rest = conflict-among k cs in
    elim (bytes_eq c.key k) as (λ b. bytes_eq c.key k ≡ b
    → IsAmong k (c ∷ cs) (cond b (Some c) (conflict_at k cs))) [
      | true ↦ (λ h. record {
        none = λ e. not_none (sym e);
        some = λ s e. (
          inl (sym (some_same e)),
          ap (λ (z : State). z.key) (sym (some_same e))
              ∙ bytes_same c.key k h,
        );
      })
      | false ↦ (λ h. record {
        none = λ e s. elim [
          | inl is ↦ (λ f. true≢false (sym (bytes_itself k)
              ∙ ap (λ (z : List ℕ). bytes_eq z k) (sym f ∙ ap (λ (z : State). z.key) is) ∙ h))
          | inr m ↦ rest.none e s m
        ];
        some = λ s e. (inr (rest.some s e).0, (rest.some s e).1);
      })
    ] refl

module _ (m : Documents) (rows : List PushRow) where
  pub from_conflicts : (s : State) → Member s (conflicts m rows)
      → (row : PushRow) × Member row rows × (conflict_of m row ≡ Some s)
  from_conflicts s h = from_filter_map (conflict_of m) rows s h

  pub to_conflicts : (row : PushRow) (s : State) → Member row rows → conflict_of m row ≡ Some s
      → Member s (conflicts m rows)
  to_conflicts row s h e = to_filter_map (conflict_of m) rows row s h e

  pub from_writes : (s : State) → Member s (writes m rows)
      → (row : PushRow) × Member row rows × (s ≡ row.new) × (conflict_of m row ≡ None)
  from_writes s h =
      let x = from_map (λ (row : PushRow). row.new)
      (filter (λ row. is_none (conflict_of m row)) rows) s h in
      let y = from_filter (λ row. is_none (conflict_of m row)) rows x.0 x.1 in
      (x.0, y.0, x.2, none_is (conflict_of m x.0) y.1)

  pub to_writes : (row : PushRow) → Member row rows → conflict_of m row ≡ None
      → Member row.new (writes m rows)
  to_writes row h e =
      to_map (λ (row : PushRow). row.new) (filter (λ row. is_none (conflict_of m row)) rows) row
      (to_filter (λ row. is_none (conflict_of m row)) rows row h (ap is_none e))

-- ---- a push is answered

-- rows of one key are one row
abbrev pub RowsApart : List PushRow → Type 0
RowsApart rows =
    (a b : PushRow) → Member a rows → Member b rows → a.new.key ≡ b.new.key → a ≡ b

module _ (m : Documents) (by_key : AreByKey m) (rows : List PushRow) where
  -- a conflict has the key of its row
  pub conflict_key : (row : PushRow) (s : State) → conflict_of m row ≡ Some s → s.key ≡ row.new.key
  conflict_key row s e =
      let y = conflict_held (named m row.new.key) row s e in
      ap (λ (z : State). z.key) (sym y.2) ∙ key_at m row.new.key y.0 by_key y.1

  module _ (new : Documents) (w : Wrote m (writes m rows) new) where
    -- a row whose key stays as it was met a conflict
    old_row : {P : Type 0} (row : PushRow) (o : Option State) → Member row rows
        → IsOld m new (writes m rows) row.new.key → conflict_of m row ≡ o
        → ((s : State) → conflict_of m row ≡ Some s → P) → P
    old_row row None h old e met = absurd (old.absent row.new (to_writes m rows row h e) refl)
    old_row row (Some s) h old e met = met s e

    row_held : (row : PushRow) → Member row rows
        → IsOld m new (writes m rows) row.new.key ⊎ IsNew m new (writes m rows) row.new.key
        → Holds new row.new.key
    row_held row h (inl o) =
        old_row row (conflict_of m row) h o refl (λ s e.
        let y = conflict_held (named m row.new.key) row s e in (y.0, o.same ∙ y.1))
    row_held row h (inr n) = (n.doc, n.held)

    module _ (down : Option Place) (reach : Reach m down) where
      row_taken : (row : PushRow) → Member row rows
          → conflict_at row.new.key (conflicts m rows) ≡ None
          → IsOld m new (writes m rows) row.new.key ⊎ IsNew m new (writes m rows) row.new.key
          → IsThere new down row.new
      row_taken row h none (inl o) =
          old_row row (conflict_of m row) h o refl (λ s e.
          absurd ((conflict-among row.new.key (conflicts m rows)).none none s
          (to_conflicts m rows row s h e) (conflict_key row s e)))
      row_taken row h none (inr n) =
          (n.doc, n.held, inr (above_reached m down n.doc reach n.later))

      row_met : (row : PushRow) (c : State) → conflict_of m row ≡ Some c
          → IsOld m new (writes m rows) c.key ⊎ IsNew m new (writes m rows) c.key
          → IsThere new down c
      row_met row c e (inl o) =
          let y = conflict_held (named m row.new.key) row c e in
          (y.0, o.same ∙ ap (named m) (conflict_key row c e) ∙ y.1, inl y.2)
      row_met row c e (inr n) =
          (n.doc, n.held, inr (above_reached m down n.doc reach n.later))

      pub push_answered : IsPushAnswered new down rows (conflicts m rows)
      push_answered = record {
        held = λ row h. row_held row h (w.at row.new.key);
        taken = λ row h none. row_taken row h none (w.at row.new.key);
        met = λ c h. let x = from_conflicts m rows c h in row_met x.0 c x.2 (w.at c.key);
      }

    -- ---- what the answer tells

    module _ (apart : RowsApart rows) where
      real_by : (row : PushRow) (o c : Option State) → Member row rows → conflict_of m row ≡ c
          → IsAmong row.new.key (conflicts m rows) o → real_or o row.new ≡ real_or c row.new
      real_by row None None h e among = refl
      real_by row None (Some s) h e among =
          absurd (among.none refl s (to_conflicts m rows row s h e) (conflict_key row s e))
      real_by row (Some t) c h e among =
          let a = among.some t refl in
          let x = from_conflicts m rows t a.0 in
          let same : x.0 ≡ row = apart x.0 row x.1 h (sym (conflict_key x.0 t x.2) ∙ a.1) in
          ap (λ (o : Option State). real_or o row.new)
          (sym x.2 ∙ ap (λ (z : PushRow). conflict_of m z) same ∙ e)

      -- the real state of a row is what it met
      pub real_is : (row : PushRow) (c : Option State) → Member row rows → conflict_of m row ≡ c
          → real_state (conflicts m rows) row ≡ real_or c row.new
      real_is row c h e =
          real_by row (conflict_at row.new.key (conflicts m rows)) c h e
          (conflict-among row.new.key (conflicts m rows))

      -- a row that met a conflict leaves the master as it was
      pub met_stays : (row : PushRow) (s : State) → Member row rows → conflict_of m row ≡ Some s
          → IsOld m new (writes m rows) row.new.key ⊎ IsNew m new (writes m rows) row.new.key
          → named new row.new.key ≡ named m row.new.key
      met_stays row s h e (inl o) = o.same
      met_stays row s h e (inr n) =
          let y = from_writes m rows n.doc.state n.member in
          let same : y.0 ≡ row =
          apart y.0 row y.1 h (ap (λ (z : State). z.key) (sym y.2) ∙ n.key) in
          not_none (sym y.3 ∙ ap (λ (z : PushRow). conflict_of m z) same ∙ e)

      told_by : (row : PushRow) (c : Option State) → Member row rows → conflict_of m row ≡ c
          → IsOld m new (writes m rows) row.new.key ⊎ IsNew m new (writes m rows) row.new.key
          → state_at new row.new.key ≡ Some (real_or c row.new)
      told_by row None h e (inl o) = absurd (o.absent row.new (to_writes m rows row h e) refl)
      told_by row None h e (inr n) =
          let y = from_writes m rows n.doc.state n.member in
          let same : y.0 ≡ row =
          apart y.0 row y.1 h (ap (λ (z : State). z.key) (sym y.2) ∙ n.key) in
          ap (option_map (λ (d : Stored). d.state)) n.held
          ∙ ap Some (y.2 ∙ ap (λ (z : PushRow). z.new) same)
      told_by row (Some s) h e is =
          let y = conflict_held (named m row.new.key) row s e in
          ap (option_map (λ (d : Stored). d.state)) (met_stays row s h e is ∙ y.1) ∙ ap Some y.2

      -- the master of the reply has the real state of each row
      pub push_told : (row : PushRow) → Member row rows
          → state_at new row.new.key ≡ Some (real_state (conflicts m rows) row)
      push_told row h =
          told_by row (conflict_of m row) h refl (w.at row.new.key)
          ∙ ap Some (sym (real_is row (conflict_of m row) h refl))

  -- each conflict is of a row
  pub push_fits : IsFitting (Push rows) (Conflicts (conflicts m rows))
  push_fits c h =
      let x = from_conflicts m rows c h in (x.0, x.1, conflict_key x.0 c x.2)

-- ---- a pull is answered

-- states of one key are one state
abbrev pub Agree : List State → Type 0
Agree ss = (s t : State) → Member s ss → Member t ss → s.key ≡ t.key → s ≡ t

-- the states of documents
abbrev pub states_of : List Stored → List State
states_of = map (λ (d : Stored). d.state)

module _ (m : Documents) (p : Option Place) (n : ℕ) (by_key : AreByKey m) where
  abbrev changed : List Stored
  changed = page m (stands_above p) n

  -- a change is held, above the place
  change_held : (d : Stored) → Member d changed
      → (named m d.state.key ≡ Some d) × (is_up_to (place_of d) p ≡ false)
  change_held d h =
      let x = page_held m by_key (stands_above p) n d h in (x.0, ap not x.1)

  -- what a state of the page is at the master
  page_state : (s : State) → Member s (states_of changed)
      → (d : Stored) × (named m s.key ≡ Some d) × (is_up_to (place_of d) p ≡ false) × (s ≡ d.state)
  page_state s h =
      let x = from_map (λ (d : Stored). d.state) changed s h in
      let y = change_held x.0 x.1 in
      (x.0, ap (named m) (ap (λ (z : State). z.key) x.2) ∙ y.0, y.1, x.2)

  agrees : Agree (states_of changed)
  agrees s t a b e =
      let x = page_state s a in
      let y = page_state t b in
      x.3 ∙ ap (λ (z : Stored). z.state) (some_same (sym x.1 ∙ ap (named m) e ∙ y.1)) ∙ sym y.3

  last_fits : (d : Stored) (ds : List Stored)
      → ((e : Stored) → Member e (d ∷ ds) → is_up_to (place_of e) p ≡ false)
      → (x : Place) × (last_place (Some (place_of d)) ds ≡ Some x) × (is_up_to x p ≡ false)
      × (x.id ≡ last_key d.state (states_of ds))
  last_fits d [] h = (place_of d, refl, h d (inl refl), refl)
  last_fits d (e ∷ ds) h = last_fits e ds (λ f m. h f (inr m))

  place_fits : (ds : List Stored) → ((e : Stored) → Member e ds → is_up_to (place_of e) p ≡ false)
      → PlaceFits p (states_of ds) (last_place p ds)
  place_fits [] h = refl
  place_fits (d ∷ ds) h = last_fits d ds h

  fits : IsFitting (Pull p n) (Docs (states_of changed) (last_place p changed))
  fits = (
    omega (
      arith,
      length-map changed (λ (d : Stored). d.state),
      length-take n (filter (stands_above p) (placed m)),
    ),
    place_fits changed (λ e h. (change_held e h).1),
  )

  module _ (some : 1 ≤ n) (reach : Reach m p) where
    change_whole : (k : List ℕ) (d : Stored) → named m k ≡ Some d → is_up_to (place_of d) p ≡ false
        → is_up_to (place_of d) (last_place p changed) ≡ true → Member d changed
    change_whole k d at h l = page_whole m by_key (stands_above p) n p k d some at (not-false _ h) l

    abbrev IsLastOf : Option Place → Type 0
    IsLastOf q = (q ≡ p) ⊎ ((d : Stored) × Member d changed × (q ≡ Some (place_of d)))

    reach_by : (q : Option Place) → IsLastOf q → Reach m q
    reach_by q (inl is) = subst (Reach m) (sym is) reach
    reach_by q (inr x) =
        subst (Reach m) (sym x.2)
        (x.0.state.key, x.0, (change_held x.0 x.1).0, up_to_itself (place_of x.0))

    risen_by : (q : Option Place) (x : Place) → p ≡ Some x → IsLastOf q → is_up_to x q ≡ true
    risen_by q x e (inl is) =
        subst (λ (z : Option Place). is_up_to x z ≡ true) (sym e ∙ sym is) (up_to_itself x)
    risen_by q x e (inr y) =
        subst (λ (z : Option Place). is_up_to x z ≡ true) (sym y.2)
        (up_to_other (place_of y.0) x
        (ap (is_up_to (place_of y.0)) (sym e) ∙ (change_held y.0 y.1).1))

    last_by : (q : Option Place) (ds : List Stored)
        → ((ds ≡ []) × (q ≡ p)) ⊎ ((d : Stored) × Member d ds × (q ≡ Some (place_of d)))
        → (q ≡ p) ⊎ ((d : Stored) × Member d ds × (q ≡ Some (place_of d)))
    last_by q ds (inl x) = inl x.1
    last_by q ds (inr y) = inr y

    answered : IsPullAnswered m p (states_of changed) (last_place p changed)
    answered =
        let l = last_by (last_place p changed) changed (last_place_is p changed) in
        record {
          held = λ s h. let x = page_state s h in (x.0, x.1, x.2);
          whole = λ k d at a b.
              to_map (λ (d : Stored). d.state) changed d (change_whole k d at a b);
          reached = reach_by (last_place p changed) l;
          risen = λ x e. risen_by (last_place p changed) x e l;
        }

    module _ (known : KnownStates) (sound : IsSoundSide m known p) (few : length changed < n) where
      unheld : (k : List ℕ) (o : Option State) → named m k ≡ None → named known k ≡ o → o ≡ None
      unheld k None e f = refl
      unheld k (Some s) e f = not_none (sym e ∙ (sound.holds k s f).1)

      old_state : (k : List ℕ) (o : Option Stored)
          → ((s : State) → Member s (states_of changed) → s.key ≢ k) → named m k ≡ o
          → named known k ≡ option_map (λ (d : Stored). d.state) o
      old_state k None absent e = unheld k (named known k) e refl
      old_state k (Some d) absent e =
          elim (is_up_to (place_of d) p) as (λ b. is_up_to (place_of d) p ≡ b
          → named known k ≡ Some d.state) [
            | true ↦ (λ h. sound.settled k d e h)
            | false ↦ (λ h. absurd (absent d.state
                (to_map (λ (d : Stored). d.state) changed d
                (page_few m by_key (stands_above p) n k d few e (not-false _ h)))
                (key_at m k d by_key e)))
          ] refl

      quiet_by : (k : List ℕ)
          → IsOld known (with_learnt known (states_of changed)) (states_of changed) k
          ⊎ IsNewState (with_learnt known (states_of changed)) (states_of changed) k
          → named (with_learnt known (states_of changed)) k ≡ state_at m k
      quiet_by k (inl o) = o.same ∙ old_state k (named m k) o.absent refl
      quiet_by k (inr x) =
          let y = page_state x.state x.member in
          x.held ∙ ap Some y.3
          ∙ sym (ap (option_map (λ (d : Stored). d.state)) (ap (named m) (sym x.key) ∙ y.1))

      -- after a short page the known states are the master's
      quiet : (k : List ℕ) → named (with_learnt known (states_of changed)) k ≡ state_at m k
      quiet k = quiet_by k (learn_at known (states_of changed) k)

-- the same of the changes since a place
module _ (m : Documents) (p : Option Place) (n : ℕ) (by_key : AreByKey m) where
  same_page : page m (stands_above p) n ≡ since m p n
  same_page = sym (since-page m by_key p n)

  pub pull_fits : IsFitting (Pull p n) (Docs (states_of (since m p n)) (last_place p (since m p n)))
  pull_fits =
      subst (λ (ds : List Stored). IsFitting (Pull p n) (Docs (states_of ds) (last_place p ds)))
      same_page (fits m p n by_key)

  pub pull_agrees : Agree (states_of (since m p n))
  pull_agrees = subst (λ (ds : List Stored). Agree (states_of ds)) same_page (agrees m p n by_key)

  module _ (some : 1 ≤ n) (reach : Reach m p) where
    pub pull_answered : IsPullAnswered m p (states_of (since m p n)) (last_place p (since m p n))
    pull_answered =
        subst (λ (ds : List Stored). IsPullAnswered m p (states_of ds) (last_place p ds)) same_page
        (answered m p n by_key some reach)

    pub pull_quiet : (known : KnownStates) → IsSoundSide m known p → length (since m p n) < n
        → (k : List ℕ) → named (with_learnt known (states_of (since m p n))) k ≡ state_at m k
    pull_quiet known sound few k =
        subst (λ (ds : List Stored). length ds < n
        → named (with_learnt known (states_of ds)) k ≡ state_at m k) same_page
        (λ few. quiet m p n by_key some reach known sound few k) few
