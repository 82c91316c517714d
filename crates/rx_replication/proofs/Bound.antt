-- How many exchanges are enough.
use Rattle.std.proofs.Common.{◌≡◌, ℕ, zero, suc, ◌+◌, ◌*◌, ◌<◌, ◌≤◌, ◌==◌, Bool, true, false, cond, not, List, [], ◌∷◌, map, filter, take, length, Option, Some, None, refl, sym, ap, ◌∙◌, ◌⊎◌, inl, inr, subst, subst₂, arith, true≢false, eqb-true, Ordering, Less, Equal, Greater, is_lt, length-take}
use Rattle.std.proofs.lemmas.Bool.{cases_lt, not-false}
use Rattle.std.specs.FinMap.Entries.{put, by_order}
use Rattle.std.specs.List.{sum_by}
use Rattle.std.specs.Map.{keys_of, values_of}
use Rattle.std.specs.Ordering.{ordering_reverse}
use Rattle.rx_value.specs.Named.{named}
use Rattle.rx_value.specs.declared.state.State.{State}
use Rattle.rx_value.proofs.Lists.{map_none}
use Rattle.rx_value.proofs.Outcomes.{some_same, not_none}
use Rattle.rx_document.specs.Documents.{Documents}
use Rattle.rx_document.specs.Place.{place_cmp, place_total}
use Rattle.rx_document.specs.declared.place.Place.{Place}
use Rattle.rx_document.specs.declared.stored.Stored.{Stored}
use Rattle.rx_collection.specs.Held.{Held}
use Rattle.rx_collection.specs.Since.{place_of, by_place, since}
use Rattle.rx_wire.specs.declared.message.AskKind.TheVariants.{Push}
use Rattle.rx_wire.specs.declared.message.PushRow.{PushRow}
use Rattle.rx_replication.specs.Exchange.{Link, Exchange, IsLink, IsQuiet, exchange_over_link, link_with, answered_by, HaveBatches, GoOn, pushes_of}
use Rattle.rx_replication.specs.Known.{KnownStates, with_learnt, is_state, is_pending, pending}
use Rattle.rx_replication.specs.Left.{behind, left_in, key_count, LowersPushesLeft, PushesAtMostTwice, IsQuietInTime, QuietIsEqual}
use Rattle.rx_replication.specs.Master.{conflicts, writes, last_place, master_then}
use Rattle.rx_replication.specs.Member.{Member}
use Rattle.rx_replication.specs.Request.{push_row, push_or_pull}
use Rattle.rx_replication.specs.Sound.{IsSound}
use Rattle.rx_replication.specs.Taking.{Resolve, KeepsKey, Taking, real_state, resolutions, pushed_place, differences}
use Rattle.rx_replication.specs.Write.{write, state_at, AreByKey}
use Rattle.rx_replication.proofs.Commits.{Wrote, write_wrote, key_at}
use Rattle.rx_replication.proofs.Handled.{states_of, from_writes, pull_agrees, pull_quiet}
use Rattle.rx_replication.proofs.Keys.{key_among, keys-write, count-write, lacking}
use Rattle.rx_replication.proofs.Lists.{to_filter, from_filter, length-filter, take_none}
use Rattle.rx_replication.proofs.Orders.{is_state-itself, above_lower, not_below_itself}
use Rattle.rx_replication.proofs.Pages.{Rise, placed, to_placed, rise-placed, from_placed, stands_above, since-page}
use Rattle.rx_replication.proofs.Sides.{Holds}
use Rattle.rx_replication.proofs.Sums.{sum-times}
use Rattle.rx_replication.proofs.Taken.{pushed, rows_of, row_doc, from_resolutions, resolution-key, none_pending-known, known_is, pull_same, pull_known}
use Rattle.rx_replication.proofs.Weights.{weight, weight_at, weight-le, weight_some, behind-le, hits, hits-weight, falls, falls_by_pushed}

-- ---- the documents above a place

abbrev pub listing : Documents → Option Place → List Stored
listing documents p = filter (stands_above p) (placed documents)

filter-all : (test : Stored → Bool) (ds : List Stored)
    → ((d : Stored) → Member d ds → test d ≡ true) → filter test ds ≡ ds
filter-all test [] all = refl
filter-all test (d ∷ ds) all =
    ap (λ b. cond b (d ∷ filter test ds) (filter test ds)) (all d (inl refl))
    ∙ ap (λ r. d ∷ r) (filter-all test ds (λ e m. all e (inr m)))

heads : (d x : Stored) (ds es : List Stored) → d ∷ ds ≡ x ∷ es → d ≡ x
heads d x ds es e = cc

tails : (d x : Stored) (ds es : List Stored) → d ∷ ds ≡ x ∷ es → ds ≡ es
tails d x ds es e = cc

-- above the first of them are the others
after_first : (p : Option Place) (ds : List Stored) (x : Stored) (es : List Stored) → Rise ds
    → filter (stands_above p) ds ≡ x ∷ es → filter (stands_above (Some (place_of x))) ds ≡ es
after_first p [] x es rise is = absurd (cc)
after_first p (d ∷ ds) x es rise is =
    elim (stands_above p d) as (λ b. stands_above p d ≡ b
    → cond b (d ∷ filter (stands_above p) ds) (filter (stands_above p) ds) ≡ x ∷ es
    → filter (stands_above (Some (place_of x))) (d ∷ ds) ≡ es) [
      | true ↦ (λ h is.
          let same : d ≡ x = heads d x (filter (stands_above p) ds) es is in
          let rest : filter (stands_above p) ds ≡ es =
          tails d x (filter (stands_above p) ds) es is in
          let here : stands_above (Some (place_of x)) d ≡ false =
          subst (λ (z : Stored). stands_above (Some (place_of z)) d ≡ false) same
          (not_above_itself (place_of d)) in
          let above : filter (stands_above (Some (place_of x))) ds ≡ ds =
          filter-all (stands_above (Some (place_of x))) ds (λ e m.
          subst (λ (z : Stored). stands_above (Some (place_of z)) e ≡ true) same
          (ap is_lt (rise.0 e m))) in
          let all : filter (stands_above p) ds ≡ ds =
          filter-all (stands_above p) ds (λ e m.
          not-false _ (above_lower p (place_of d) (place_of e) (ap not h) (rise.0 e m))) in
          ap (λ b. cond b (d ∷ filter (stands_above (Some (place_of x))) ds)
          (filter (stands_above (Some (place_of x))) ds)) here
          ∙ above ∙ sym all ∙ rest)
      | false ↦ (λ h is.
          let first = subst (Member x) (sym is) (inl refl) in
          let among = (from_filter (stands_above p) ds x first).0 in
          let here : stands_above (Some (place_of x)) d ≡ false =
          ap is_lt (place_total.antisymm (place_of x) (place_of d)
          ∙ ap ordering_reverse (rise.0 x among)) in
          ap (λ b. cond b (d ∷ filter (stands_above (Some (place_of x))) ds)
          (filter (stands_above (Some (place_of x))) ds)) here
          ∙ after_first p ds x es rise.1 is)
    ] refl is
  where
    not_above_itself : (p : Place) → is_lt (place_cmp p p) ≡ false
    not_above_itself p =
        elim (is_lt (place_cmp p p)) as (λ b. is_lt (place_cmp p p) ≡ b → b ≡ false) [
          | true ↦ (λ h. absurd (not_below_itself p (less _ h)))
          | false ↦ (λ h. refl)
        ] refl
      where
        less : (r : Ordering) → is_lt r ≡ true → r ≡ Less
        less Less h = refl
        less Equal h = absurd (true≢false (sym h))
        less Greater h = absurd (true≢false (sym h))

lowers_by : (documents : Documents) → AreByKey documents → (n : ℕ) (p : Option Place)
    (es : List Stored) → listing documents p ≡ es
    → length (listing documents (last_place p (take n es))) + length (take n es) ≤ length es
lowers_by documents by_key zero p es is = omega (arith, ap length is)
lowers_by documents by_key (suc n) p [] is = omega (arith, ap length is)
lowers_by documents by_key (suc n) p (e ∷ es) is =
    let next = lowers_by documents by_key n (Some (place_of e)) es
    (after_first p (placed documents) e es (rise-placed documents by_key) is) in
    omega arith

-- a page leaves fewer documents above its last place, by as many as it has
pub pull_lowers : (documents : Documents) → AreByKey documents → (p : Option Place) (n : ℕ)
    → length (listing documents (last_place p (since documents p n)))
    + length (since documents p n) ≤ length (listing documents p)
pull_lowers documents by_key p n =
    subst (λ (ds : List Stored). length (listing documents (last_place p ds)) + length ds
    ≤ length (listing documents p)) (sym (since-page documents by_key p n))
    (lowers_by documents by_key n p (listing documents p) refl)

length-placed : (es : Documents) → length (placed es) ≤ length es
length-placed [] = omega arith
length-placed (e ∷ es) =
    omega (arith, length-placed es, length_put (place_of e.1) e.1 (by_place es))
  where
    length_put : (p : Place) (d : Stored) (es : List (Place × Stored))
        → length (values_of (put place_cmp p d es)) ≤ suc (length (values_of es))
    length_put p d [] = omega arith
    length_put p d (e ∷ es) =
        let rest = length_put p d es in
        elim (place_cmp p e.0) as (λ r.
        length (values_of (by_order r ((p, d) ∷ e ∷ es) ((e.0, d) ∷ es) (e ∷ put place_cmp p d es)))
        ≤ suc (suc (length (values_of es))))
        [ Less ↦ omega arith | Equal ↦ omega arith | Greater ↦ omega arith ]

pub listing-le : (documents : Documents) (p : Option Place)
    → length (listing documents p) ≤ length documents
listing-le documents p =
    omega (arith, length-filter (stands_above p) (placed documents), length-placed documents)

-- ---- what an exchange is

-- a push, handled and taken
pub record IsPushTo (resolve : Resolve) (l : Link) (x : Exchange) (next : Link) : Type 0 where
  pub some : 1 ≤ length (pushed l.fork.documents l.known x.batch)
  pub fork : Held
  pub master : Held
  pub handled : write l.master (writes l.master.documents (rows_of l.known
      (pushed l.fork.documents l.known x.batch))) x.handled ≡ Some master
  pub taken : write l.fork (resolutions resolve (conflicts l.master.documents (rows_of l.known
      (pushed l.fork.documents l.known x.batch))) (rows_of l.known
      (pushed l.fork.documents l.known x.batch))) x.taken ≡ Some fork
  pub is : next ≡ record {
    fork = fork;
    master = master;
    known = with_learnt l.known (map (real_state (conflicts l.master.documents (rows_of l.known
        (pushed l.fork.documents l.known x.batch)))) (rows_of l.known
        (pushed l.fork.documents l.known x.batch)));
    up = pushed_place l.fork.documents l.up (rows_of l.known
        (pushed l.fork.documents l.known x.batch));
    down = l.down;
  }

-- a pull, handled and taken
pub record IsPullTo (l : Link) (x : Exchange) (next : Link) : Type 0 where
  pub none : pushed l.fork.documents l.known x.batch ≡ []
  pub fork : Held
  pub taken : write l.fork (differences l.fork.documents
      (states_of (since l.master.documents l.down x.batch))) x.taken ≡ Some fork
  pub is : next ≡ record {
    fork = fork;
    master = l.master;
    known = with_learnt l.known (states_of (since l.master.documents l.down x.batch));
    up = l.up;
    down = last_place l.down (since l.master.documents l.down x.batch);
  }

module _ (resolve : Resolve) (l : Link) (x : Exchange) (next : Link) where
  taken_is : (master : Held) (t : Taking) (o : Option Held) → link_with l master t o ≡ Some next
      → (fork : Held) × (o ≡ Some fork) × (next ≡ record {
        fork = fork;
        master = master;
        known = with_learnt l.known t.known;
        up = t.up;
        down = t.down;
      })
  taken_is master t None e = not_none e
  taken_is master t (Some fork) e = (fork, refl, sym (some_same e))

  handled_is : (rows : List PushRow) (o : Option Held)
      → answered_by resolve l (Push rows) o x.taken ≡ Some next
      → (master : Held) × (o ≡ Some master)
      × (answered_by resolve l (Push rows) (Some master) x.taken ≡ Some next)
  handled_is rows None e = not_none e
  handled_is rows (Some master) e = (master, refl, e)

  length_rows : (r : PushRow) (rs : List PushRow) (ds : List Stored)
      → rows_of l.known ds ≡ r ∷ rs → 1 ≤ length ds
  length_rows r rs [] e = absurd (cc)
  length_rows r rs (d ∷ ds) e = omega arith

  is_by : (rows : List PushRow) → rows_of l.known (pushed l.fork.documents l.known x.batch) ≡ rows
      → answered_by resolve l (push_or_pull rows l.down x.batch)
      (master_then l.master (push_or_pull rows l.down x.batch) x.handled) x.taken ≡ Some next
      → IsPushTo resolve l x next ⊎ IsPullTo l x next
  is_by [] are e =
      let t = taken_is l.master (record {
        rows = differences l.fork.documents (states_of (since l.master.documents l.down x.batch));
        known = states_of (since l.master.documents l.down x.batch);
        up = l.up;
        down = last_place l.down (since l.master.documents l.down x.batch);
      }) (write l.fork (differences l.fork.documents
      (states_of (since l.master.documents l.down x.batch))) x.taken) e in
      inr (record {
        none = map_none (push_row l.known) (pushed l.fork.documents l.known x.batch) are;
        fork = t.0;
        taken = t.1;
        is = t.2;
      })
  is_by (r ∷ rs) are e =
      let h = handled_is (r ∷ rs)
      (write l.master (writes l.master.documents (r ∷ rs)) x.handled) e in
      let t = taken_is h.0 (record {
        rows = resolutions resolve (conflicts l.master.documents (r ∷ rs)) (r ∷ rs);
        known = map (real_state (conflicts l.master.documents (r ∷ rs))) (r ∷ rs);
        up = pushed_place l.fork.documents l.up (r ∷ rs);
        down = l.down;
      }) (write l.fork (resolutions resolve (conflicts l.master.documents (r ∷ rs)) (r ∷ rs))
      x.taken) h.2 in
      inl (record {
        some = length_rows r rs (pushed l.fork.documents l.known x.batch) are;
        fork = t.0;
        master = h.0;
        handled = subst (λ (rows : List PushRow).
            write l.master (writes l.master.documents rows) x.handled ≡ Some h.0) (sym are) h.1;
        taken = subst (λ (rows : List PushRow).
            write l.fork (resolutions resolve (conflicts l.master.documents rows) rows) x.taken
            ≡ Some t.0) (sym are) t.1;
        is = subst (λ (rows : List PushRow). next ≡ record {
          fork = t.0;
          master = h.0;
          known = with_learnt l.known (map (real_state (conflicts l.master.documents rows)) rows);
          up = pushed_place l.fork.documents l.up rows;
          down = l.down;
        }) (sym are) t.2;
      })

  -- an exchange is a push or a pull
  pub exchange_is : exchange_over_link resolve l x ≡ Some next
      → IsPushTo resolve l x next ⊎ IsPullTo l x next
  exchange_is e =
      is_by (rows_of l.known (pushed l.fork.documents l.known x.batch)) refl e

-- ---- a push

module _ (resolve : Resolve) (law : KeepsKey resolve) (l : Link) (keys : IsLink l) (x : Exchange)
    (next : Link) (push : IsPushTo resolve l x next) where
  abbrev rows : List PushRow
  rows = rows_of l.known (pushed l.fork.documents l.known x.batch)

  abbrev cs : List State
  cs = conflicts l.master.documents rows

  wrote_fork : Wrote l.fork.documents (resolutions resolve cs rows) push.fork.documents
  wrote_fork = write_wrote l.fork (resolutions resolve cs rows) x.taken push.fork push.taken

  wrote_master : Wrote l.master.documents (writes l.master.documents rows) push.master.documents
  wrote_master =
      write_wrote l.master (writes l.master.documents rows) x.handled push.master push.handled

  push_link : IsLink next
  push_link =
      subst IsLink (sym push.is) (record {
        fork = wrote_fork.by_key keys.fork;
        master = wrote_master.by_key keys.master;
      })

  row_key : (row : PushRow) → Member row rows → Holds l.fork.documents row.new.key
  row_key row h =
      let y = row_doc l.fork.documents l.known keys.fork x.batch row h in (y.0, y.2)

  same_keys : keys_of push.fork.documents ≡ keys_of l.fork.documents
  same_keys =
      keys-write l.fork (resolutions resolve cs rows) x.taken push.fork keys.fork.rising
      (λ s h.
      let y = from_resolutions resolve cs rows s h in
      subst (Holds l.fork.documents)
      (sym (ap (λ (z : State). z.key) y.2 ∙ resolution-key resolve cs rows law y.0))
      (row_key y.0 y.1))
      push.taken

  push_lowers : left_in next + length (pushed l.fork.documents l.known x.batch) ≤ left_in l
  push_lowers =
      subst (λ (n : Link). left_in n + length (pushed l.fork.documents l.known x.batch) ≤ left_in l)
      (sym push.is)
      (falls_by_pushed l.fork.documents l.master.documents l.known keys.fork keys.master x.batch
      resolve law push.fork.documents push.master.documents wrote_fork wrote_master same_keys)

  push_lowers_each : (k : List ℕ)
      → weight_at next.fork.documents next.known next.master.documents k
      + hits k (pushed l.fork.documents l.known x.batch)
      ≤ weight_at l.fork.documents l.known l.master.documents k
  push_lowers_each k =
      subst (λ (n : Link). weight_at n.fork.documents n.known n.master.documents k
      + hits k (pushed l.fork.documents l.known x.batch)
      ≤ weight_at l.fork.documents l.known l.master.documents k) (sym push.is)
      (falls l.fork.documents l.master.documents l.known keys.fork keys.master x.batch resolve law
      push.fork.documents push.master.documents wrote_fork wrote_master k)

  -- the keys don't become more
  push_keys : key_count next.fork.documents next.master.documents
      ≤ key_count l.fork.documents l.master.documents
  push_keys =
      subst (λ (n : Link). key_count n.fork.documents n.master.documents
      ≤ key_count l.fork.documents l.master.documents) (sym push.is)
      (subst (λ (ks : List (List ℕ)). length push.master.documents
      + length (lacking push.master.documents ks)
      ≤ length l.master.documents + length (lacking l.master.documents (keys_of l.fork.documents)))
      (sym same_keys)
      (count-write l.master (writes l.master.documents rows) x.handled push.master
      (keys_of l.fork.documents) keys.master.rising
      (λ s h.
      let y = from_writes l.master.documents rows s h in
      let k = row_key y.0 y.1 in
      subst (λ (k : List ℕ). Member k (keys_of l.fork.documents))
      (sym (ap (λ (z : State). z.key) y.2))
      (key_among l.fork.documents y.0.new.key k.0 k.1))
      push.handled))

-- ---- a pull

no_member : (ds : List Stored) → ((d : Stored) → Member d ds → ⊥) → ds ≡ []
no_member [] none = refl
no_member (d ∷ ds) none = absurd (none d (inl refl))

none_pending : (fork : Documents) (known : KnownStates) → AreByKey fork
    → ((k : List ℕ) (d : Stored) → named fork k ≡ Some d → is_pending known d ≡ false)
    → pending fork known ≡ []
none_pending fork known by_key none =
    no_member (pending fork known) (λ d m.
    let passed = from_filter (is_pending known) (placed fork) d m in
    true≢false (sym passed.1 ∙ none d.state.key d (from_placed fork d by_key passed.0)))

not_pending : (fork : Documents) (known : KnownStates) → AreByKey fork → pending fork known ≡ []
    → (k : List ℕ) (d : Stored) → named fork k ≡ Some d → is_pending known d ≡ false
not_pending fork known by_key empty k d at =
    elim (is_pending known d) as (λ b. is_pending known d ≡ b → b ≡ false) [
      | true ↦ (λ p. absurd (subst (Member d) empty
          (to_filter (is_pending known) (placed fork) d (to_placed fork k d by_key at) p)))
      | false ↦ (λ p. refl)
    ] refl

module _ (l : Link) (keys : IsLink l) (x : Exchange) (some : 1 ≤ x.batch) (next : Link)
    (pull : IsPullTo l x next) where
  abbrev ss : List State
  ss = states_of (since l.master.documents l.down x.batch)

  wrote_pull : Wrote l.fork.documents (differences l.fork.documents ss) pull.fork.documents
  wrote_pull = write_wrote l.fork (differences l.fork.documents ss) x.taken pull.fork pull.taken

  pull_link : IsLink next
  pull_link =
      subst IsLink (sym pull.is)
      (record { fork = wrote_pull.by_key keys.fork; master = keys.master })

  pull_none : pending l.fork.documents l.known ≡ []
  pull_none = take_none x.batch (pending l.fork.documents l.known) some pull.none

  all_known : (k : List ℕ) (d : Stored) → named l.fork.documents k ≡ Some d
      → named l.known k ≡ Some d.state
  all_known =
      none_pending-known l.fork.documents l.known keys.fork
      (not_pending l.fork.documents l.known keys.fork pull_none)

  -- a pull leaves nothing pending
  none_then : pending next.fork.documents next.known ≡ []
  none_then =
      subst (λ (n : Link). pending n.fork.documents n.known ≡ []) (sym pull.is)
      (none_pending pull.fork.documents (with_learnt l.known ss) (wrote_pull.by_key keys.fork)
      (λ k d at. ap not (is_state-itself (named (with_learnt l.known ss) d.state.key) d.state
      (ap (named (with_learnt l.known ss))
      (key_at pull.fork.documents k d (wrote_pull.by_key keys.fork) at)
      ∙ pull_known l.fork.documents l.known all_known ss
      (pull_agrees l.master.documents l.down x.batch keys.master) pull.fork.documents wrote_pull k
      d at))))

  -- so no push is left, before it and after
  left_before : left_in l ≡ 0
  left_before =
      ap (sum_by (λ (d : Stored). behind (named l.known d.state.key)
      (named l.master.documents d.state.key))) pull_none

  left_after : left_in next ≡ 0
  left_after =
      ap (sum_by (λ (d : Stored). behind (named next.known d.state.key)
      (named next.master.documents d.state.key))) none_then

  -- and the documents above down are fewer by those that came
  pull_fewer : length (listing next.master.documents next.down)
      + length (since l.master.documents l.down x.batch)
      ≤ length (listing l.master.documents l.down)
  pull_fewer =
      subst (λ (n : Link). length (listing n.master.documents n.down)
      + length (since l.master.documents l.down x.batch)
      ≤ length (listing l.master.documents l.down)) (sym pull.is)
      (pull_lowers l.master.documents keys.master l.down x.batch)

  weightless : (k : List ℕ)
      → weight_at next.fork.documents next.known next.master.documents k ≡ 0
  weightless k =
      weight_zero (named next.fork.documents k) (named next.known k)
      (named next.master.documents k)
      (λ d at. ap (named next.known) (sym (key_at next.fork.documents k d pull_link.fork at))
      ∙ known_is (named next.known d.state.key) d.state
      (not_pending next.fork.documents next.known pull_link.fork none_then k d at))
    where
      weight_zero : (o : Option Stored) (known : Option State) (m : Option Stored)
          → ((d : Stored) → o ≡ Some d → known ≡ Some d.state) → weight o known m ≡ 0
      weight_zero None known m h = refl
      weight_zero (Some d) known m h =
          ap (λ b. cond b 0 (behind known m)) (is_state-itself known d.state (h d refl))

  -- the last of them makes the fork's documents the master's
  pull_equal : IsSound l.fork.documents l.master.documents l.known l.up l.down
      → length (since l.master.documents l.down x.batch) < x.batch → (k : List ℕ)
      → state_at next.fork.documents k ≡ state_at next.master.documents k
  pull_equal sound few k =
      subst (λ (n : Link). state_at n.fork.documents k ≡ state_at n.master.documents k)
      (sym pull.is)
      (pull_same l.fork.documents l.known all_known ss
      (pull_agrees l.master.documents l.down x.batch keys.master) pull.fork.documents wrote_pull
      l.up sound.fork_side k
      ∙ pull_quiet l.master.documents l.down x.batch keys.master some sound.master_side.reached
      l.known sound.master_side few k)

-- ---- the measure of exchanges

-- while a push is left: the pushes left, and then a pull for each key at most; else a pull for each
-- document above down at most; and the quiet one
pub to_do : Link → ℕ
to_do l =
    cond (left_in l == 0) (length (listing l.master.documents l.down) + 1)
    (left_in l + key_count l.fork.documents l.master.documents + 1)

to_do_by : (l l' a a' k k' r : ℕ) (b b' : Bool) → (l == 0) ≡ b → (l' == 0) ≡ b' → l' + r ≤ l
    → 1 ≤ r → k' ≤ k → a' ≤ k'
    → cond b' (a' + 1) (l' + k' + 1) + 1 ≤ cond b (a + 1) (l + k + 1)
to_do_by l l' a a' k k' r true b' e e' lower some same low =
    let z : l ≡ 0 = eqb-true l 0 e in absurd (omega arith)
to_do_by l l' a a' k k' r false true e e' lower some same low = omega arith
to_do_by l l' a a' k k' r false false e e' lower some same low = omega arith

pull_by : (a a' r l l' k k' : ℕ) → l ≡ 0 → l' ≡ 0 → a' + r ≤ a → 1 ≤ r
    → cond (l' == 0) (a' + 1) (l' + k' + 1) + 1 ≤ cond (l == 0) (a + 1) (l + k + 1)
pull_by a a' r l l' k k' z z' lower some =
    subst₂ (λ (x y : ℕ). cond (y == 0) (a' + 1) (y + k' + 1) + 1
    ≤ cond (x == 0) (a + 1) (x + k + 1)) (sym z) (sym z') (omega arith)

some_by : (l a k : ℕ) (b : Bool) → 1 ≤ cond b (a + 1) (l + k + 1)
some_by l a k true = omega arith
some_by l a k false = omega arith

at_most_by : (l a k n : ℕ) (b : Bool) → l ≤ n → a ≤ k → cond b (a + 1) (l + k + 1) ≤ n + k + 1
at_most_by l a k n true h g = omega arith
at_most_by l a k n false h g = omega arith

pub to_do_some : (l : Link) → 1 ≤ to_do l
unfolding to_do
to_do_some l =
    some_by (left_in l) (length (listing l.master.documents l.down))
    (key_count l.fork.documents l.master.documents) (left_in l == 0)

-- it is no more than two for each pending document, one for each key, and one
pub to_do-le : (l : Link) → to_do l
    ≤ 2 * length (pending l.fork.documents l.known)
    + key_count l.fork.documents l.master.documents + 1
unfolding to_do
to_do-le l =
    at_most_by (left_in l) (length (listing l.master.documents l.down))
    (key_count l.fork.documents l.master.documents)
    (2 * length (pending l.fork.documents l.known)) (left_in l == 0)
    (sum-times (λ (d : Stored). behind (named l.known d.state.key)
    (named l.master.documents d.state.key)) 2 (pending l.fork.documents l.known)
    (λ d. behind-le (named l.known d.state.key) (named l.master.documents d.state.key)))
    (omega (arith, listing-le l.master.documents l.down))

module _ (resolve : Resolve) (law : KeepsKey resolve) (l : Link) (keys : IsLink l) (x : Exchange)
    (some : 1 ≤ x.batch) (next : Link) where
  link_by : IsPushTo resolve l x next ⊎ IsPullTo l x next → IsLink next
  link_by (inl push) = push_link resolve law l keys x next push
  link_by (inr pull) = pull_link l keys x some next pull

  lowers_pushes : IsPushTo resolve l x next ⊎ IsPullTo l x next
      → left_in next + length (pushed l.fork.documents l.known x.batch) ≤ left_in l
  lowers_pushes (inl push) = push_lowers resolve law l keys x next push
  lowers_pushes (inr pull) =
      omega (
        arith,
        left_before l keys x some next pull,
        left_after l keys x some next pull,
        ap (λ (ds : List Stored). length ds) pull.none,
      )

  lowers_each : (k : List ℕ) → IsPushTo resolve l x next ⊎ IsPullTo l x next
      → weight_at next.fork.documents next.known next.master.documents k
      + hits k (pushed l.fork.documents l.known x.batch)
      ≤ weight_at l.fork.documents l.known l.master.documents k
  lowers_each k (inl push) = push_lowers_each resolve law l keys x next push k
  lowers_each k (inr pull) =
      omega (
        arith,
        weightless l keys x some next pull k,
        ap (λ (ds : List Stored). hits k ds) pull.none,
      )

  goes_on : (IsQuiet l x.batch → ⊥) → IsPushTo resolve l x next ⊎ IsPullTo l x next
      → to_do next + 1 ≤ to_do l
  unfolding to_do
  goes_on loud (inl push) =
      to_do_by (left_in l) (left_in next) (length (listing l.master.documents l.down))
      (length (listing next.master.documents next.down))
      (key_count l.fork.documents l.master.documents)
      (key_count next.fork.documents next.master.documents)
      (length (pushed l.fork.documents l.known x.batch)) (left_in l == 0) (left_in next == 0) refl
      refl (push_lowers resolve law l keys x next push) push.some
      (push_keys resolve law l keys x next push)
      (omega (arith, listing-le next.master.documents next.down))
  goes_on loud (inr pull) =
      let none = pull_none l keys x some next pull in
      pull_by (length (listing l.master.documents l.down))
      (length (listing next.master.documents next.down))
      (length (since l.master.documents l.down x.batch)) (left_in l) (left_in next)
      (key_count l.fork.documents l.master.documents)
      (key_count next.fork.documents next.master.documents)
      (left_before l keys x some next pull) (left_after l keys x some next pull)
      (pull_fewer l keys x some next pull)
      (elim (cases_lt (length (since l.master.documents l.down x.batch)) x.batch) [
        | inl few ↦ absurd (loud (record { settled = none; few = few }))
        | inr full ↦ omega arith
      ])

-- ---- the laws

pub lowers : (resolve : Resolve) → KeepsKey resolve → (l : Link) → IsLink l
    → LowersPushesLeft resolve l
lowers resolve law l keys x some next e =
    lowers_pushes resolve law l keys x some next (exchange_is resolve l x next e)

module _ (resolve : Resolve) (law : KeepsKey resolve) (k : List ℕ) where
  -- what is left at the key, where there is a link
  left_at : Option Link → ℕ
  left_at None = 0
  left_at (Some l) = weight_at l.fork.documents l.known l.master.documents k

  abbrev AreLink : Option Link → Type 0
  AreLink o = (l : Link) → o ≡ Some l → IsLink l

  first_by : (l : Link) (x : Exchange) (o : Option Link) (n : ℕ) → IsLink l → 1 ≤ x.batch
      → exchange_over_link resolve l x ≡ o → n ≤ left_at o
      → hits k (pushed l.fork.documents l.known x.batch) + n
      ≤ weight_at l.fork.documents l.known l.master.documents k
  unfolding left_at
  first_by l x None n keys some e h =
      omega (
        arith,
        hits-weight l.fork.documents l.master.documents l.known keys.fork keys.master
            x.batch k,
      )
  first_by l x (Some next) n keys some e h =
      omega (arith, lowers_each resolve law l keys x some next k (exchange_is resolve l x next e))

  -- the key is pushed no more often than is left at it
  pushes-le : (o : Option Link) (xs : List Exchange) → AreLink o → HaveBatches xs
      → pushes_of resolve k o xs ≤ left_at o
  unfolding left_at
  pushes-le None xs keys some = omega arith
  pushes-le (Some l) [] keys some = omega arith
  pushes-le (Some l) (x ∷ xs) keys some =
      first_by l x (exchange_over_link resolve l x)
      (pushes_of resolve k (exchange_over_link resolve l x) xs)
      (keys l refl) some.0 refl
      (pushes-le (exchange_over_link resolve l x) xs
      (λ next e. link_by resolve law l (keys l refl) x some.0
      next (exchange_is resolve l x next e)) some.1)

  pub pushes_within : (l : Link) (xs : List Exchange) → IsLink l → HaveBatches xs
      → pushes_of resolve k (Some l) xs
      ≤ weight_at l.fork.documents l.known l.master.documents k
  unfolding left_at
  pushes_within l xs keys some =
      pushes-le (Some l) xs (λ m e. subst IsLink (some_same e) keys) some

pub pushed_twice : (resolve : Resolve) → KeepsKey resolve → (l : Link) → IsLink l
    → PushesAtMostTwice resolve l
pushed_twice resolve law l keys xs some k =
    let within = pushes_within resolve law k l xs keys some in
    let two = weight-le (named l.fork.documents k) (named l.known k)
    (named l.master.documents k) in (
      omega arith,
      λ h.
          let d = weight_some (named l.fork.documents k) (named l.known k)
          (named l.master.documents k) (omega arith) in (
            d.0,
            d.1,
            ap not (ap (λ (z : List ℕ). is_state (named l.known z) d.0.state)
                (key_at l.fork.documents k d.0 keys.fork d.1) ∙ d.2),
          ),
    )

in_time_by : (resolve : Resolve) → KeepsKey resolve → (l : Link) → IsLink l
    → (xs : List Exchange) → HaveBatches xs → GoOn resolve l xs → length xs + 1 ≤ to_do l
in_time_by resolve law l keys [] some go = to_do_some l
in_time_by resolve law l keys (x ∷ xs) some go =
    let is = exchange_is resolve l x go.0 go.1 in
    let rest = in_time_by resolve law go.0 (link_by resolve law l keys x some.0 go.0 is) xs some.1
    go.3 in
    let step = goes_on resolve law l keys x some.0 go.0 go.2 is in
    omega arith

pub in_time : (resolve : Resolve) → KeepsKey resolve → (l : Link) → IsLink l
    → IsQuietInTime resolve l
in_time resolve law l keys xs some go =
    let all = to_do-le l in
    let h = in_time_by resolve law l keys xs some go in
    omega arith

quiet_by : (resolve : Resolve) (l : Link) → IsLink l
    → IsSound l.fork.documents l.master.documents l.known l.up l.down → (x : Exchange)
    → IsQuiet l x.batch → (next : Link) → IsPushTo resolve l x next ⊎ IsPullTo l x next
    → (k : List ℕ) → state_at next.fork.documents k ≡ state_at next.master.documents k
quiet_by resolve l keys sound x quiet next (inl push) k =
    let some = push.some in
    let few = length-take x.batch (pending l.fork.documents l.known) in
    let none = ap (λ (ds : List Stored). length ds) quiet.settled in
    absurd (omega arith)
quiet_by resolve l keys sound x quiet next (inr pull) k =
    pull_equal l keys x (omega (arith, quiet.few)) next pull sound quiet.few k

pub quiet_equal : (resolve : Resolve) → KeepsKey resolve → (l : Link) → IsLink l
    → QuietIsEqual resolve l
quiet_equal resolve law l keys sound x quiet next e k =
    quiet_by resolve l keys sound x quiet next (exchange_is resolve l x next e) k
