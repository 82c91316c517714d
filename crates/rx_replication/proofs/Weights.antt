-- How a push lowers the pushes left.
use Rattle.std.proofs.Common.{◌≡◌, ◌≢◌, ℕ, suc, ◌+◌, ◌≤◌, Bool, true, false, cond, not, List, [], ◌∷◌, map, filter, length, Option, Some, None, refl, sym, ap, ◌∙◌, ◌⊎◌, inl, inr, subst, arith, true≢false, Less}
use Rattle.std.proofs.lemmas.List.Sums.{sum_by-cons}
use Rattle.std.proofs.lemmas.Bool.{not-true}
use Rattle.std.specs.List.{sum_by}
use Rattle.std.specs.Map.{keys_of}
use Rattle.std.specs.Str.{bytes_eq}
use Rattle.rx_value.specs.Equal.{state_eq}
use Rattle.rx_value.specs.Named.{named}
use Rattle.rx_value.specs.declared.state.State.{State}
use Rattle.rx_value.proofs.Bytes.{bytes_itself, bytes_apart, bytes_same}
use Rattle.rx_value.proofs.Outcomes.{some_same, not_none}
use Rattle.rx_document.specs.Documents.{Documents}
use Rattle.rx_document.specs.Place.{place_cmp}
use Rattle.rx_document.specs.declared.stored.Stored.{Stored}
use Rattle.rx_collection.specs.Since.{place_of}
use Rattle.rx_wire.specs.declared.message.PushRow.{PushRow}
use Rattle.rx_replication.specs.Known.{KnownStates, with_learnt, is_state, is_pending}
use Rattle.rx_replication.specs.Left.{behind, pushes_left}
use Rattle.rx_replication.specs.Master.{conflict_with, conflict_of, conflicts, writes}
use Rattle.rx_replication.specs.Member.{Member}
use Rattle.rx_replication.specs.Request.{push_row}
use Rattle.rx_replication.specs.Taking.{Resolve, KeepsKey, real_state, resolutions}
use Rattle.rx_replication.specs.Write.{AreByKey}
use Rattle.rx_replication.proofs.Commits.{IsOld, IsNew, IsNewState, Wrote, learn_at, key_at}
use Rattle.rx_replication.proofs.Handled.{conflict_held, from_writes, real_is, met_stays}
use Rattle.rx_replication.proofs.Keys.{entry_named, key_among}
use Rattle.rx_replication.proofs.Lists.{to_map, from_map}
use Rattle.rx_replication.proofs.Orders.{state_itself, not_below_itself}
use Rattle.rx_replication.proofs.Pages.{Rise, page_rises, placed}
use Rattle.rx_replication.proofs.Sums.{sum-le, sum-add, sum-same, sum-filter, sum-values, sum-keys, sum-placed}
use Rattle.rx_replication.proofs.Taken.{pushed, rows_of, row_doc, rows_apart, pushed_held, pushed_pending, from_resolutions, resolution-key, real_state-key}

-- ---- one document

-- the pushes that are left of a document of the fork
abbrev pub weight : Option Stored → Option State → Option Stored → ℕ
weight None known m = 0
weight (Some d) known m = cond (is_state known d.state) 0 (behind known m)

none_left : (d : Stored) (m : Option Stored) → weight (Some d) (Some d.state) m ≡ 0
none_left d m = ap (λ b. cond b 0 (behind (Some d.state) m)) (state_itself d.state)

pub behind-le : (known : Option State) (m : Option Stored) → behind known m ≤ 2
behind-le known None = omega arith
behind-le known (Some e) =
    elim (is_state known e.state) as (λ b. cond b 1 2 ≤ 2)
    [ true ↦ omega arith | false ↦ omega arith ]

pub weight-le : (o : Option Stored) (known : Option State) (m : Option Stored)
    → weight o known m ≤ 2
weight-le None known m = omega arith
weight-le (Some d) known m =
    let h = behind-le known m in
    elim (is_state known d.state) as (λ b. cond b 0 (behind known m) ≤ 2)
    [ true ↦ omega arith | false ↦ omega arith ]

-- something is left of pending documents alone
pub weight_some : (o : Option Stored) (known : Option State) (m : Option Stored)
    → 1 ≤ weight o known m → (d : Stored) × (o ≡ Some d) × (is_state known d.state ≡ false)
weight_some None known m h = absurd (omega arith)
weight_some (Some d) known m h = (
  d,
  refl,
  elim (is_state known d.state) as (λ b. 1 ≤ cond b 0 (behind known m) → b ≡ false)
      [ true ↦ (λ h. absurd (omega arith)) | false ↦ (λ h. refl) ] h,
)

one_behind : (e : Stored) → behind (Some e.state) (Some e) ≡ 1
one_behind e = ap (λ (b : Bool). cond b 1 2) (state_itself e.state)

-- at most one, where the master's state is known
at_most_one : (o : Option Stored) (e : Stored) → weight o (Some e.state) (Some e) ≤ 1
at_most_one None e = omega arith
at_most_one (Some d) e =
    let h = one_behind e in
    elim (is_state (Some e.state) d.state) as (λ b. cond b 0 (behind (Some e.state) (Some e)) ≤ 1)
    [ true ↦ omega arith | false ↦ omega arith ]

-- a pending document weighs one where the master takes its row, and else two
module _ (d : Stored) (known : Option State) where
  abbrev row : PushRow
  row = record { assumed = known; new = d.state }

  weighs : (m : Option Stored) → is_state known d.state ≡ false
      → weight (Some d) known m ≡ behind known m
  weighs m p = ap (λ b. cond b 0 (behind known m)) p

  taken_weight : (m : Option Stored) → conflict_with m row ≡ None → behind known m ≡ 1
  taken_weight None e = refl
  taken_weight (Some x) e =
      elim (is_state known x.state)
      as (λ b. cond b None (Some x.state) ≡ None → ◌≡◌ {A = ℕ} (cond b 1 2) 1)
      [ true ↦ (λ f. refl) | false ↦ (λ f. not_none (sym f)) ] e

  met_weight : (m : Option Stored) (s : State) → conflict_with m row ≡ Some s → behind known m ≡ 2
  met_weight None s e = not_none e
  met_weight (Some x) s e =
      elim (is_state known x.state)
      as (λ b. cond b None (Some x.state) ≡ Some s → ◌≡◌ {A = ℕ} (cond b 1 2) 2)
      [ true ↦ (λ f. not_none f) | false ↦ (λ f. refl) ] e

-- ---- all documents

-- what is left at a key
abbrev pub weight_at : Documents → KnownStates → Documents → List ℕ → ℕ
weight_at fork known master k = weight (named fork k) (named known k) (named master k)

not_cond : (b : Bool) (n : ℕ) → cond (not b) n 0 ≡ cond b 0 n
not_cond true n = refl
not_cond false n = refl

-- pushes left are what is left at each of the fork's keys
pub left-weights : (fork : Documents) (known : KnownStates) (master : Documents) → AreByKey fork
    → pushes_left fork known master ≡ sum_by (weight_at fork known master) (keys_of fork)
left-weights fork known master by_key =
    let f : Stored → ℕ = λ d. behind (named known d.state.key) (named master d.state.key) in
    let g : Stored → ℕ = λ d. cond (is_pending known d) (f d) 0 in
    sum-filter f (is_pending known) (placed fork)
    ∙ sum-placed g fork by_key
    ∙ sum-values g fork
    ∙ sum-same (λ e. g e.1) (λ e. weight_at fork known master e.0) fork (λ e m.
    let at = entry_named fork e by_key.rising m in
    let key = key_at fork e.0 e.1 by_key at in
    not_cond (is_state (named known e.1.state.key) e.1.state) (f e.1)
    ∙ ap (λ (k : List ℕ). weight (Some e.1) (named known k) (named master k)) key
    ∙ ap (λ (o : Option Stored). weight o (named known e.0) (named master e.0)) (sym at))
    ∙ sym (sum-keys (weight_at fork known master) fork)

-- ---- how often a key is pushed

abbrev pub hits : List ℕ → List Stored → ℕ
hits k ds = length (filter (λ d. bytes_eq d.state.key k) ds)

hits_by : (k : List ℕ) (d : Stored) (ds : List Stored) (b : Bool) → bytes_eq d.state.key k ≡ b
    → hits k (d ∷ ds) ≡ cond b 1 0 + hits k ds
hits_by k d ds true e =
    let h : hits k (d ∷ ds) ≡ suc (hits k ds) =
    ap (λ b. length (cond b (d ∷ filter (λ d. bytes_eq d.state.key k) ds)
    (filter (λ d. bytes_eq d.state.key k) ds))) e in
    omega arith
hits_by k d ds false e =
    let h : hits k (d ∷ ds) ≡ hits k ds =
    ap (λ b. length (cond b (d ∷ filter (λ d. bytes_eq d.state.key k) ds)
    (filter (λ d. bytes_eq d.state.key k) ds))) e in
    omega arith

hits-none : (k : List ℕ) (ds : List Stored) → ((d : Stored) → Member d ds → d.state.key ≢ k)
    → hits k ds ≡ 0
hits-none k [] apart = refl
hits-none k (d ∷ ds) apart =
    omega (
      arith,
      hits_by k d ds false (bytes_apart d.state.key k (apart d (inl refl))),
      hits-none k ds (λ x m. apart x (inr m)),
    )

-- a document of the key, or none
has_key : (k : List ℕ) (ds : List Stored)
    → ((d : Stored) → Member d ds → d.state.key ≢ k)
    ⊎ ((d : Stored) × Member d ds × (d.state.key ≡ k))
has_key k [] = inl (λ d m. absurd m)
has_key k (d ∷ ds) =
    elim (bytes_eq d.state.key k) as (λ b. bytes_eq d.state.key k ≡ b
    → ((e : Stored) → Member e (d ∷ ds) → e.state.key ≢ k)
    ⊎ ((e : Stored) × Member e (d ∷ ds) × (e.state.key ≡ k))) [
      | true ↦ (λ h. inr (d, inl refl, bytes_same d.state.key k h))
      | false ↦ (λ h. elim (has_key k ds) [
        | inl none ↦ inl (λ e. elim [
          | inl is ↦ (λ same. true≢false (sym (bytes_itself k)
              ∙ ap (λ (l : List ℕ). bytes_eq l k)
              (sym same ∙ ap (λ (z : Stored). z.state.key) is) ∙ h))
          | inr m ↦ none e m
        ])
        | inr some ↦ inr (some.0, inr some.1, some.2)
      ])
    ] refl

-- a key is pushed once at most
hits-le : (fork : Documents) (k : List ℕ) (ds : List Stored) → Rise ds
    → ((d : Stored) → Member d ds → named fork d.state.key ≡ Some d) → hits k ds ≤ 1
hits-le fork k [] rise held = omega arith
hits-le fork k (d ∷ ds) rise held =
    elim (bytes_eq d.state.key k) as (λ b. bytes_eq d.state.key k ≡ b → hits k (d ∷ ds) ≤ 1) [
      | true ↦ (λ h.
          let key = bytes_same d.state.key k h in
          let alone = hits-none k ds (λ e m same.
          let is : e ≡ d = some_same (sym (held e (inr m)) ∙ ap (named fork) (same ∙ sym key)
          ∙ held d (inl refl)) in
          not_below_itself (place_of d)
          (subst (λ (z : Stored). place_cmp (place_of d) (place_of z)
          ≡ Less) is (rise.0 e m))) in
          omega (arith, hits_by k d ds true h))
      | false ↦ (λ h. omega (
        arith,
        hits_by k d ds false h,
        hits-le fork k ds rise.1 (λ e m. held e (inr m)),
      ))
    ] refl

sum-hit : (d : Stored) (ks : List (List ℕ)) → Member d.state.key ks
    → 1 ≤ sum_by (λ k. hits k (d ∷ [])) ks
sum-hit d [] m = absurd m
sum-hit d (k ∷ ks) (inl is) =
    let one = hits_by k d [] true (ap (bytes_eq d.state.key) (sym is) ∙ bytes_itself d.state.key) in
    omega (arith, sum_by-cons (λ k. hits k (d ∷ [])) k ks)
sum-hit d (k ∷ ks) (inr m) =
    omega (arith, sum-hit d ks m, sum_by-cons (λ k. hits k (d ∷ [])) k ks)

hits-cons : (k : List ℕ) (d : Stored) (ds : List Stored)
    → hits k (d ∷ ds) ≡ hits k (d ∷ []) + hits k ds
hits-cons k d ds =
    elim (bytes_eq d.state.key k) as (λ b. bytes_eq d.state.key k ≡ b
    → hits k (d ∷ ds) ≡ hits k (d ∷ []) + hits k ds) [
      | true ↦ (λ h. omega (arith, hits_by k d ds true h, hits_by k d [] true h))
      | false ↦ (λ h. omega (arith, hits_by k d ds false h, hits_by k d [] false h))
    ] refl

-- documents of some keys hit these keys so often
sum-hits : (ds : List Stored) (ks : List (List ℕ))
    → ((d : Stored) → Member d ds → Member d.state.key ks)
    → length ds ≤ sum_by (λ k. hits k ds) ks
sum-hits [] ks each = omega arith
sum-hits (d ∷ ds) ks each =
    omega (
      arith,
      sum-hit d ks (each d (inl refl)),
      sum-hits ds ks (λ x m. each x (inr m)),
      sum-add (λ k. hits k (d ∷ [])) (λ k. hits k ds) ks,
      sum-same (λ k. hits k (d ∷ ds)) (λ k. hits k (d ∷ []) + hits k ds) ks
          (λ k m. hits-cons k d ds),
    )

-- ---- a push that is handled and taken

module _ (fork m : Documents) (known : KnownStates) (by_key : AreByKey fork) (by_key_m : AreByKey m)
    (n : ℕ) where
  abbrev rows : List PushRow
  rows = rows_of known (pushed fork known n)

  abbrev cs : List State
  cs = conflicts m (rows_of known (pushed fork known n))

  pub pushed_hits : (k : List ℕ) → hits k (pushed fork known n) ≤ 1
  pushed_hits k =
      hits-le fork k (pushed fork known n) (page_rises fork by_key (is_pending known) n)
      (pushed_held fork known by_key n)

  pub hits-weight : (k : List ℕ) → hits k (pushed fork known n) ≤ weight_at fork known m k
  hits-weight k =
      elim (has_key k (pushed fork known n)) [
        | inl none ↦ let h = hits-none k (pushed fork known n) none in omega arith
        | inr some ↦
            let d = some.0 in
            let held = pushed_held fork known by_key n d some.1 in
            let waits = not-true _ (pushed_pending fork known by_key n d some.1) in
            let one = pushed_hits k in
            let heavy : 1 ≤ weight_at fork known m d.state.key =
            subst (λ (o : Option Stored).
            1 ≤ weight o (named known d.state.key) (named m d.state.key)) (sym held)
            (let w = weighs d (named known d.state.key) (named m d.state.key) waits in
            let some = behind_some (named known d.state.key) (named m d.state.key) in
            omega arith) in
            let here = subst (λ (k : List ℕ). 1 ≤ weight_at fork known m k) some.2 heavy in
            omega arith
      ]
    where
      behind_some : (known : Option State) (m : Option Stored) → 1 ≤ behind known m
      behind_some known None = omega arith
      behind_some known (Some e) =
          elim (is_state known e.state) as (λ b. 1 ≤ cond b 1 2)
          [ true ↦ omega arith | false ↦ omega arith ]

  module _ (resolve : Resolve) (law : KeepsKey resolve) (fork' m' : Documents)
      (wf : Wrote fork (resolutions resolve (conflicts m (rows_of known (pushed fork known n)))
      (rows_of known (pushed fork known n))) fork')
      (wm : Wrote m (writes m (rows_of known (pushed fork known n))) m') where
    abbrev learnt : List State
    learnt = map (real_state (conflicts m (rows_of known (pushed fork known n))))
        (rows_of known (pushed fork known n))

    abbrev known' : KnownStates
    known' = with_learnt known (map (real_state (conflicts m (rows_of known (pushed fork known n))))
        (rows_of known (pushed fork known n)))

    known_by : (row : PushRow) → Member row rows
        → IsOld known known' learnt row.new.key ⊎ IsNewState known' learnt row.new.key
        → named known' row.new.key ≡ Some (real_state cs row)
    known_by row h (inl o) =
        absurd (o.absent (real_state cs row) (to_map (real_state cs) rows row h)
        (real_state-key cs row))
    known_by row h (inr x) =
        let y = from_map (real_state cs) rows x.state x.member in
        let same = rows_apart fork known by_key n y.0 row y.1 h
        (sym (real_state-key cs y.0) ∙ ap (λ (s : State). s.key) (sym y.2) ∙ x.key) in
        x.held ∙ ap Some (y.2 ∙ ap (real_state cs) same)

    -- the real state of a row becomes known
    known_is : (row : PushRow) → Member row rows
        → named known' row.new.key ≡ Some (real_state cs row)
    known_is row h = known_by row h (learn_at known learnt row.new.key)

    fork_stays : (row : PushRow) → Member row rows → real_state cs row ≡ row.new
        → IsOld fork fork' (resolutions resolve cs rows) row.new.key
        ⊎ IsNew fork fork' (resolutions resolve cs rows) row.new.key
        → named fork' row.new.key ≡ named fork row.new.key
    fork_stays row h e (inl o) = o.same
    fork_stays row h e (inr x) =
        let y = from_resolutions resolve cs rows x.doc.state x.member in
        let same = rows_apart fork known by_key n y.0 row y.1 h
        (sym (resolution-key resolve cs rows law y.0) ∙ ap (λ (z : State). z.key) (sym y.2)
        ∙ x.key) in
        absurd (true≢false (sym (state_itself row.new)
        ∙ ap (λ (z : State). state_eq z row.new) (sym e)
        ∙ ap (λ (z : PushRow). state_eq (real_state cs z) z.new) (sym same) ∙ y.3))

    row_by : (d : Stored) (c : Option State) → Member d (pushed fork known n)
        → conflict_of m (push_row known d) ≡ c
        → weight_at fork' known' m' d.state.key + 1 ≤ weight_at fork known m d.state.key
    row_by d None h e =
        let row : PushRow = push_row known d in
        let among = to_map (push_row known) (pushed fork known n) d h in
        let held = pushed_held fork known by_key n d h in
        let waits = not-true _ (pushed_pending fork known by_key n d h) in
        let apart = rows_apart fork known by_key n in
        let real : real_state cs row ≡ d.state =
        real_is m by_key_m rows m' wm apart row None among e in
        let a : named fork' d.state.key ≡ Some d =
        fork_stays row among real (wf.at d.state.key) ∙ held in
        let b : named known' d.state.key ≡ Some d.state = known_is row among ∙ ap Some real in
        let before : weight_at fork known m d.state.key ≡ 1 =
        ap (λ (o : Option Stored). weight o (named known d.state.key) (named m d.state.key)) held
        ∙ weighs d (named known d.state.key) (named m d.state.key) waits
        ∙ taken_weight d (named known d.state.key) (named m d.state.key) e in
        let after : weight_at fork' known' m' d.state.key ≡ 0 =
        ap (λ (o : Option Stored). weight o (named known' d.state.key) (named m' d.state.key)) a
        ∙ ap (λ (o : Option State). weight (Some d) o (named m' d.state.key)) b
        ∙ none_left d (named m' d.state.key) in
        omega arith
    row_by d (Some s) h e =
        let row : PushRow = push_row known d in
        let among = to_map (push_row known) (pushed fork known n) d h in
        let held = pushed_held fork known by_key n d h in
        let waits = not-true _ (pushed_pending fork known by_key n d h) in
        let apart = rows_apart fork known by_key n in
        let y = conflict_held (named m d.state.key) row s e in
        let real : real_state cs row ≡ s =
        real_is m by_key_m rows m' wm apart row (Some s) among e in
        let b : named known' d.state.key ≡ Some y.0.state =
        known_is row among ∙ ap Some (real ∙ sym y.2) in
        let c : named m' d.state.key ≡ Some y.0 =
        met_stays m by_key_m rows m' wm apart row s among e (wm.at d.state.key) ∙ y.1 in
        let before : weight_at fork known m d.state.key ≡ 2 =
        ap (λ (o : Option Stored). weight o (named known d.state.key) (named m d.state.key)) held
        ∙ weighs d (named known d.state.key) (named m d.state.key) waits
        ∙ met_weight d (named known d.state.key) (named m d.state.key) s e in
        let after : weight_at fork' known' m' d.state.key
        ≡ weight (named fork' d.state.key) (Some y.0.state) (Some y.0) =
        λ i. weight (named fork' d.state.key) (b i) (c i) in
        let small = at_most_one (named fork' d.state.key) y.0 in
        omega arith

    -- every other document weighs the same
    still : (k : List ℕ) → ((d : Stored) → Member d (pushed fork known n) → d.state.key ≢ k)
        → weight_at fork' known' m' k ≡ weight_at fork known m k
    still k none =
        λ i. weight (still_fork (wf.at k) i) (still_known (learn_at known learnt k) i)
        (still_master (wm.at k) i)
      where
        no_row : (row : PushRow) → Member row rows → row.new.key ≢ k
        no_row row h same =
            let x = row_doc fork known by_key n row h in
            none x.0 x.1 (ap (λ (r : PushRow). r.new.key) (sym x.3) ∙ same)

        still_fork : IsOld fork fork' (resolutions resolve cs rows) k
            ⊎ IsNew fork fork' (resolutions resolve cs rows) k → named fork' k ≡ named fork k
        still_fork (inl o) = o.same
        still_fork (inr x) =
            let y = from_resolutions resolve cs rows x.doc.state x.member in
            absurd (no_row y.0 y.1 (sym (resolution-key resolve cs rows law y.0)
            ∙ ap (λ (z : State). z.key) (sym y.2) ∙ x.key))

        still_known : IsOld known known' learnt k ⊎ IsNewState known' learnt k
            → named known' k ≡ named known k
        still_known (inl o) = o.same
        still_known (inr x) =
            let y = from_map (real_state cs) rows x.state x.member in
            absurd (no_row y.0 y.1
            (sym (real_state-key cs y.0) ∙ ap (λ (z : State). z.key) (sym y.2) ∙ x.key))

        still_master : IsOld m m' (writes m rows) k ⊎ IsNew m m' (writes m rows) k
            → named m' k ≡ named m k
        still_master (inl o) = o.same
        still_master (inr x) =
            let y = from_writes m rows x.doc.state x.member in
            absurd (no_row y.0 y.1 (ap (λ (z : State). z.key) (sym y.2) ∙ x.key))

    -- what is left at a key falls by how often it is pushed
    pub falls : (k : List ℕ)
        → weight_at fork' known' m' k + hits k (pushed fork known n) ≤ weight_at fork known m k
    falls k =
        elim (has_key k (pushed fork known n)) [
          | inl none ↦ let same = still k none in
              let h = hits-none k (pushed fork known n) none in omega arith
          | inr some ↦
              let less = row_by some.0 (conflict_of m (push_row known some.0)) some.1 refl in
              let here = subst (λ (k : List ℕ).
              weight_at fork' known' m' k + 1 ≤ weight_at fork known m k) some.2 less in
              let one = pushed_hits k in omega arith
        ]

    -- so the pushes left fall by the documents that are pushed
    pub falls_by_pushed : keys_of fork' ≡ keys_of fork
        → pushes_left fork' known' m' + length (pushed fork known n) ≤ pushes_left fork known m
    falls_by_pushed same =
        let before = left-weights fork known m by_key in
        let after = left-weights fork' known' m' (wf.by_key by_key)
        ∙ ap (sum_by (weight_at fork' known' m')) same in
        let all = sum-le (weight_at fork' known' m') (λ k. hits k (pushed fork known n))
        (weight_at fork known m) (keys_of fork) falls in
        let count = sum-hits (pushed fork known n) (keys_of fork) (λ d h.
        key_among fork d.state.key d (pushed_held fork known by_key n d h)) in
        omega arith
