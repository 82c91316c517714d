-- The table of hints after a document more, and what it says of a key that isn't found.
use Rattle.std.proofs.Common.{◌≡◌, ◌≢◌, ℕ, zero, suc, ◌+◌, ◌<◌, ◌≤◌, true, false, cond, List, [], ◌∷◌, ◌++◌, length, get_or, set, take, drop, Some, None, slice_get, refl, sym, ap, ◌∙◌, ◌⊎◌, inl, inr, subst, true≢false, eqb-true, eq-eqb, arith, min, ◌-◌, ◌==◌}
use Rattle.std.proofs.lemmas.List.{drop-set-add, drop_all, drop_more, get_or-drop, get_or-take, length-drop, length-set, length-take, take_all, take_min}
use Rattle.std.proofs.lemmas.List.Quantifiers.{position-Some}
use Rattle.std.proofs.lemmas.Option.{get_or_from_slice_get, slice_get_within}
use Rattle.std.specs.List.{position}
use Rattle.std.proofs.lemmas.Slice.Eq.{bytes_eq-Decides}
use Rattle.std.specs.Str.{bytes_eq}
use Rattle.rx_value.specs.Named.{named}
use Rattle.rx_document.specs.declared.stored.Stored.{Stored}
use Rattle.rx_runs.specs.Rows.{AreApart, AreSlots}
use Rattle.rx_runs.proofs.InSlots.{named_slot, slot_some}
use Rattle.rx_collection.specs.Hints.{key_hash, start_of, walk, AreHinted, AreKnown, AreSpread, IsPlaced, LeadOn, LeadsTo}
use Rattle.rx_collection.specs.declared.hints.Hints.{Hints}
use Rattle.rx_collection.specs.Log.{AreKeyed, HasKey}
use Rattle.rx_collection.proofs.Logged.{slot_after, slot_more}

-- ---- walks

-- a free place that is taken stays no one's way
led_kept : (e x : ℕ × ℕ) (k : ℕ) (ps : List (ℕ × ℕ)) (i : ℕ) → e.0 ≢ 0 → x.0 ≢ 0
    → ((p : ℕ × ℕ) → slice_get ps i ≡ Some p → p.0 ≡ 0) → LeadsTo e (take k ps)
    → LeadsTo e (take k (set ps i x))
led_kept e x zero ps i some taken free led = absurd led
led_kept e x (suc k) [] i some taken free led = absurd led
led_kept e x (suc k) (p ∷ ps) zero some taken free led =
    let none : p.0 ≡ 0 = free p refl in
    elim led [
      | inl is ↦ absurd (some (sym (ap (λ (q : ℕ × ℕ). q.0) is) ∙ none))
      | inr on ↦ absurd (on.0 none)
    ]
led_kept e x (suc k) (p ∷ ps) (suc i) some taken free led = elim led [
  | inl is ↦ inl is
  | inr on ↦ inr (on.0, led_kept e x k ps i some taken free on.1)
]

-- also of a walk that starts further on
led_on : (e x : ℕ × ℕ) (k m : ℕ) (ps : List (ℕ × ℕ)) (i : ℕ) → e.0 ≢ 0 → x.0 ≢ 0
    → ((p : ℕ × ℕ) → slice_get ps i ≡ Some p → p.0 ≡ 0) → LeadsTo e (take k (drop m ps))
    → LeadsTo e (take k (drop m (set ps i x)))
led_on e x k zero ps i some taken free led = led_kept e x k ps i some taken free led
led_on e x k (suc m) [] i some taken free led = led
led_on e x k (suc m) (p ∷ ps) zero some taken free led = led
led_on e x k (suc m) (p ∷ ps) (suc i) some taken free led =
    led_on e x k m ps i some taken free led

-- the first free place, once taken, is come to
led_first : (e : ℕ × ℕ) (k : ℕ) (ps : List (ℕ × ℕ)) (j : ℕ) → j < length (take k ps)
    → ((i : ℕ) → i < j → (get_or (take k ps) i (0, 0)).0 ≢ 0) → LeadsTo e (take k (set ps j e))
led_first e zero ps j lt taken = absurd (omega arith)
led_first e (suc k) [] j lt taken = absurd (omega arith)
led_first e (suc k) (p ∷ ps) zero lt taken = inl refl
led_first e (suc k) (p ∷ ps) (suc j) lt taken =
    inr (
      taken 0 (omega arith),
      led_first e k ps j (omega arith) (λ i h. taken (suc i) (omega arith)),
    )

pub led_there : (places : List (ℕ × ℕ)) (e : ℕ × ℕ) (hash j : ℕ) → j < length (walk places hash)
    → ((i : ℕ) → i < j → (get_or (walk places hash) i (0, 0)).0 ≢ 0)
    → LeadsTo e (walk (set places (start_of (length places) hash + j) e) hash)
unfolding walk
led_there places e hash j lt taken =
    let m = start_of (length places) hash in
    subst (λ n. LeadsTo e (take 1024 (drop (start_of n hash) (set places (m + j) e))))
    (sym (length-set places (m + j) e))
    (subst (λ ps. LeadsTo e (take 1024 ps)) (sym (drop-set-add m places j e))
    (led_first e 1024 (drop m places) j lt taken))

-- what is walked over, as it is cut out
pub walk_cut : (places : List (ℕ × ℕ)) (hash n m : ℕ) → m ≡ start_of (length places) hash
    → n ≡ min 1024 (length (take (length places - m) (drop m places)))
    → take n (take (length places - m) (drop m places)) ≡ walk places hash
unfolding walk
walk_cut places hash n m start is =
    let rest = take (length places - m) (drop m places) in
    let whole : rest ≡ drop m places = take_all (length places - m) (drop m places)
    (subst (λ l. l ≤ length places - m) (sym (length-drop m places)) (omega arith)) in
    ap (λ l. take l rest) is ∙ take_min 1024 rest ∙ ap (take 1024) whole
    ∙ ap (λ l. take 1024 (drop l places)) start

nothing_left : (n m : ℕ) → [] ≡ take n (drop {A = ℕ × ℕ} m [])
nothing_left zero zero = refl
nothing_left zero (suc m) = refl
nothing_left (suc n) zero = refl
nothing_left (suc n) (suc m) = refl

-- nothing
pub walk_none : (places : List (ℕ × ℕ)) (hash : ℕ) → length places ≡ 0 → places ≡ walk places hash
unfolding walk
walk_none [] hash none = nothing_left 1024 (start_of 0 hash)
walk_none (p ∷ places) hash none = absurd (omega arith)

-- the first free place of a walk
module _ (places : List (ℕ × ℕ)) (hash j : ℕ)
    (first : position (λ p. p.0 == 0) (walk places hash) ≡ Some j) where
  at : (j < length (walk places hash)) × (((get_or (walk places hash) j (0, 0)).0 == 0) ≡ true)
      × ((i : ℕ) → i < j → ((get_or (walk places hash) i (0, 0)).0 == 0) ≡ false)
  at = position-Some (λ p. p.0 == 0) (walk places hash) j (0, 0) first

  short : (j < 1024) × (j < length places - start_of (length places) hash)
  unfolding walk
  short =
      let m = start_of (length places) hash in
      let lt : j < min 1024 (length places - m) =
      subst (λ n. j < n)
      (length-take 1024 (drop m places) ∙ ap (min 1024) (length-drop m places)) at.0 in
      (omega arith, omega arith)

  pub free_within : start_of (length places) hash + j < length places
  free_within = let lt = short.1 in omega arith

  pub free_there : (p : ℕ × ℕ) → slice_get places (start_of (length places) hash + j) ≡ Some p
      → p.0 ≡ 0
  unfolding walk
  free_there p there =
      let m = start_of (length places) hash in
      let same : get_or (walk places hash) j (0, 0) ≡ p =
      get_or-take 1024 (drop m places) j (0, 0) short.0 ∙ get_or-drop m places j (0, 0)
      ∙ get_or_from_slice_get places (m + j) p (0, 0) there in
      eqb-true p.0 0 (ap (λ (q : ℕ × ℕ). q.0 == 0) (sym same) ∙ at.1)

  pub free_led : (p : ℕ × ℕ)
      → LeadsTo p (walk (set places (start_of (length places) hash + j) p) hash)
  free_led p = led_there places p hash j at.0 (λ i lt is.
      true≢false (sym (eq-eqb _ _ is) ∙ at.2 i lt))

-- what is come to stays so where a free place is taken
pub led_still : (places : List (ℕ × ℕ)) (i : ℕ) (x e : ℕ × ℕ) → x.0 ≢ 0
    → ((p : ℕ × ℕ) → slice_get places i ≡ Some p → p.0 ≡ 0) → e.0 ≢ 0
    → LeadsTo e (walk places e.1) → LeadsTo e (walk (set places i x) e.1)
unfolding walk
led_still places i x e taken free some led =
    subst (λ n. LeadsTo e (take 1024 (drop (start_of n e.1) (set places i x))))
    (sym (length-set places i x))
    (led_on e x 1024 (start_of (length places) e.1) places i some taken free led)

-- what is come to stands in a place
stands : (e : ℕ × ℕ) (k : ℕ) (ps : List (ℕ × ℕ)) → LeadsTo e (take k ps)
    → (i : ℕ) × (slice_get ps i ≡ Some e)
stands e zero ps led = absurd led
stands e (suc k) [] led = absurd led
stands e (suc k) (p ∷ ps) led = elim led [
  | inl is ↦ (0, ap (λ q. Some q) is)
  | inr on ↦ let next = stands e k ps on.1 in (suc next.0, next.1)
]

stands_on : (e : ℕ × ℕ) (m i : ℕ) (ps : List (ℕ × ℕ)) → slice_get (drop m ps) i ≡ Some e
    → (j : ℕ) × (slice_get ps j ≡ Some e)
stands_on e zero i ps at = (i, at)
stands_on e (suc m) i [] at = (i, at)
stands_on e (suc m) i (p ∷ ps) at = let next = stands_on e m i ps at in (suc next.0, next.1)

stands_there : (places : List (ℕ × ℕ)) (e : ℕ × ℕ) → LeadsTo e (walk places e.1)
    → (j : ℕ) × (slice_get places j ≡ Some e)
unfolding walk
stands_there places e led =
    let m = start_of (length places) e.1 in
    let at = stands e 1024 (drop m places) led in
    stands_on e m at.0 places at.1

-- ---- documents

below_or : (s n : ℕ) → s < n + 1 → (s < n) ⊎ (s ≡ n)
below_or zero zero lt = inr refl
below_or zero (suc n) lt = inl (omega arith)
below_or (suc s) zero lt = absurd (omega arith)
below_or (suc s) (suc n) lt = elim (below_or s n (omega arith)) [
  | inl less ↦ inl (omega arith)
  | inr is ↦ inr (ap suc is)
]

-- one more
pub hinted_more : (places : List (ℕ × ℕ)) (rows : List Stored) (n : ℕ) (d : Stored)
    → AreHinted places rows n → slice_get rows n ≡ Some d → IsPlaced places n d.state.key
    → AreHinted places rows (n + 1)
hinted_more places rows n d hinted at placed s e lt there =
    elim (below_or s n lt) [
      | inl less ↦ hinted s e less there
      | inr is ↦
          let same : d ≡ e = cc in
          subst (λ t. IsPlaced places t e.state.key) (sym is)
          (subst (λ (x : Stored). IsPlaced places n x.state.key) same placed)
    ]

-- what stands in a place more
pub spread_more : (places before after : List (ℕ × ℕ)) (n : ℕ) (e : ℕ × ℕ)
    → AreSpread places n before → LeadOn before after → e ≡ get_or places n (0, 0)
    → (e.0 ≢ 0 → LeadsTo e (walk after e.1)) → AreSpread places (n + 1) after
spread_more places before after n e spread on is placed i p lt there some =
    elim (below_or i n lt) [
      | inl less ↦ on p some (spread i p less there some)
      | inr same ↦
          let at : slice_get places n ≡ Some p = ap (slice_get places) (sym same) ∙ there in
          let equal : e ≡ p = is ∙ get_or_from_slice_get places n p (0, 0) at in
          subst (λ (q : ℕ × ℕ). LeadsTo q (walk after q.1)) equal
          (placed (λ none. some (sym (ap (λ (q : ℕ × ℕ). q.0) equal) ∙ none)))
    ]

-- where all that stands in places is spread, all documents are that were hinted
pub spread_hinted : (places spread : List (ℕ × ℕ)) (rows : List Stored) (n : ℕ)
    → AreSpread places (length places) spread → AreHinted places rows n → AreHinted spread rows n
spread_hinted places spread rows n all hinted s d lt there =
    let e : ℕ × ℕ = (s + 1, key_hash d.state.key) in
    let at = stands_there places e (hinted s d lt there) in
    all at.0 e (slice_get_within places at.0 e at.1) at.1 (λ no. omega (arith, no))

-- the document that was taken up
pub placed_now : (places : List (ℕ × ℕ)) (after hash s : ℕ) (key : List ℕ) → after ≡ s + 1
    → hash ≡ key_hash key → LeadsTo (after, hash) (walk places hash) → IsPlaced places s key
placed_now places after hash s key is of led =
    let h = key_hash key in
    subst (λ n. LeadsTo (n, h) (walk places h)) is
    (subst (λ g. LeadsTo (after, g) (walk places g)) of led)

-- the document of a key
pub hinted_key : (places : List (ℕ × ℕ)) (rows : List Stored) (s : ℕ) (key : List ℕ)
    → AreHinted places rows (length rows) → HasKey rows s key → IsPlaced places s key
hinted_key places rows s key hinted has =
    subst (IsPlaced places s) has.keyed
    (hinted s has.row (slice_get_within rows s has.row has.there) has.there)

-- two names have one slot only if they are one
one_name : (es : List (List ℕ × ℕ)) (k l : List ℕ) (s : ℕ) → AreApart es → named es k ≡ Some s
    → named es l ≡ Some s → k ≡ l
one_name [] k l s apart at there = absurd (cc)
one_name (e ∷ es) k l s apart at there =
    elim (bytes_eq k e.0) as (λ b. bytes_eq k e.0 ≡ b → cond b (Some e.1) (named es k) ≡ Some s
    → k ≡ l) [
      | true ↦ (λ is h. elim (bytes_eq l e.0) as (λ b. bytes_eq l e.0 ≡ b
          → cond b (Some e.1) (named es l) ≡ Some s → k ≡ l) [
            | true ↦ (λ too g.
                (bytes_eq-Decides k e.0).0 is ∙ sym ((bytes_eq-Decides l e.0).0 too))
            | false ↦ (λ too g.
                let same : e.1 ≡ s = cc in
                absurd (named_slot (λ t. t ≢ e.1) es l s apart.0 g (sym same)))
          ] refl there)
      | false ↦ (λ is h. elim (bytes_eq l e.0) as (λ b. bytes_eq l e.0 ≡ b
          → cond b (Some e.1) (named es l) ≡ Some s → k ≡ l) [
            | true ↦ (λ too g.
                let same : e.1 ≡ s = cc in
                absurd (named_slot (λ t. t ≢ e.1) es k s apart.0 h (sym same)))
            | false ↦ (λ too g. one_name es k l s apart.1 h g)
          ] refl there)
    ] refl at

-- the document in a name's slot has that key
pub key_there : (rows : List Stored) (names : List (List ℕ × ℕ)) (k : List ℕ) (s : ℕ)
    → AreSlots rows names → AreKeyed rows names → named names k ≡ Some s → HasKey rows s k
key_there rows names k s slots keyed at =
    let v = slot_some rows s (named_slot (λ t. t < length rows) names k s slots.within at) in
    record {
      row = v.0;
      there = v.1;
      keyed = sym (one_name names k v.0.state.key s slots.apart at (keyed s v.0 v.1));
    }

-- a key that no document has has no name
pub no_name : (rows : List Stored) (names : List (List ℕ × ℕ)) (k : List ℕ)
    → AreSlots rows names → AreKeyed rows names → ((s : ℕ) → HasKey rows s k → ⊥)
    → named names k ≡ None
no_name rows names k slots keyed none =
    elim (named names k) as (λ o. named names k ≡ o → o ≡ None) [
      | None ↦ (λ at. refl)
      | Some s ↦ (λ at. absurd (none s (key_there rows names k s slots keyed at)))
    ] refl

-- a document of the same key in its slot
pub known_old : (hints : Hints) (rows : List Stored) (names : List (List ℕ × ℕ)) (s : ℕ)
    (row : Stored) → AreSlots rows names → AreKeyed rows names
    → named names row.state.key ≡ Some s → AreKnown hints rows → AreKnown hints (set rows s row)
known_old hints rows names s row slots keyed at known =
    let lt = named_slot (λ t. t < length rows) names row.state.key s slots.within at in
    let old = key_there rows names row.state.key s slots keyed at in
    record {
      placed = λ whole t d within there. elim (slot_after rows s t row lt) [
        | inl h ↦
            let row_is : Some row ≡ Some d = sym h.1 ∙ there in
            let equal : row ≡ d = cc in
            let key : old.row.state.key ≡ d.state.key =
            old.keyed ∙ ap (λ (x : Stored). x.state.key) equal in
            subst (λ u. IsPlaced hints.places.items u d.state.key) (sym h.0)
            (subst (IsPlaced hints.places.items s) key
            (known.placed whole s old.row lt old.there))
        | inr h ↦ known.placed whole t d (subst (λ n. t < n) (length-set rows s row) within)
            (sym h ∙ there)
      ];
    }

-- a document more, which the table hasn't taken up yet
pub hinted_before : (places : List (ℕ × ℕ)) (rows : List Stored) (row : Stored)
    → AreHinted places rows (length rows) → AreHinted places (rows ++ row ∷ []) (length rows)
hinted_before places rows row hinted s d lt there = elim (slot_more rows s row d there) [
  | inl h ↦ hinted s d lt h
  | inr h ↦ absurd (omega (arith, h.0))
]

-- nothing is known of no documents
pub known_none : (hints : Hints) → AreKnown hints []
known_none hints = record { placed = λ whole s d lt there. absurd (omega arith) }

-- ---- a walk step by step

-- past its end it comes to nothing
pub led_past : (e : ℕ × ℕ) (ps : List (ℕ × ℕ)) (i : ℕ) → length ps ≤ i → LeadsTo e (drop i ps) → ⊥
led_past e ps i past led = subst (LeadsTo e) (drop_all i ps past) led

module _ (ps : List (ℕ × ℕ)) (i : ℕ) (lt : i < length ps) where
  -- what isn't in a place is further on
  pub led_next : (e : ℕ × ℕ) → get_or ps i (0, 0) ≢ e → LeadsTo e (drop i ps)
      → LeadsTo e (drop (i + 1) ps)
  led_next e other led = elim (subst (LeadsTo e) (drop_more ps i (0, 0) lt) led) [
    | inl is ↦ absurd (other is)
    | inr on ↦ on.1
  ]

  -- and nothing is where the place is free
  pub led_free : (s hash : ℕ) → (get_or ps i (0, 0)).0 ≡ 0 → LeadsTo (s + 1, hash) (drop i ps) → ⊥
  led_free s hash none led =
      elim (subst (LeadsTo (s + 1, hash)) (drop_more ps i (0, 0) lt) led) [
        | inl is ↦
            let some : 0 ≡ s + 1 = sym none ∙ ap (λ (q : ℕ × ℕ). q.0) is in
            absurd (omega (arith, some))
        | inr on ↦ absurd (on.0 none)
      ]
