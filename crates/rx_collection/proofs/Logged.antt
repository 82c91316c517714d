-- The log of writes after a row is put, and the documents that it tells of.
use Rattle.std.proofs.Common.{T, ◌≡◌, ℕ, zero, suc, ◌<◌, ◌≤◌, ◌==◌, ◌&&◌, Bool, true, false, cond, List, [], ◌∷◌, ◌++◌, ◌-◌, ◌+◌, length, length-append, get_or, not, option_to_list, set, map, filter, take, drop, Option, Some, None, IfNone, IfSome, Bor, is_some, slice_get, Less, Equal, Greater, refl, sym, ap, ◌∙◌, ◌⊎◌, inl, inr, subst, true≢false, eq-eqb, eqb-true, arith}
use Rattle.std.proofs.lemmas.Bool.{cases_eq}
use Rattle.std.proofs.lemmas.List.Kept.{IsStrictlySortedBy-filter}
use Rattle.rx_value.proofs.Lists.{all_passed}
use Rattle.std.specs.FinMap.Entries.{find, same_entries}
use Rattle.std.specs.List.{AllByRecursion}
use Rattle.std.specs.List.Sorted.{IsStrictlySortedBy, IsPartitionedBy, IsPartitionPoint}
use Rattle.std.specs.Map.{keys_of, values_of}
use Rattle.std.specs.Map.Iter.{TakesFirst, deref}
use Rattle.std.specs.Ordering.{is_eq, is_le, is_lt, eq_by_cmp, nat_cmp, ordering_reverse}
use Rattle.std.specs.Str.{bytes_eq}
use Rattle.std.proofs.lemmas.Bool.Decides.{nat_tests}
use Rattle.std.proofs.lemmas.Slice.Eq.{bytes_eq-Decides}
use Rattle.rx_value.proofs.Bytes.{bytes_itself}
use Rattle.rx_value.proofs.Named.{named-put_in_order}
use Rattle.rx_value.specs.Named.{named, put_in_order, AreRising}
use Rattle.rx_document.specs.Documents.{Documents}
use Rattle.rx_document.specs.Place.{place_cmp, place_total}
use Rattle.rx_document.specs.declared.place.Place.{Place}
use Rattle.rx_document.specs.declared.stored.Stored.{Stored}
use Rattle.rx_document.proofs.Places.{place_ties}
use Rattle.rx_runs.specs.Rows.{shown, AreSlots}
use Rattle.rx_runs.proofs.InSlots.{shown_some, shown_none, slot_some, named_slot, put_old, put_new, slots_old, slots_new, length_set}
use Rattle.rx_runs.proofs.Joined.{length_put-new}
use Rattle.rx_collection.specs.Lawful.{IsHeldAt, IsLawful}
use Rattle.rx_collection.proofs.Lawful.{later, lawful_put}
use Rattle.rx_collection.specs.Log.{with_place, places, standing_at, written, is_up_to, is_standing, IsWrite, IsLogged, IsLog, IsWhole, IsWritten}
use Rattle.rx_schema.specs.declared.shape.Shape.{Shape}
use Rattle.rx_collection.specs.Commit.{IsNext}
use Rattle.rx_collection.specs.Held.{held_with}
use Rattle.rx_collection.specs.Since.{place_of, by_place, is_above, since}
use Rattle.rx_collection.specs.Time.{last_lwt}
use Rattle.rx_collection.proofs.Last.{within_last, last-le, no_later}
use Rattle.rx_collection.proofs.Named.{all_named, at_name}
use Rattle.rx_collection.proofs.Pages.{was_written_at, standing, marks, placed_at, sorted_places, sorted_marks, found_marks, rising_test, one_mark, standing-marks, passed_marks, all_by_place}

-- ---- above a place

-- the document of a write that stands, and above a place
abbrev with_standing : Option Place → ℕ → Option Stored → List Stored → List Stored
with_standing after lwt None ds = ds
with_standing after lwt (Some d) ds =
    cond ((d.lwt == lwt) && is_above after (record { lwt = lwt; id = d.state.key })) (d ∷ ds) ds

-- the documents of writes that stand above a place
abbrev written_above : Option Place → List Stored → List (ℕ × ℕ) → List Stored
written_above after rows [] = []
written_above after rows (l ∷ ls) =
    with_standing after l.0 (slice_get rows l.1) (written_above after rows ls)

-- ---- slots

-- a slot with another document of the same key
pub slot_after : (rows : List Stored) (s t : ℕ) (x : Stored) → s < length rows
    → ((t ≡ s) × (slice_get (set rows s x) t ≡ Some x)) ⊎ (slice_get (set rows s x) t
    ≡ slice_get rows t)
slot_after [] s t x lt = absurd (omega arith)
slot_after (r ∷ rows) zero zero x lt = inl (refl, refl)
slot_after (r ∷ rows) zero (suc t) x lt = inr refl
slot_after (r ∷ rows) (suc s) zero x lt = inr refl
slot_after (r ∷ rows) (suc s) (suc t) x lt = elim (slot_after rows s t x (omega arith)) [
  | inl h ↦ inl (ap suc h.0, h.1)
  | inr h ↦ inr h
]

-- the places are the same
place_set : (rows : List Stored) (s t lwt : ℕ) (old x : Stored) (ps : List Place)
    → slice_get rows s ≡ Some old
    → old.state.key ≡ x.state.key → s < length rows
    → with_place lwt (slice_get (set rows s x) t) ps ≡ with_place lwt (slice_get rows t) ps
place_set rows s t lwt old x ps at same lt = elim (slot_after rows s t x lt) [
  | inl h ↦ ap (λ o. with_place lwt o ps) h.1
      ∙ ap (λ (k : List ℕ). record { lwt = lwt; id = k } ∷ ps) (sym same)
      ∙ ap (λ o. with_place lwt o ps) (sym at)
      ∙ ap (λ q. with_place lwt (slice_get rows q) ps) (sym h.0)
  | inr h ↦ ap (λ o. with_place lwt o ps) h
]

pub places_set : (rows : List Stored) (s : ℕ) (old x : Stored) (log : List (ℕ × ℕ))
    → slice_get rows s ≡ Some old
    → old.state.key ≡ x.state.key → s < length rows → places (set rows s x) log ≡ places rows log
places_set rows s old x [] at same lt = refl
places_set rows s old x (l ∷ ls) at same lt =
    place_set rows s l.1 l.0 old x (places (set rows s x) ls) at same lt
    ∙ ap (with_place l.0 (slice_get rows l.1)) (places_set rows s old x ls at same lt)

-- a slot below a document more
slot_below : (rows : List Stored) (s : ℕ) (x d : Stored) → slice_get rows s ≡ Some d
    → slice_get (rows ++ x ∷ []) s ≡ Some d
slot_below [] s x d at = absurd (cc)
slot_below (r ∷ rows) zero x d at = at
slot_below (r ∷ rows) (suc s) x d at = slot_below rows s x d at

pub places_more : (rows : List Stored) (x : Stored) (log : List (ℕ × ℕ))
    → AllByRecursion (IsWrite rows) log
    → places (rows ++ x ∷ []) log ≡ places rows log
places_more rows x [] each = refl
places_more rows x (l ∷ ls) each =
    let w = each.0 in
    ap (λ o. with_place l.0 o (places (rows ++ x ∷ []) ls))
    (slot_below rows l.1 x w.row w.there ∙ sym w.there)
    ∙ ap (with_place l.0 (slice_get rows l.1)) (places_more rows x ls each.1)

-- the places of writes and one more
pub places_push : (rows : List Stored) (d : Stored) (lwt s : ℕ) (log : List (ℕ × ℕ))
    → slice_get rows s ≡ Some d
    → places rows (log ++ (lwt, s) ∷ []) ≡ places rows log ++ record { lwt = lwt; id = d.state.key }
    ∷ []
places_push rows d lwt s [] at = ap (λ o. with_place lwt o []) at
places_push rows d lwt s (l ∷ ls) at =
    ap (with_place l.0 (slice_get rows l.1)) (places_push rows d lwt s ls at)
    ∙ elim (slice_get rows l.1)
    as (λ o. with_place l.0 o (places rows ls ++ record { lwt = lwt; id = d.state.key } ∷ [])
    ≡ with_place l.0 o (places rows ls) ++ record { lwt = lwt; id = d.state.key } ∷ [])
    [ None ↦ refl | Some e ↦ refl ]

-- what holds of all and of one more
all_push : {A : Type 0} (P : A → Type 0) (xs : List A) (y : A) → AllByRecursion P xs → P y
    → AllByRecursion P (xs ++ y ∷ [])
all_push P [] y all here = (here, tt)
all_push P (x ∷ xs) y all here = (all.0, all_push P xs y all.1 here)

-- rising places and a greater one rise
rising_push : (ps : List Place) (p : Place) → IsStrictlySortedBy place_cmp ps
    → AllByRecursion (λ q. place_cmp q p ≡ Less) ps → IsStrictlySortedBy place_cmp (ps ++ p ∷ [])
unfolding IsStrictlySortedBy
rising_push [] p rising below = (tt, tt)
rising_push (q ∷ ps) p rising below =
    (all_push (λ r. place_cmp q r ≡ Less) ps p rising.0 below.0, rising_push ps p rising.1 below.1)

-- what holds of all holds of the i-th
all_get : {A : Type 0} (P : A → Type 0) (xs : List A) (i : ℕ) (d : A) → i < length xs
    → AllByRecursion P xs
    → P (get_or xs i d)
all_get P [] i d lt all = absurd (omega arith)
all_get P (x ∷ xs) zero d lt all = all.0
all_get P (x ∷ xs) (suc i) d lt all = all_get P xs i d (omega arith) all.1

-- a slot that was written
slot_own : (rows : List Stored) (s : ℕ) (x : Stored) → s < length rows
    → slice_get (set rows s x) s ≡ Some x
slot_own [] s x lt = absurd (omega arith)
slot_own (r ∷ rows) zero x lt = refl
slot_own (r ∷ rows) (suc s) x lt = slot_own rows s x (omega arith)

-- that of a document more
pub slot_end : (rows : List Stored) (x : Stored) → slice_get (rows ++ x ∷ []) (length rows) ≡ Some x
slot_end [] x = refl
slot_end (r ∷ rows) x = slot_end rows x

-- that or an earlier one
pub slot_more : (rows : List Stored) (t : ℕ) (x d : Stored) → slice_get (rows ++ x ∷ []) t ≡ Some d
    → (slice_get rows t ≡ Some d) ⊎ ((t ≡ length rows) × (d ≡ x))
slot_more [] zero x d at = let same : x ≡ d = cc in inr (refl, sym same)
slot_more [] (suc t) x d at = absurd (cc)
slot_more (r ∷ rows) zero x d at = inl at
slot_more (r ∷ rows) (suc t) x d at = elim (slot_more rows t x d at) [
  | inl h ↦ inl h
  | inr h ↦ inr (ap suc h.0, h.1)
]

-- a name that is there is none that isn't
other_name : (names : List (List ℕ × ℕ)) (l k : List ℕ) (t : ℕ) → named names l ≡ Some t
    → named names k ≡ None
    → bytes_eq l k ≡ false
other_name names l k t some none =
    elim (bytes_eq l k) as (λ b. bytes_eq l k ≡ b → b ≡ false) [
      | true ↦ (λ is.
          let same : l ≡ k = (bytes_eq-Decides l k).0 is in
          let clash : Some t ≡ None = sym some ∙ ap (named names) same ∙ none in absurd (cc))
      | false ↦ (λ _. refl)
    ] refl

-- ---- what was logged

no_logged : (lwt s : ℕ) (log : List (ℕ × ℕ)) → length log ≡ 0 → IsLogged lwt s log → ⊥
no_logged lwt s [] none is = is
no_logged lwt s (l ∷ ls) none is = omega arith

logged_more : (lwt s : ℕ) (log : List (ℕ × ℕ)) (l : ℕ × ℕ) → IsLogged lwt s log
    → IsLogged lwt s (log ++ l ∷ [])
logged_more lwt s [] l is = absurd is
logged_more lwt s (m ∷ ls) l is = elim is [ inl h ↦ inl h | inr h ↦ inr (logged_more lwt s ls l h) ]

logged_last : (lwt s : ℕ) (log : List (ℕ × ℕ)) → IsLogged lwt s (log ++ (lwt, s) ∷ [])
logged_last lwt s [] = inl (refl, refl)
logged_last lwt s (m ∷ ls) = inr (logged_last lwt s ls)

-- an earlier write of a slot, or of another one
write_set : (rows : List Stored) (s : ℕ) (old x : Stored) (l : ℕ × ℕ) → slice_get rows s ≡ Some old
    → s < length rows → old.lwt ≤ x.lwt → IsWrite rows l → IsWrite (set rows s x) l
write_set rows s old x l at lt later w = elim (slot_after rows s l.1 x lt) [
  | inl h ↦
      let same : Some old ≡ Some w.row = sym at ∙ ap (slice_get rows) (sym h.0) ∙ w.there in
      let row : old ≡ w.row = cc in
      let le : l.0 ≤ old.lwt = subst (λ (d : Stored). l.0 ≤ d.lwt) (sym row) w.no_later in
      record { row = x; there = h.1; no_later = omega arith }
  | inr h ↦ record { row = w.row; there = h ∙ w.there; no_later = w.no_later }
]

writes_set : (rows : List Stored) (s : ℕ) (old x : Stored) (log : List (ℕ × ℕ))
    → slice_get rows s ≡ Some old
    → s < length rows → old.lwt ≤ x.lwt → AllByRecursion (IsWrite rows) log
    → AllByRecursion (IsWrite (set rows s x)) log
writes_set rows s old x [] at lt later each = tt
writes_set rows s old x (l ∷ ls) at lt later each =
    (write_set rows s old x l at lt later each.0, writes_set rows s old x ls at lt later each.1)

writes_more : (rows : List Stored) (x : Stored) (log : List (ℕ × ℕ))
    → AllByRecursion (IsWrite rows) log
    → AllByRecursion (IsWrite (rows ++ x ∷ [])) log
writes_more rows x [] each = tt
writes_more rows x (l ∷ ls) each =
    let w = each.0 in (
      record { row = w.row; there = slot_below rows l.1 x w.row w.there; no_later = w.no_later },
      writes_more rows x ls each.1,
    )

-- ---- which places stand

-- places alone, as entries
abbrev pub units : List Place → List (Place × Unit {0})
units ps = map (λ p. (p, tt)) ps

keys_units : (ps : List Place) → keys_of (units ps) ≡ ps
keys_units [] = refl
keys_units (p ∷ ps) = ap (λ qs. p ∷ qs) (keys_units ps)

not_true : (b : Bool) → not b ≡ true → b ≡ false
not_true true h = absurd (true≢false (sym h))
not_true false h = refl

not_false : (b : Bool) → not b ≡ false → b ≡ true
not_false true h = refl
not_false false h = absurd (true≢false h)

and_false : (b : Bool) → (b && false) ≡ false
and_false true = refl
and_false false = refl

-- one place of many that pass a test
found_step : (f : Place → Bool) (p q : Place) (b c : Bool) (ps qs : List Place)
    → (b ≡ true → f p ≡ c)
    → is_some (find place_cmp p (units qs)) ≡ (f p && is_some (find place_cmp p (units ps)))
    → eq_by_cmp place_cmp p q ≡ b
    → is_some (find place_cmp p (units (cond c (q ∷ qs) qs)))
    ≡ (f p && is_some (cond b (Some tt) (find place_cmp p (units ps))))
found_step f p q true true ps qs same rest is =
    ap (λ b. is_some (cond b (Some tt) (find place_cmp p (units qs)))) is
    ∙ sym (ap (λ b. b && true) (same refl))
found_step f p q true false ps qs same rest is =
    rest ∙ ap (λ b. b && is_some (find place_cmp p (units ps))) (same refl)
    ∙ sym (ap (λ b. b && true) (same refl))
found_step f p q false true ps qs same rest is =
    ap (λ b. is_some (cond b (Some tt) (find place_cmp p (units qs)))) is ∙ rest
found_step f p q false false ps qs same rest is = rest

tie_is : (p q : Place) → eq_by_cmp place_cmp p q ≡ true → p ≡ q
tie_is p q h =
    elim (place_cmp p q) as (λ o. place_cmp p q ≡ o → is_eq o ≡ true → p ≡ q) [
      | Less ↦ (λ is e. absurd (true≢false (sym e)))
      | Equal ↦ (λ is e. (place_ties p q).0 is)
      | Greater ↦ (λ is e. absurd (true≢false (sym e)))
    ] refl h

tie_itself : (p : Place) → eq_by_cmp place_cmp p p ≡ true
tie_itself p = ap is_eq ((place_ties p p).1 refl)

found_passed : (f : Place → Bool) (p : Place) (ps : List Place)
    → is_some (find place_cmp p (units (filter f ps)))
    ≡ (f p && is_some (find place_cmp p (units ps)))
found_passed f p [] = sym (and_false (f p))
found_passed f p (q ∷ ps) =
    found_step f p q (eq_by_cmp place_cmp p q) (f q) ps (filter f ps)
    (λ tie. ap f (tie_is p q tie)) (found_passed f p ps) refl

-- a write that was logged is found
found_more : (p : Place) (lwt : ℕ) (o : Option Stored) (ps : List Place)
    → is_some (find place_cmp p (units ps)) ≡ true
    → is_some (find place_cmp p (units (with_place lwt o ps))) ≡ true
found_more p lwt None ps found = found
found_more p lwt (Some d) ps found =
    elim (eq_by_cmp place_cmp p (record { lwt = lwt; id = d.state.key }))
    as (λ b. is_some (cond b (Some tt) (find place_cmp p (units ps))) ≡ true)
    [ true ↦ refl | false ↦ found ]

logged_found : (rows : List Stored) (d : Stored) (lwt s : ℕ) (log : List (ℕ × ℕ))
    → slice_get rows s ≡ Some d
    → IsLogged lwt s log
    → is_some (find place_cmp (record { lwt = lwt; id = d.state.key }) (units (places rows log)))
    ≡ true
logged_found rows d lwt s [] at is = absurd is
logged_found rows d lwt s (l ∷ ls) at is =
    let p : Place = record { lwt = lwt; id = d.state.key } in
    elim is [
      | inl h ↦
          let here : slice_get rows l.1 ≡ Some d = ap (slice_get rows) h.1 ∙ at in
          (λ j. is_some (find place_cmp p (units (with_place (h.0 j) (here j) (places rows ls)))))
          ∙ ap (λ b. is_some (cond b (Some tt) (find place_cmp p (units (places rows ls)))))
          (tie_itself p)
      | inr h ↦ found_more p l.0 (slice_get rows l.1) (places rows ls)
          (logged_found rows d lwt s ls at h)
    ]

-- what is seen lies in a slot
shown_slot : (rows : List Stored) (names : List (List ℕ × ℕ)) (k : List ℕ) (d : Stored)
    → AreSlots rows names
    → named (shown rows names) k ≡ Some d → (s : ℕ) × (slice_get rows s ≡ Some d)
shown_slot rows names k d slots is =
    elim (named names k) as (λ o. named names k ≡ o → (s : ℕ) × (slice_get rows s ≡ Some d)) [
      | None ↦ (λ none.
          let no = shown_none rows names k slots.within none in
          let clash : Some d ≡ None = sym is ∙ no in absurd (cc))
      | Some s ↦ (λ some.
          let v = slot_some rows s (named_slot (λ t. t < length rows) names k s slots.within some)
          in
          (s, v.1 ∙ sym (shown_some rows names k s v.0 slots.within some v.1) ∙ is))
    ] refl

-- a name that shows nothing has no slot
pub none_slotted : (rows : List Stored) (names : List (List ℕ × ℕ)) (k : List ℕ)
    → AreSlots rows names → named (shown rows names) k ≡ None → named names k ≡ None
none_slotted rows names k slots none =
    elim (named names k) as (λ o. named names k ≡ o → o ≡ None) [
      | None ↦ (λ is. refl)
      | Some s ↦ (λ is.
          let v = slot_some rows s (named_slot (λ t. t < length rows) names k s slots.within is) in
          let clash : Some v.0 ≡ None =
          sym (shown_some rows names k s v.0 slots.within is v.1) ∙ none in absurd (cc))
    ] refl

-- a document of a slot is the one of its key
keyed_shown : (rows : List Stored) (names : List (List ℕ × ℕ)) (log : List (ℕ × ℕ))
    → AreSlots rows names
    → IsLog rows names log → (s : ℕ) (d : Stored) → slice_get rows s ≡ Some d
    → named (shown rows names) d.state.key ≡ Some d
keyed_shown rows names log slots is s d at =
    shown_some rows names d.state.key s d slots.within (is.keyed s d at) at

-- the document that was written then
written_then : (o : Option Stored) (lwt : ℕ) → was_written_at o lwt ≡ true
    → (d : Stored) × (o ≡ Some d) × (d.lwt ≡ lwt)
written_then None lwt h = absurd (true≢false (sym h))
written_then (Some d) lwt h = (d, refl, eqb-true d.lwt lwt h)

-- where what was written is found, the test alone tells
by_test : (b c : Bool) → (b ≡ true → c ≡ true) → (b && c) ≡ b
by_test true c h = h refl
by_test false c h = refl

module _ (primary : List ℕ) (rows : List Stored) (names : List (List ℕ × ℕ)) (log : List (ℕ × ℕ))
    (slots : AreSlots rows names) (is : IsLog rows names log)
    (rising : AreRising (shown rows names))
    (all : AllByRecursion (λ e. IsHeldAt primary e.0 e.1) (shown rows names)) where
  abbrev documents : Documents
  documents = shown rows names

  -- whether the document of a place's key was written then
  abbrev stands : Place → Bool
  stands p = was_written_at (named documents p.id) p.lwt

  -- then its place was logged
  logged : (p : Place) → stands p ≡ true → is_some (find place_cmp p (units (places rows log)))
      ≡ true
  logged p h =
      let w = written_then (named documents p.id) p.lwt h in
      let s = shown_slot rows names p.id w.0 slots w.1 in
      let key : w.0.state.key ≡ p.id = (at_name (IsHeldAt primary) documents p.id w.0 all w.1).keyed
      in
      let place : record { lwt = w.0.lwt; id = w.0.state.key } ≡ p = λ j.
      record { lwt = w.2 j; id = key j } in
      subst (λ q. is_some (find place_cmp q (units (places rows log))) ≡ true) place
      (logged_found rows w.0 w.0.lwt s.0 log s.1 (is.complete s.0 w.0 s.1))

  -- so those of the log that stand are the places of the documents
  pub standing_are : units (filter stands (places rows log)) ≡ marks (by_place documents)
  standing_are =
      let ps = filter stands (places rows log) in
      same_entries place_cmp place_total (λ p q h. (place_ties p q).0 h) (units ps)
      (marks (by_place documents))
      (rising_test (units ps) (subst (IsStrictlySortedBy place_cmp) (sym (keys_units ps))
      (IsStrictlySortedBy-filter place_cmp stands (places rows log) is.rising)))
      (subst T (sym (sorted_marks (by_place documents))) (sorted_places documents))
      (λ p. one_mark (find place_cmp p (units ps)) (find place_cmp p (marks (by_place documents)))
      (found_passed stands p (places rows log)
      ∙ by_test (stands p) (is_some (find place_cmp p (units (places rows log)))) (logged p)
      ∙ sym (found_marks p (by_place documents) ∙ placed_at primary documents rising all p)))

  -- one write, and then the others
  above_step : (after : Option Place) (p : Place) (d : Stored) (b : Bool) (ps : List Place)
      (ds : List Stored)
      → named documents p.id ≡ Some d
      → ds ≡ standing documents (filter (λ e. is_above after e.0) (units ps))
      → cond (b && is_above after p) (d ∷ ds) ds
      ≡ standing documents (filter (λ e. is_above after e.0) (units (cond b (p ∷ ps) ps)))
  above_step after p d false ps ds at rest = rest
  above_step after p d true ps ds at rest =
      elim (is_above after p) as (λ c. cond c (d ∷ ds) ds
      ≡ standing documents (cond c ((p, tt) ∷ filter (λ e. is_above after e.0) (units ps))
      (filter (λ e. is_above after e.0) (units ps)))) [
        | true ↦ rw at (ap (λ l. d ∷ l) rest)
        | false ↦ rest
      ]

  above_are : (after : Option Place) (ls : List (ℕ × ℕ)) → AllByRecursion (IsWrite rows) ls
      → written_above after rows ls
      ≡ standing documents (filter (λ e. is_above after e.0)
      (units (filter stands (places rows ls))))
  above_are after [] each = refl
  above_are after (l ∷ ls) each =
      let w = each.0 in
      let p : Place = record { lwt = l.0; id = w.row.state.key } in
      let at = keyed_shown rows names log slots is l.1 w.row w.there in
      let ds = written_above after rows ls in
      ap (λ o. with_standing after l.0 o ds) w.there
      ∙ above_step after p w.row (w.row.lwt == l.0) (filter stands (places rows ls)) ds at
      (above_are after ls each.1)
      ∙ ap (λ b. standing documents (filter (λ e. is_above after e.0)
      (units (cond b (p ∷ filter stands (places rows ls)) (filter stands (places rows ls))))))
      (sym (ap (λ o. was_written_at o l.0) at))
      ∙ ap (λ o. standing documents (filter (λ e. is_above after e.0)
      (units (filter stands (with_place l.0 o (places rows ls)))))) (sym w.there)

  -- the documents of the writes above a place are those that the place's page has
  pub above_is : (after : Option Place) → written_above after rows log
      ≡ values_of (filter (λ e. is_above after e.0) (by_place documents))
  above_is after =
      above_are after log is.each
      ∙ ap (λ es. standing documents (filter (λ e. is_above after e.0) es)) standing_are
      ∙ ap (standing documents) (passed_marks (is_above after) (by_place documents))
      ∙ standing-marks documents (filter (λ e. is_above after e.0) (by_place documents))
      (all_passed (λ e. named documents e.0.id ≡ Some e.1) (λ e. is_above after e.0)
      (by_place documents)
      (all_by_place (λ p d. named documents p.id ≡ Some d) documents
      (all_named (λ k d. named documents d.state.key ≡ Some d) documents rising
      (λ k d at. ap (named documents) (at_name (IsHeldAt primary) documents k d all at).keyed
      ∙ at))))

-- ---- from where on a page reads

-- without a place, all that stand
all_above : (rows : List Stored) (log : List (ℕ × ℕ)) → written rows log
    ≡ written_above None rows log
all_above rows [] = refl
all_above rows (l ∷ ls) =
    ap (λ ds. option_to_list (standing_at l.0 (slice_get rows l.1)) ++ ds) (all_above rows ls)
    ∙ elim (slice_get rows l.1) as (λ o. option_to_list (standing_at l.0 o)
    ++ written_above None rows ls
    ≡ with_standing None l.0 o (written_above None rows ls)) [
      | None ↦ refl
      | Some d ↦ elim (d.lwt == l.0) as (λ b. option_to_list (cond b (Some d) None)
          ++ written_above None rows ls
          ≡ cond (b && true) (d ∷ written_above None rows ls) (written_above None rows ls))
          [ true ↦ refl | false ↦ refl ]
    ]

-- a place is up to another, or above it
up_or_above : (p q : Place) → is_le (place_cmp p q) ≡ not (is_above (Some q) p)
up_or_above p q =
    ap is_le (place_total.antisymm p q)
    ∙ elim (place_cmp q p) as (λ o. is_le (ordering_reverse o) ≡ not (is_lt o))
    [ Less ↦ refl | Equal ↦ refl | Greater ↦ refl ]

-- a write that is up to a place does not stand above it
skip_one : (q : Place) (lwt : ℕ) (o : Option Stored) (ds : List Stored) → is_up_to q lwt o ≡ true
    → with_standing (Some q) lwt o ds ≡ ds
skip_one q lwt None ds up = refl
skip_one q lwt (Some d) ds up =
    let p : Place = record { lwt = lwt; id = d.state.key } in
    let below : is_above (Some q) p ≡ false = not_true (is_above (Some q) p)
    (sym (up_or_above p q) ∙ up) in
    ap (λ b. cond ((d.lwt == lwt) && b) (d ∷ ds) ds) below ∙ ap (λ b. cond b (d ∷ ds) ds)
    (and_false (d.lwt == lwt))

-- one that is not does
keep_one : (q : Place) (lwt : ℕ) (o : Option Stored) (ds : List Stored) → is_up_to q lwt o ≡ false
    → with_standing None lwt o ds ≡ with_standing (Some q) lwt o ds
keep_one q lwt None ds above = refl
keep_one q lwt (Some d) ds above =
    let p : Place = record { lwt = lwt; id = d.state.key } in
    let is : is_above (Some q) p ≡ true = not_false (is_above (Some q) p)
    (sym (up_or_above p q) ∙ above) in
    sym (ap (λ b. cond ((d.lwt == lwt) && b) (d ∷ ds) ds) is)

-- those from the first one above the place on
pub skip_to : (rows : List Stored) (q : Place) (i : ℕ) (log : List (ℕ × ℕ)) → i ≤ length log
    → IsPartitionPoint (λ l. is_up_to q l.0 (slice_get rows l.1) ≡ true)
    (λ l. is_up_to q l.0 (slice_get rows l.1) ≡ false) log i
    → written_above None rows (drop i log) ≡ written_above (Some q) rows log
skip_to rows q zero [] le point = refl
skip_to rows q (suc i) [] le point = absurd (omega arith)
skip_to rows q zero (l ∷ ls) le point =
    ap (with_standing None l.0 (slice_get rows l.1)) (skip_to rows q zero ls (omega arith) (
      (λ j d low high. absurd (omega arith)),
      (λ j d low high.
          point.1 (suc j) d (omega arith) (omega arith)),
    ))
    ∙ keep_one q l.0 (slice_get rows l.1) (written_above (Some q) rows ls)
    (point.1 0 l (omega arith) (omega arith))
skip_to rows q (suc i) (l ∷ ls) le point =
    skip_to rows q i ls (omega arith) (
      (λ j d low high. point.0 (suc j) d (omega arith) (omega arith)),
      (λ j d low high. point.1 (suc j) d (omega arith) (omega arith)),
    )
    ∙ sym (skip_one q l.0 (slice_get rows l.1) (written_above (Some q) rows ls)
    (point.0 0 l (omega arith) (omega arith)))

-- a lower place is up to what a greater one is up to
up_lower : (p r q : Place) → place_cmp p r ≡ Less → is_le (place_cmp r q) ≡ true
    → is_le (place_cmp p q) ≡ true
up_lower p r q less le =
    elim (place_cmp r q)
    as (λ o. place_cmp r q ≡ o → is_le o ≡ true → is_le (place_cmp p q) ≡ true) [
      | Less ↦ (λ is h. ap is_le (place_total.trans p r q less is))
      | Equal ↦ (λ is h. ap is_le (ap (place_cmp p) (sym ((place_ties r q).0 is)) ∙ less))
      | Greater ↦ (λ is h. absurd (true≢false (sym h)))
    ] refl le

up_at : (rows : List Stored) (q p : Place) (log : List (ℕ × ℕ)) (j : ℕ) (d : ℕ × ℕ) → j < length log
    → AllByRecursion (IsWrite rows) log → AllByRecursion (λ r. place_cmp p r ≡ Less)
    (places rows log)
    → is_up_to q (get_or log j d).0 (slice_get rows (get_or log j d).1) ≡ true
    → is_le (place_cmp p q) ≡ true
up_at rows q p [] j d lt each all up = absurd (omega arith)
up_at rows q p (l ∷ ls) zero d lt each all up =
    let w = each.0 in
    let there = subst (λ o. AllByRecursion (λ r. place_cmp p r ≡ Less)
    (with_place l.0 o (places rows ls))) w.there all in
    up_lower p (record { lwt = l.0; id = w.row.state.key }) q there.0
    (subst (λ o. is_up_to q l.0 o ≡ true) w.there up)
up_at rows q p (l ∷ ls) (suc j) d lt each all up =
    let w = each.0 in
    let there = subst (λ o. AllByRecursion (λ r. place_cmp p r ≡ Less)
    (with_place l.0 o (places rows ls))) w.there all in
    up_at rows q p ls j d (omega arith) each.1 there.1 up

pub up_first : (rows : List Stored) (q : Place) (log : List (ℕ × ℕ))
    → AllByRecursion (IsWrite rows) log
    → IsStrictlySortedBy place_cmp (places rows log) → IsPartitionedBy
    (λ l. is_up_to q l.0 (slice_get rows l.1)) log
unfolding IsStrictlySortedBy
up_first rows q [] each rising i j d le lt is = absurd (omega arith)
up_first rows q (l ∷ ls) each rising zero zero d le lt is = is
up_first rows q (l ∷ ls) each rising zero (suc j) d le lt is =
    let w = each.0 in
    let up = subst (λ o. IsStrictlySortedBy place_cmp (with_place l.0 o (places rows ls))) w.there
    rising in
    subst (λ o. is_up_to q l.0 o ≡ true) (sym w.there)
    (up_at rows q (record { lwt = l.0; id = w.row.state.key }) ls j d (omega arith) each.1 up.0 is)
up_first rows q (l ∷ ls) each rising (suc i) zero d le lt is = absurd (omega arith)
up_first rows q (l ∷ ls) each rising (suc i) (suc j) d le lt is =
    let w = each.0 in
    let up = subst (λ o. IsStrictlySortedBy place_cmp (with_place l.0 o (places rows ls))) w.there
    rising in
    up_first rows q ls each.1 up.1 i j d (omega arith) (omega arith) is

-- of two places the lower one was written no later
lower : (p q : Place) → place_cmp p q ≡ Less → p.lwt ≤ q.lwt
lower p q less = no_later q p (ap is_lt (place_total.antisymm q p ∙ ap ordering_reverse less))

-- so a later write's time is no less
time_at : (rows : List Stored) (p : Place) (log : List (ℕ × ℕ)) (j : ℕ) (d : ℕ × ℕ) → j < length log
    → AllByRecursion (IsWrite rows) log → AllByRecursion (λ q. place_cmp p q ≡ Less)
    (places rows log)
    → p.lwt ≤ (get_or log j d).0
time_at rows p [] j d lt each all = absurd (omega arith)
time_at rows p (l ∷ ls) j d lt each all =
    let w = each.0 in
    let there = subst (λ o. AllByRecursion (λ q. place_cmp p q ≡ Less)
    (with_place l.0 o (places rows ls))) w.there all in
    elim j as (λ j. j < suc (length ls) → p.lwt ≤ (get_or (l ∷ ls) j d).0) [
      | zero ↦ (λ _. lower p (record { lwt = l.0; id = w.row.state.key }) there.0)
      | suc i ↦ (λ within. time_at rows p ls i d (omega arith) each.1 there.1)
    ] lt

-- ---- the last write

-- no write is later
pub logged_le : (rows : List Stored) (lwt s : ℕ) (log : List (ℕ × ℕ)) (d : ℕ × ℕ)
    → IsLogged lwt s log
    → AllByRecursion (IsWrite rows) log → IsStrictlySortedBy place_cmp (places rows log)
    → lwt ≤ (get_or log (length log - 1) d).0
unfolding IsStrictlySortedBy
logged_le rows lwt s [] d is each rising = absurd is
logged_le rows lwt s (l ∷ []) d is each rising = elim is [
  | inl h ↦
      (let t = h.0 in omega arith)
  | inr h ↦ absurd h
]
logged_le rows lwt s (l ∷ m ∷ ls) d is each rising =
    let w = each.0 in
    let up = subst (λ o. IsStrictlySortedBy place_cmp (with_place l.0 o (places rows (m ∷ ls))))
    w.there rising in
    let two : suc (suc (length ls)) - 1 ≡ suc (length ls) = omega arith in
    let one : length ls ≡ suc (length ls) - 1 = omega arith in
    let at : (get_or (m ∷ ls) (length ls) d).0
    ≡ (get_or (l ∷ m ∷ ls) (suc (suc (length ls)) - 1) d).0 =
    ap (λ i. (get_or (l ∷ m ∷ ls) i d).0) (sym two) in
    let at' : (get_or (m ∷ ls) (suc (length ls) - 1) d).0 ≡ (get_or (m ∷ ls) (length ls) d).0 =
    ap (λ i. (get_or (m ∷ ls) i d).0) (sym one) in
    let first = time_at rows (record { lwt = l.0; id = w.row.state.key }) (m ∷ ls) (length ls) d
    (omega arith) each.1 up.0 in
    elim is [
      | inl h ↦ subst (λ n. lwt ≤ n) at (let t = h.0 in omega arith)
      | inr h ↦ subst (λ n. lwt ≤ n) (at' ∙ at) (logged_le rows lwt s (m ∷ ls) d h each.1 up.1)
    ]

module _ (rows : List Stored) (names : List (List ℕ × ℕ)) (log : List (ℕ × ℕ))
    (slots : AreSlots rows names) (is : IsLog rows names log)
    (rising : AreRising (shown rows names)) where
  -- the time of the last write is the greatest one
  pub last_time : (l : ℕ × ℕ) → (i : ℕ) → i < length log → get_or log (length log - 1) l ≡ l
      → l.0 ≡ last_lwt (shown rows names)
  last_time l i some at =
      let w : IsWrite rows l = subst (IsWrite rows) at (all_get (IsWrite rows) log (length log - 1)
      l (omega arith) is.each) in
      let held = within_last (shown rows names) w.row.state.key w.row
      (keyed_shown rows names log slots is l.1 w.row w.there) in
      let upper : last_lwt (shown rows names) ≤ l.0 =
      last-le l.0 (shown rows names) (all_named (λ k d. d.lwt ≤ l.0) (shown rows names) rising
      (λ k d found.
      let s = shown_slot rows names k d slots found in
      subst (λ (m : ℕ × ℕ). d.lwt ≤ m.0) at
      (logged_le rows d.lwt s.0 log l (is.complete s.0 d s.1) is.each is.rising))) in
      let lower = w.no_later in
      omega arith

  -- where nothing was written there is nothing
  pub none_time : length log ≡ 0 → 0 ≡ last_lwt (shown rows names)
  none_time none =
      let upper : last_lwt (shown rows names) ≤ 0 =
      last-le 0 (shown rows names) (all_named (λ k d. d.lwt ≤ 0) (shown rows names) rising
      (λ k d found.
      let s = shown_slot rows names k d slots found in
      absurd (no_logged d.lwt s.0 log none (is.complete s.0 d s.1)))) in
      omega arith

-- ---- a row more

-- its place is above those of all writes
below_row : (rows : List Stored) (row : Stored) (log : List (ℕ × ℕ))
    → AllByRecursion (IsWrite rows) log
    → ((s : ℕ) (d : Stored) → slice_get rows s ≡ Some d → place_cmp (place_of d) (place_of row)
    ≡ Less)
    → AllByRecursion (λ q. place_cmp q (place_of row) ≡ Less) (places rows log)
below_row rows row [] each below = tt
below_row rows row (l ∷ ls) each below =
    let w = each.0 in
    let p : Place = record { lwt = l.0; id = w.row.state.key } in
    let last = below l.1 w.row w.there in
    let here : place_cmp p (place_of row) ≡ Less = elim (cases_eq l.0 w.row.lwt) [
      | inl same ↦ (λ j. place_cmp (record { lwt = same j; id = w.row.state.key }) (place_of row))
          ∙ last
      | inr differs ↦
          let le = lower (place_of w.row) (place_of row) last in
          let first = w.no_later in
          let less : nat_cmp l.0 row.lwt ≡ Less = grind (arith, nat_tests) in rw less refl
    ] in
    subst (λ o. AllByRecursion (λ q. place_cmp q (place_of row) ≡ Less)
    (with_place l.0 o (places rows ls)))
    (sym w.there) (here, below_row rows row ls each.1 below)

-- in the place of another of its key
pub log_old : (rows : List Stored) (names : List (List ℕ × ℕ)) (log : List (ℕ × ℕ)) (s : ℕ)
    (old row : Stored)
    → IsLog rows names log → s < length rows → slice_get rows s ≡ Some old
    → old.state.key ≡ row.state.key
    → named names row.state.key ≡ Some s → old.lwt ≤ row.lwt
    → ((s : ℕ) (d : Stored) → slice_get rows s ≡ Some d → place_cmp (place_of d) (place_of row)
    ≡ Less)
    → IsLog (set rows s row) names (log ++ (row.lwt, s) ∷ [])
log_old rows names log s old row is lt at same here later below =
    let own : slice_get (set rows s row) s ≡ Some row = slot_own rows s row lt in
    record {
      keyed = λ t d found. elim (slot_after rows s t row lt) [
        | inl h ↦
            let row_is : Some row ≡ Some d = sym h.1 ∙ found in
            let equal : row ≡ d = cc in
            subst (λ (x : Stored). named names x.state.key ≡ Some t) equal
            (here ∙ ap Some (sym h.0))
        | inr h ↦ is.keyed t d (sym h ∙ found)
      ];
      each = all_push (IsWrite (set rows s row)) log (row.lwt, s)
          (writes_set rows s old row log at lt later is.each)
          (record { row = row; there = own; no_later = omega arith });
      complete = λ t d found. elim (slot_after rows s t row lt) [
        | inl h ↦
            let row_is : Some row ≡ Some d = sym h.1 ∙ found in
            let equal : row ≡ d = cc in
            subst (λ (x : Stored). IsLogged x.lwt t (log ++ (row.lwt, s) ∷ [])) equal
            (subst (λ q. IsLogged row.lwt q (log ++ (row.lwt, s) ∷ [])) (sym h.0)
            (logged_last row.lwt s log))
        | inr h ↦ logged_more d.lwt t log (row.lwt, s) (is.complete t d (sym h ∙ found))
      ];
      rising = subst (IsStrictlySortedBy place_cmp)
          (ap (λ ps. ps ++ place_of row ∷ []) (sym (places_set rows s old row log at same lt))
          ∙ sym (places_push (set rows s row) row row.lwt s log own))
          (rising_push (places rows log) (place_of row) is.rising
          (below_row rows row log is.each below));
    }

-- of a new key
pub log_new : (rows : List Stored) (names : List (List ℕ × ℕ)) (log : List (ℕ × ℕ)) (row : Stored)
    → IsLog rows names log → named names row.state.key ≡ None
    → ((s : ℕ) (d : Stored) → slice_get rows s ≡ Some d → place_cmp (place_of d) (place_of row)
    ≡ Less)
    → IsLog (rows ++ row ∷ []) (put_in_order names row.state.key (length rows))
    (log ++ (row.lwt, length rows) ∷ [])
log_new rows names log row is none below =
    let k = row.state.key in
    let n = length rows in
    let own : slice_get (rows ++ row ∷ []) n ≡ Some row = slot_end rows row in
    record {
      keyed = λ t d found. elim (slot_more rows t row d found) [
        | inl h ↦
            named-put_in_order names k d.state.key n
            ∙ ap (λ b. cond b (Some n) (named names d.state.key))
            (other_name names d.state.key k t (is.keyed t d h) none)
            ∙ is.keyed t d h
        | inr h ↦
            ap (λ (x : Stored). named (put_in_order names k n) x.state.key) h.1
            ∙ named-put_in_order names k k n
            ∙ ap (λ b. cond b (Some n) (named names k)) (bytes_itself k) ∙ ap Some (sym h.0)
      ];
      each = all_push (IsWrite (rows ++ row ∷ [])) log (row.lwt, n)
          (writes_more rows row log is.each)
          (record { row = row; there = own; no_later = omega arith });
      complete = λ t d found. elim (slot_more rows t row d found) [
        | inl h ↦ logged_more d.lwt t log (row.lwt, n) (is.complete t d h)
        | inr h ↦
            subst (λ (x : Stored). IsLogged x.lwt t (log ++ (row.lwt, n) ∷ [])) (sym h.1)
            (subst (λ q. IsLogged row.lwt q (log ++ (row.lwt, n) ∷ [])) (sym h.0)
            (logged_last row.lwt n log))
      ];
      rising = subst (IsStrictlySortedBy place_cmp)
          (ap (λ ps. ps ++ place_of row ∷ []) (sym (places_more rows row log is.each))
          ∙ sym (places_push (rows ++ row ∷ []) row row.lwt n log own))
          (rising_push (places rows log) (place_of row) is.rising
          (below_row rows row log is.each below));
    }

-- ---- pages

-- what a page reads from where it begins is what stands above its place
pub page_none : (primary : List ℕ) (rows : List Stored) (names : List (List ℕ × ℕ))
    (log : List (ℕ × ℕ)) (n : ℕ)
    → AreSlots rows names → IsLog rows names log → AreRising (shown rows names)
    → AllByRecursion (λ e. IsHeldAt primary e.0 e.1) (shown rows names)
    → take n (written rows log) ≡ since (shown rows names) None n
page_none primary rows names log n slots is rising all =
    ap (take n) (all_above rows log ∙ above_is primary rows names log slots is rising all None)

pub page_some : (primary : List ℕ) (rows : List Stored) (names : List (List ℕ × ℕ))
    (log : List (ℕ × ℕ)) (q : Place)
    (i n : ℕ) → AreSlots rows names → IsLog rows names log → AreRising (shown rows names)
    → AllByRecursion (λ e. IsHeldAt primary e.0 e.1) (shown rows names) → i ≤ length log
    → IsPartitionPoint (λ l. is_up_to q l.0 (slice_get rows l.1) ≡ true)
    (λ l. is_up_to q l.0 (slice_get rows l.1) ≡ false) log i
    → take n (written rows (drop i log)) ≡ since (shown rows names) (Some q) n
page_some primary rows names log q i n slots is rising all le point =
    ap (take n) (all_above rows (drop i log) ∙ skip_to rows q i log le point
    ∙ above_is primary rows names log slots is rising all (Some q))

-- ---- what a collection keeps

-- what is read at an index is there
pub got : {A : Type 0} (xs : List A) (i : ℕ) (x : A) → slice_get xs i ≡ Some x
    → (i < length xs) × (get_or xs i x ≡ x)
got [] i x at = absurd (cc)
got (y ∷ xs) zero x at = (omega arith, cc)
got (y ∷ xs) (suc i) x at = let rest = got xs i x at in (omega (arith, rest.0), rest.1)

-- where there is no last one there is none
pub no_last : {A : Type 0} (xs : List A) → slice_get xs (length xs - 1) ≡ None → length xs ≡ 0
no_last [] at = refl
no_last (x ∷ xs) at =
    let i : suc (length xs) - 1 ≡ length xs = omega arith in
    absurd (some_none (x ∷ xs) (length xs) (omega arith) (ap (slice_get (x ∷ xs)) (sym i) ∙ at))
  where
    some_none : {A : Type 0} (ys : List A) (j : ℕ) → j < length ys → slice_get ys j ≡ None → ⊥
    some_none [] j lt is = omega arith
    some_none (y ∷ ys) zero lt is = absurd (cc)
    some_none (y ∷ ys) (suc j) lt is = some_none ys j (omega arith) is

-- nothing
pub whole_none : (name : List ℕ) (schema : Shape) → IsWhole name schema [] [] []
unfolding IsStrictlySortedBy
whole_none name schema = record {
  lawful = record { rising = tt; each = tt };
  slots = record { rising = tt; within = tt; apart = tt };
  many = refl;
  logged = record {
    keyed = λ s d at. absurd (cc);
    each = tt;
    complete = λ s d at. absurd (cc);
    rising = tt;
  };
}

-- a row more
pub whole_put : (name : List ℕ) (schema : Shape) (rows : List Stored) (names : List (List ℕ × ℕ))
    (log : List (ℕ × ℕ))
    (row : Stored) (rows' : List Stored) (names' : List (List ℕ × ℕ)) (s : ℕ)
    → IsWhole name schema rows names log
    → IsNext (held_with name schema (shown rows names)) row → IsWritten rows names row rows' names'
    s
    → IsWhole name schema rows' names' (log ++ (row.lwt, s) ∷ [])
    × (shown rows' names' ≡ put_in_order (shown rows names) row.state.key row)
whole_put name schema rows names log row rows' names' s whole next is =
    let c = held_with name schema (shown rows names) in
    let k = row.state.key in
    let put = lawful_put c row whole.lawful next in
    let below : (t : ℕ) (d : Stored) → slice_get rows t ≡ Some d
    → place_cmp (place_of d) (place_of row) ≡ Less =
    λ t d at. at_name (λ k d. place_cmp (place_of d) (place_of row) ≡ Less) (shown rows names)
    d.state.key d next.above
    (keyed_shown rows names log whole.slots whole.logged t d at) in
    elim is [
      | inl h ↦
          let lt = named_slot (λ t. t < length rows) names k s whole.slots.within h.0 in
          let v = slot_some rows s lt in
          let l = later c row whole.lawful next v.0 (shown_some rows names k s v.0
          whole.slots.within h.0 v.1) in
          let earlier = l.3 in
          let seen = put_old rows names k s row whole.slots h.0 in
          let log' = log ++ (row.lwt, s) ∷ [] in
          let at : IsWhole name schema (set rows s row) names log' = record {
            lawful = subst (λ ds. IsLawful (held_with name schema ds)) (sym seen) put;
            slots = slots_old rows names s row whole.slots;
            many = length_set rows s row ∙ whole.many;
            logged = log_old rows names log s v.0 row whole.logged lt v.1 l.0 h.0 (omega arith)
                below;
          } in (
            subst (λ r. IsWhole name schema r names' log') (sym h.1)
                (subst (λ n. IsWhole name schema (set rows s row) n log') (sym h.2) at),
            (λ j. shown (h.1 j) (h.2 j)) ∙ seen,
          )
      | inr h ↦
          let seen = put_new rows names k row whole.slots.within h.0 in
          let n = length rows in
          let log' = log ++ (row.lwt, n) ∷ [] in
          let names_are : names' ≡ put_in_order names k n = h.3 ∙ ap (put_in_order names k) h.1 in
          let at : IsWhole name schema (rows ++ row ∷ []) (put_in_order names k n) log' = record {
            lawful = subst (λ ds. IsLawful (held_with name schema ds)) (sym seen) put;
            slots = slots_new rows names k row whole.slots;
            many = length-append rows (row ∷ []) ∙ ap (λ m. m + 1) whole.many
                ∙ sym (length_put-new names k n h.0);
            logged = log_new rows names log row whole.logged h.0 below;
          } in (
            subst (λ t. IsWhole name schema rows' names' (log ++ (row.lwt, t) ∷ [])) (sym h.1)
                (subst (λ r. IsWhole name schema r names' log') (sym h.2)
                (subst (λ n. IsWhole name schema (rows ++ row ∷ []) n log') (sym names_are) at)),
            (λ j. shown (h.2 j) (names_are j)) ∙ seen,
          )
    ]

-- ---- one document after another

take_none : {A : Type 0} (n : ℕ) → take {A = A} n [] ≡ []
take_none zero = refl
take_none (suc n) = refl

pub page_step : (s t : List Stored) (n m : ℕ) (r : Option (Bor Stored)) → n ≡ suc m
    → IfNone r (s ≡ [])
    → IfNone r (t ≡ []) → IfSome r (λ d. s ≡ d.now ∷ t) → TakesFirst deref (take n s) r (take m t)
page_step s t n m None more none end some =
    (ap (take n) none ∙ take_none n, ap (take m) end ∙ take_none m)
page_step s t n m (Some d) more none end some = rw (more, some) refl

-- ---- the log without stale writes

-- a write that stands is kept
logged_kept : (rows : List Stored) (d : Stored) (s : ℕ) (log : List (ℕ × ℕ))
    → slice_get rows s ≡ Some d
    → IsLogged d.lwt s log → IsLogged d.lwt s (filter (is_standing rows) log)
logged_kept rows d s [] at is = absurd is
logged_kept rows d s (l ∷ ls) at is = elim is [
  | inl h ↦
      let here : slice_get rows l.1 ≡ Some d = ap (slice_get rows) h.1 ∙ at in
      let yes : is_standing rows l ≡ true =
      ap (λ o. is_some (standing_at l.0 o)) here
      ∙ ap (λ b. is_some (cond b (Some d) None)) (eq-eqb d.lwt l.0 (sym h.0)) in
      subst (λ b. IsLogged d.lwt s (cond b (l ∷ filter (is_standing rows) ls)
      (filter (is_standing rows) ls))) (sym yes)
      (inl h)
  | inr h ↦
      let rest = logged_kept rows d s ls at h in
      elim (is_standing rows l)
      as (λ b. IsLogged d.lwt s (cond b (l ∷ filter (is_standing rows) ls)
      (filter (is_standing rows) ls)))
      [ true ↦ inr rest | false ↦ rest ]
]

-- what holds of the places of all writes holds of those kept
places_kept : (P : Place → Type 0) (f : ℕ × ℕ → Bool) (rows : List Stored) (log : List (ℕ × ℕ))
    → AllByRecursion P (places rows log) → AllByRecursion P (places rows (filter f log))
places_kept P f rows [] all = tt
places_kept P f rows (l ∷ ls) all =
    elim (slice_get rows l.1)
    as (λ o. slice_get rows l.1 ≡ o → AllByRecursion P (with_place l.0 o (places rows ls))
    → AllByRecursion P (places rows (cond (f l) (l ∷ filter f ls) (filter f ls)))) [
      | None ↦ (λ is h.
          let rest = places_kept P f rows ls h in
          elim (f l) as (λ b. AllByRecursion P
          (places rows (cond b (l ∷ filter f ls) (filter f ls)))) [
            | true ↦ subst (λ o. AllByRecursion P (with_place l.0 o (places rows (filter f ls))))
                (sym is) rest
            | false ↦ rest
          ])
      | Some d ↦ (λ is h.
          let rest = places_kept P f rows ls h.1 in
          elim (f l) as (λ b. AllByRecursion P
          (places rows (cond b (l ∷ filter f ls) (filter f ls)))) [
            | true ↦ subst (λ o. AllByRecursion P (with_place l.0 o (places rows (filter f ls))))
                (sym is) (h.0, rest)
            | false ↦ rest
          ])
    ] refl all

rising_kept : (f : ℕ × ℕ → Bool) (rows : List Stored) (log : List (ℕ × ℕ))
    → AllByRecursion (IsWrite rows) log
    → IsStrictlySortedBy place_cmp (places rows log) → IsStrictlySortedBy place_cmp
    (places rows (filter f log))
unfolding IsStrictlySortedBy
rising_kept f rows [] each rising = tt
rising_kept f rows (l ∷ ls) each rising =
    let w = each.0 in
    let p : Place = record { lwt = l.0; id = w.row.state.key } in
    let up = subst (λ o. IsStrictlySortedBy place_cmp (with_place l.0 o (places rows ls))) w.there
    rising in
    let rest = rising_kept f rows ls each.1 up.1 in
    elim (f l) as (λ b. IsStrictlySortedBy place_cmp (places rows
    (cond b (l ∷ filter f ls) (filter f ls)))) [
      | true ↦ subst (λ o. IsStrictlySortedBy place_cmp (with_place l.0 o
          (places rows (filter f ls)))) (sym w.there)
          (places_kept (λ q. place_cmp p q ≡ Less) f rows ls up.0, rest)
      | false ↦ rest
    ]

each_kept : {A : Type 0} (P : A → Type 0) (f : A → Bool) (xs : List A) → AllByRecursion P xs
    → AllByRecursion P (filter f xs)
each_kept P f [] all = tt
each_kept P f (x ∷ xs) all =
    elim (f x) as (λ b. AllByRecursion P (cond b (x ∷ filter f xs) (filter f xs)))
    [ true ↦ (all.0, each_kept P f xs all.1) | false ↦ each_kept P f xs all.1 ]

pub whole_kept : (name : List ℕ) (schema : Shape) (rows : List Stored) (names : List (List ℕ × ℕ))
    (log : List (ℕ × ℕ))
    → IsWhole name schema rows names log → IsWhole name schema rows names
    (filter (is_standing rows) log)
whole_kept name schema rows names log whole = record {
  lawful = whole.lawful;
  slots = whole.slots;
  many = whole.many;
  logged = record {
    keyed = whole.logged.keyed;
    each = each_kept (IsWrite rows) (is_standing rows) log whole.logged.each;
    complete = λ s d at. logged_kept rows d s log at (whole.logged.complete s d at);
    rising = rising_kept (is_standing rows) rows log whole.logged.each whole.logged.rising;
  };
}
