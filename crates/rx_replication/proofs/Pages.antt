-- Pages: the first documents by place that pass a test.
use Rattle.std.proofs.Common.{T, ◌≡◌, ◌≢◌, ℕ, zero, suc, ◌<◌, ◌≤◌, Bool, true, false, cond, ◌&&◌, List, [], ◌∷◌, take, length, filter, Option, Some, refl, sym, ap, ◌∙◌, ◌⊎◌, inl, inr, subst, arith, true≢false, Ordering, Less, Equal, Greater, is_lt}
use Rattle.std.specs.FinMap.Entries.{find, is_sorted, below_all, find-put, is_sorted-put}
use Rattle.std.specs.List.{AllByRecursion}
use Rattle.std.specs.Map.{values_of}
use Rattle.std.specs.Ordering.{eq_by_cmp}
use Rattle.std.specs.Str.{bytes_eq}
use Rattle.rx_value.specs.Named.{named}
use Rattle.rx_value.proofs.Bytes.{bytes_itself}
use Rattle.rx_value.proofs.Outcomes.{some_same, not_none}
use Rattle.rx_document.specs.Documents.{Documents}
use Rattle.rx_document.specs.Place.{place_cmp, place_total}
use Rattle.rx_document.specs.declared.place.Place.{Place}
use Rattle.rx_document.specs.declared.stored.Stored.{Stored}
use Rattle.rx_document.proofs.Places.{place_eq-Decides}
use Rattle.rx_collection.specs.Since.{place_of, by_place, is_above, since}
use Rattle.rx_collection.proofs.Named.{all_named}
use Rattle.rx_collection.proofs.Pages.{all_by_place}
use Rattle.rx_replication.specs.Master.{last_place}
use Rattle.rx_replication.specs.Member.{Member}
use Rattle.rx_replication.specs.Write.{is_up_to, AreByKey}
use Rattle.rx_replication.proofs.Commits.{key_at}
use Rattle.rx_replication.proofs.Lists.{all_at, to_filter, from_filter, from_take, take_few, from_values_of}
use Rattle.rx_replication.proofs.Orders.{above-up_to}

-- the documents in the order of their places
abbrev pub placed : Documents → List Stored
placed documents = values_of (by_place documents)

-- the places rise
abbrev pub Rise : List Stored → Type 0
Rise [] = Unit {0}
Rise (d ∷ ds) =
    ((e : Stored) → Member e ds → place_cmp (place_of d) (place_of e) ≡ Less) × Rise ds

-- ---- the documents by place are the documents

-- each stands at its place, and is held
pub are_placed : (documents : Documents) → AreByKey documents
    → AllByRecursion (λ e. (e.0 ≡ place_of e.1) × (named documents e.1.state.key ≡ Some e.1))
    (by_place documents)
are_placed documents by_key =
    all_by_place (λ p d. (p ≡ place_of d) × (named documents d.state.key ≡ Some d)) documents
    (all_named (λ k d. (place_of d ≡ place_of d) × (named documents d.state.key ≡ Some d))
    documents by_key.rising
    (λ k d at. (refl, ap (named documents) (key_at documents k d by_key at) ∙ at)))

pub from_placed : (documents : Documents) (d : Stored) → AreByKey documents
    → Member d (placed documents) → named documents d.state.key ≡ Some d
from_placed documents d by_key h =
    let e = from_values_of (by_place documents) d h in
    let at = (all_at (λ e. (e.0 ≡ place_of e.1) × (named documents e.1.state.key ≡ Some e.1))
    (by_place documents) e.0 (are_placed documents by_key) e.1).1 in
    subst (λ (z : Stored). named documents z.state.key ≡ Some z) (sym e.2) at

-- places of documents with other keys differ
pub other_place : (d e : Stored) → d.state.key ≢ e.state.key
    → eq_by_cmp place_cmp (place_of d) (place_of e) ≡ false
other_place d e apart =
    elim (eq_by_cmp place_cmp (place_of d) (place_of e))
    as (λ b. eq_by_cmp place_cmp (place_of d) (place_of e) ≡ b → b ≡ false) [
      | true ↦ (λ h. absurd (apart
          (ap (λ (p : Place). p.id) ((place_eq-Decides (place_of d) (place_of e)).0 h))))
      | false ↦ (λ h. refl)
    ] refl

found_placed : (es : Documents) (k : List ℕ) (d : Stored)
    → AllByRecursion (λ e. e.1.state.key ≡ e.0) es → d.state.key ≡ k → named es k ≡ Some d
    → find place_cmp (place_of d) (by_place es) ≡ Some d
found_placed [] k d keyed key at = not_none at
found_placed (e ∷ es) k d keyed key at =
    find-put place_cmp place_total (place_of d) (place_of e.1) e.1 (by_place es)
    ∙ elim (bytes_eq k e.0) as (λ b. bytes_eq k e.0 ≡ b → cond b (Some e.1) (named es k) ≡ Some d
    → cond (eq_by_cmp place_cmp (place_of d) (place_of e.1)) (Some e.1)
    (find place_cmp (place_of d) (by_place es)) ≡ Some d) [
      | true ↦ (λ h is.
          let same : e.1 ≡ d = some_same is in
          let ties = (place_eq-Decides (place_of d) (place_of e.1)).1 (ap place_of (sym same)) in
          ap (λ b. cond b (Some e.1) (find place_cmp (place_of d) (by_place es))) ties
          ∙ ap Some same)
      | false ↦ (λ h is.
          let apart = other_place d e.1 (λ same. true≢false
          (sym (bytes_itself k) ∙ ap (bytes_eq k) (sym key ∙ same ∙ keyed.0) ∙ h)) in
          ap (λ b. cond b (Some e.1) (find place_cmp (place_of d) (by_place es))) apart
          ∙ found_placed es k d keyed.1 key is)
    ] refl at

to_entry : (p : Place) (d : Stored) (es : List (Place × Stored)) → find place_cmp p es ≡ Some d
    → Member d (values_of es)
to_entry p d [] at = not_none at
to_entry p d (e ∷ es) at =
    elim (eq_by_cmp place_cmp p e.0)
    as (λ b. cond b (Some e.1) (find place_cmp p es) ≡ Some d → Member d (values_of (e ∷ es))) [
      | true ↦ (λ is. inl (sym (some_same is)))
      | false ↦ (λ is. inr (to_entry p d es is))
    ] at

pub to_placed : (documents : Documents) (k : List ℕ) (d : Stored) → AreByKey documents
    → named documents k ≡ Some d → Member d (placed documents)
to_placed documents k d by_key at =
    to_entry (place_of d) d (by_place documents)
    (found_placed documents k d by_key.keyed (key_at documents k d by_key at) at)

-- ---- in rising order

sorted_places : (es : Documents) → T (is_sorted place_cmp (by_place es))
sorted_places [] = tt
sorted_places (e ∷ es) =
    is_sorted-put place_cmp place_total (place_of e.1) e.1 (by_place es) (sorted_places es)

both_of : (a b : Bool) → T (a && b) → T a × T b
both_of true b h = (tt, h)
both_of false b h = absurd h

less_of : (r : Ordering) → T (is_lt r) → r ≡ Less
less_of Less h = refl
less_of Equal h = absurd h
less_of Greater h = absurd h

below_each : (p : Place) (es : List (Place × Stored)) (d : Stored)
    → AllByRecursion (λ e. e.0 ≡ place_of e.1) es → T (below_all place_cmp p es)
    → Member d (values_of es) → place_cmp p (place_of d) ≡ Less
below_each p [] d placed h m = absurd m
below_each p (e ∷ es) d placed h (inl is) =
    ap (place_cmp p) (ap place_of is ∙ sym placed.0) ∙ less_of _ (both_of _ _ h).0
below_each p (e ∷ es) d placed h (inr m) = below_each p es d placed.1 (both_of _ _ h).1 m

rise_by : (es : List (Place × Stored)) → AllByRecursion (λ e. e.0 ≡ place_of e.1) es
    → T (is_sorted place_cmp es) → Rise (values_of es)
rise_by [] placed h = tt
rise_by (e ∷ es) placed h = (
  λ d m. ap (λ (p : Place). place_cmp p (place_of d)) (sym placed.0)
      ∙ below_each e.0 es d placed.1 (both_of _ _ h).0 m,
  rise_by es placed.1 (both_of _ _ h).1,
)

first_parts : (P Q : Place × Stored → Type 0) (es : List (Place × Stored))
    → AllByRecursion (λ e. P e × Q e) es → AllByRecursion P es
first_parts P Q [] all = tt
first_parts P Q (e ∷ es) all = (all.0.0, first_parts P Q es all.1)

at_places : (documents : Documents) → AreByKey documents
    → AllByRecursion (λ e. e.0 ≡ place_of e.1) (by_place documents)
at_places documents by_key =
    first_parts (λ e. e.0 ≡ place_of e.1) (λ e. named documents e.1.state.key ≡ Some e.1)
    (by_place documents)
    (are_placed documents by_key)

pub rise-placed : (documents : Documents) → AreByKey documents → Rise (placed documents)
rise-placed documents by_key =
    rise_by (by_place documents) (at_places documents by_key) (sorted_places documents)

pub rise-filter : (test : Stored → Bool) (ds : List Stored) → Rise ds → Rise (filter test ds)
rise-filter test [] rise = tt
rise-filter test (d ∷ ds) rise =
    elim (test d) as (λ b. Rise (cond b (d ∷ filter test ds) (filter test ds))) [
      | true ↦ (λ e m. rise.0 e (from_filter test ds e m).0, rise-filter test ds rise.1)
      | false ↦ rise-filter test ds rise.1
    ]

pub rise-take : (n : ℕ) (ds : List Stored) → Rise ds → Rise (take n ds)
rise-take zero ds rise = tt
rise-take (suc n) [] rise = tt
rise-take (suc n) (d ∷ ds) rise = (λ e m. rise.0 e (from_take n ds e m), rise-take n ds rise.1)

-- ---- a page

-- the first n by place that pass a test
abbrev pub page : Documents → (Stored → Bool) → ℕ → List Stored
page documents test n = take n (filter test (placed documents))

take_whole : (n : ℕ) (ds : List Stored) (p : Option Place) (d : Stored) → Rise ds → Member d ds
    → is_up_to (place_of d) (last_place p (take (suc n) ds)) ≡ true → Member d (take (suc n) ds)
take_whole n [] p d rise m h = absurd m
take_whole n (e ∷ es) p d rise (inl is) h = inl is
take_whole zero (e ∷ es) p d rise (inr m) h =
    absurd (true≢false (sym h ∙ above-up_to (place_of e) (place_of d) (rise.0 d m)))
take_whole (suc n) (e ∷ es) p d rise (inr m) h =
    inr (take_whole n es (Some (place_of e)) d rise.1 m h)

module _ (documents : Documents) (by_key : AreByKey documents) (test : Stored → Bool) (n : ℕ) where
  -- its documents are held and pass
  pub page_held : (d : Stored) → Member d (page documents test n)
      → (named documents d.state.key ≡ Some d) × (test d ≡ true)
  page_held d m =
      let passed = from_filter test (placed documents) d
      (from_take n (filter test (placed documents)) d m) in
      (from_placed documents d by_key passed.0, passed.1)

  -- those that pass, up to its last place, are all in it
  pub page_whole : (p : Option Place) (k : List ℕ) (d : Stored) → 1 ≤ n
      → named documents k ≡ Some d → test d ≡ true
      → is_up_to (place_of d) (last_place p (page documents test n)) ≡ true
      → Member d (page documents test n)
  page_whole p k d some at passes h =
      whole_by n some p d
      (to_filter test (placed documents) d (to_placed documents k d by_key at) passes) h
    where
      whole_by : (n : ℕ) → 1 ≤ n → (p : Option Place) (d : Stored)
          → Member d (filter test (placed documents))
          → is_up_to (place_of d) (last_place p (page documents test n)) ≡ true
          → Member d (page documents test n)
      whole_by zero some p d m h = absurd (omega arith)
      whole_by (suc n) some p d m h =
          take_whole n (filter test (placed documents)) p d
          (rise-filter test (placed documents) (rise-placed documents by_key)) m h

  -- and all that pass, where it has fewer than n
  pub page_few : (k : List ℕ) (d : Stored) → length (page documents test n) < n
      → named documents k ≡ Some d → test d ≡ true → Member d (page documents test n)
  page_few k d few at passes =
      subst (Member d) (sym (take_few n (filter test (placed documents)) few))
      (to_filter test (placed documents) d (to_placed documents k d by_key at) passes)

  pub page_rises : Rise (page documents test n)
  page_rises =
      rise-take n (filter test (placed documents))
      (rise-filter test (placed documents) (rise-placed documents by_key))

-- the last place is that of one of them, or the given one
pub last_place_is : (p : Option Place) (ds : List Stored)
    → ((ds ≡ []) × (last_place p ds ≡ p))
    ⊎ ((d : Stored) × Member d ds × (last_place p ds ≡ Some (place_of d)))
last_place_is p [] = inl (refl, refl)
last_place_is p (d ∷ ds) =
    elim (last_place_is (Some (place_of d)) ds) [
      | inl none ↦ inr (d, inl refl, none.1)
      | inr some ↦ inr (some.0, inr some.1, some.2)
    ]

-- ---- changes since a place

values_of-filter : (test : Place → Bool) (es : List (Place × Stored))
    → AllByRecursion (λ e. e.0 ≡ place_of e.1) es
    → values_of (filter (λ e. test e.0) es) ≡ filter (λ d. test (place_of d)) (values_of es)
values_of-filter test [] placed = refl
values_of-filter test (e ∷ es) placed =
    let rest = values_of-filter test es placed.1 in
    ap (λ (p : Place). values_of (cond (test p) (e ∷ filter (λ e. test e.0) es)
    (filter (λ e. test e.0) es))) placed.0
    ∙ (elim (test (place_of e.1)) as (λ b. values_of (cond b (e ∷ filter (λ e. test e.0) es)
    (filter (λ e. test e.0) es))
    ≡ cond b (e.1 ∷ filter (λ d. test (place_of d)) (values_of es))
    (filter (λ d. test (place_of d)) (values_of es)))
    [ true ↦ ap (λ ds. e.1 ∷ ds) rest | false ↦ rest ])

-- above the checkpoint
abbrev pub stands_above : Option Place → Stored → Bool
stands_above checkpoint d = is_above checkpoint (place_of d)

-- the documents above the checkpoint, by rising place
pub above-placed : (documents : Documents) → AreByKey documents → (checkpoint : Option Place)
    → values_of (filter (λ e. is_above checkpoint e.0) (by_place documents))
    ≡ filter (stands_above checkpoint) (placed documents)
above-placed documents by_key checkpoint =
    values_of-filter (is_above checkpoint) (by_place documents) (at_places documents by_key)

-- changes since a place are a page
pub since-page : (documents : Documents) → AreByKey documents → (checkpoint : Option Place) (n : ℕ)
    → since documents checkpoint n ≡ page documents (stands_above checkpoint) n
since-page documents by_key checkpoint n = ap (take n) (above-placed documents by_key checkpoint)
