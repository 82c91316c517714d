-- Pages: the places of documents in order, and the documents that stand at them.
use Rattle.std.proofs.Common.{T, ◌≡◌, ℕ, ◌==◌, ◌&&◌, Bool, true, false, cond, List, [], ◌∷◌, map, filter, Option, Some, None, is_some, Less, Equal, Greater, refl, sym, ap, ◌∙◌, subst, true≢false}
use Rattle.std.specs.FinMap.Entries.{put, find, is_sorted, below_all, by_order, find-put, is_sorted-put}
use Rattle.std.specs.List.{AllByRecursion, filter_map}
use Rattle.std.specs.List.Sorted.{IsStrictlySortedBy}
use Rattle.std.specs.Map.{keys_of, values_of}
use Rattle.std.specs.Ordering.{is_lt, eq_by_cmp}
use Rattle.std.specs.Str.{bytes_eq}
use Rattle.std.proofs.lemmas.Slice.Eq.{bytes_eq-Decides}
use Rattle.rx_value.specs.Named.{named, AreRising}
use Rattle.rx_value.proofs.Outcomes.{some_if}
use Rattle.rx_document.specs.Documents.{Documents}
use Rattle.rx_document.specs.Place.{place_cmp, place_total}
use Rattle.rx_document.specs.declared.place.Place.{Place}
use Rattle.rx_document.specs.declared.stored.Stored.{Stored}
use Rattle.rx_document.proofs.Places.{place_ties}
use Rattle.rx_collection.specs.Lawful.{IsHeldAt}
use Rattle.rx_collection.specs.Since.{place_of, by_place}
use Rattle.rx_collection.proofs.Named.{first_alone}
use Rattle.rx_collection.proofs.Placed.{place_tie_back}

-- there is a document, and it was written at that time
abbrev pub was_written_at : Option Stored → ℕ → Bool
was_written_at None lwt = false
was_written_at (Some d) lwt = d.lwt == lwt

-- the documents that are held at the keys of places
abbrev pub standing : Documents → List (Place × Unit {0}) → List Stored
standing documents places = filter_map (λ p. named documents p.0.id) places

-- a place more: the key's own, where it had none
fresh : (b w z : Bool) → (b ≡ true → z ≡ false) → cond (w && b) true z ≡ cond b w z
fresh true true z none = refl
fresh true false z none = none refl
fresh false true z none = refl
fresh false false z none = refl

-- of what is chosen
written_if : (b : Bool) (d : Stored) (o : Option Stored) (lwt : ℕ)
    → was_written_at (cond b (Some d) o) lwt ≡ cond b (d.lwt == lwt) (was_written_at o lwt)
written_if true d o lwt = refl
written_if false d o lwt = refl

-- ---- the order of places

-- places are found among those of the documents where one was written then
pub placed_at : (primary : List ℕ) (es : Documents) → AreRising es
    → AllByRecursion (λ e. IsHeldAt primary e.0 e.1) es → (p : Place)
    → is_some (find place_cmp p (by_place es)) ≡ was_written_at (named es p.id) p.lwt
unfolding IsStrictlySortedBy
placed_at primary [] rising all p = refl
placed_at primary (e ∷ es) rising all p =
    let rest = find place_cmp p (by_place es) in
    let here = bytes_eq p.id e.0 in
    let then = e.1.lwt == p.lwt in
    ap is_some (find-put place_cmp place_total p (place_of e.1) e.1 (by_place es))
    ∙ some_if (eq_by_cmp place_cmp p (place_of e.1)) e.1 rest
    ∙ ap (λ b. cond b true (is_some rest)) (place_tie_back p (place_of e.1))
    ∙ ap (λ k. cond (then && bytes_eq p.id k) true (is_some rest)) all.0.keyed
    ∙ fresh here then (is_some rest)
    (λ h. placed_at primary es rising.1 all.1 p
    ∙ ap (λ k. was_written_at (named es k) p.lwt) ((bytes_eq-Decides p.id e.0).0 h)
    ∙ ap (λ o. was_written_at o p.lwt) (first_alone e es rising))
    ∙ ap (cond here then) (placed_at primary es rising.1 all.1 p)
    ∙ sym (written_if here e.1 (named es p.id) p.lwt)

-- they rise
pub sorted_places : (es : Documents) → T (is_sorted place_cmp (by_place es))
sorted_places [] = tt
sorted_places (e ∷ es) =
    is_sorted-put place_cmp place_total (place_of e.1) e.1 (by_place es) (sorted_places es)

-- ---- the same without the documents

-- places alone
abbrev pub marks : List (Place × Stored) → List (Place × Unit {0})
marks = map (λ e. (e.0, tt))

below_marks : (p : Place) (es : List (Place × Stored))
    → below_all place_cmp p (marks es) ≡ below_all place_cmp p es
below_marks p [] = refl
below_marks p (e ∷ es) = ap (λ b. is_lt (place_cmp p e.0) && b) (below_marks p es)

pub sorted_marks : (es : List (Place × Stored)) → is_sorted place_cmp (marks es)
    ≡ is_sorted place_cmp es
sorted_marks [] = refl
sorted_marks (e ∷ es) =
    ap (λ b. b && is_sorted place_cmp (marks es)) (below_marks e.0 es)
    ∙ ap (λ b. below_all place_cmp e.0 es && b) (sorted_marks es)

pub found_marks : (p : Place) (es : List (Place × Stored))
    → is_some (find place_cmp p (marks es)) ≡ is_some (find place_cmp p es)
found_marks p [] = refl
found_marks p (e ∷ es) =
    elim (eq_by_cmp place_cmp p e.0) as (λ b.
    is_some (cond b (Some tt) (find place_cmp p (marks es)))
    ≡ is_some (cond b (Some e.1) (find place_cmp p es)))
    [ true ↦ refl | false ↦ found_marks p es ]

-- rising keys pass the test for it
below_test : (p : Place) (es : List (Place × Unit {0}))
    → AllByRecursion (λ q. place_cmp p q ≡ Less) (keys_of es) → T (below_all place_cmp p es)
below_test p [] all = tt
below_test p (e ∷ es) all =
    subst (λ r. T (is_lt r && below_all place_cmp p es)) (sym all.0) (below_test p es all.1)

pub rising_test : (es : List (Place × Unit {0})) → IsStrictlySortedBy place_cmp (keys_of es)
    → T (is_sorted place_cmp es)
unfolding IsStrictlySortedBy
rising_test [] up = tt
rising_test (e ∷ es) up =
    elim (below_all place_cmp e.0 es) as (λ b. T b → T (b && is_sorted place_cmp es)) [
      | true ↦ (λ h. rising_test es up.1)
      | false ↦ (λ h. h)
    ] (below_test e.0 es up.0)

-- there is but one thing to find
pub one_mark : (o p : Option (Unit {0})) → is_some o ≡ is_some p → o ≡ p
one_mark None None h = refl
one_mark None (Some u) h = absurd (true≢false (sym h))
one_mark (Some u) None h = absurd (true≢false h)
one_mark (Some u) (Some v) h = refl

-- ---- the documents at places

-- what holds of all documents and their places
all_placed : (P : Place → Stored → Type 0) (p : Place) (d : Stored) (es : List (Place × Stored))
    → P p d → AllByRecursion (λ e. P e.0 e.1) es
    → AllByRecursion (λ e. P e.0 e.1) (put place_cmp p d es)
all_placed P p d [] here all = (here, tt)
all_placed P p d (e ∷ es) here all =
    elim (place_cmp p e.0) as (λ r. place_cmp p e.0 ≡ r → AllByRecursion (λ e. P e.0 e.1)
    (by_order r ((p, d) ∷ e ∷ es) ((e.0, d) ∷ es) (e ∷ put place_cmp p d es))) [
      | Less ↦ (λ is. (here, all))
      | Equal ↦ (λ is. (subst (λ q. P q d) ((place_ties p e.0).0 is) here, all.1))
      | Greater ↦ (λ is. (all.0, all_placed P p d es here all.1))
    ] refl

pub all_by_place : (P : Place → Stored → Type 0) (es : Documents)
    → AllByRecursion (λ e. P (place_of e.1) e.1) es → AllByRecursion (λ e. P e.0 e.1) (by_place es)
all_by_place P [] all = tt
all_by_place P (e ∷ es) all =
    all_placed P (place_of e.1) e.1 (by_place es) all.0 (all_by_place P es all.1)

-- those held at the keys of documents' places are the documents
pub standing-marks : (documents : Documents) (es : List (Place × Stored))
    → AllByRecursion (λ e. named documents e.0.id ≡ Some e.1) es
    → standing documents (marks es) ≡ values_of es
standing-marks documents [] all = refl
standing-marks documents (e ∷ es) all = rw all.0 (ap (λ ds. e.1 ∷ ds)
    (standing-marks documents es all.1))

-- a test of the places alone
pub passed_marks : (f : Place → Bool) (es : List (Place × Stored))
    → filter (λ e. f e.0) (marks es) ≡ marks (filter (λ e. f e.0) es)
passed_marks f [] = refl
passed_marks f (e ∷ es) =
    elim (f e.0) as (λ b. cond b ((e.0, tt) ∷ filter (λ e. f e.0) (marks es))
    (filter (λ e. f e.0) (marks es))
    ≡ marks (cond b (e ∷ filter (λ e. f e.0) es) (filter (λ e. f e.0) es)))
    [ true ↦ ap (λ ys. (e.0, tt) ∷ ys) (passed_marks f es) | false ↦ passed_marks f es ]
