-- Lists that are gone through one item after another, and what holds of all their items.
-- A lemma on plain lists that two files need stands here; std has more of them.
use Rattle.std.proofs.Common.{◌≡◌, ℕ, zero, suc, ◌+◌, ◌<◌, ◌≤◌, Bool, true, false, cond, Some, List, [], ◌∷◌, ◌++◌, length, map, take, get_or, drop, drop-cons, append_assoc, append-nil, sym, refl, ap, ◌∙◌, subst, add-one}
use Rattle.std.proofs.Math.ListN.{drop_of_length-le}
use Rattle.std.proofs.lemmas.Option.{slice_get_within, get_or_from_slice_get, same_Some}
use Rattle.std.specs.List.{AllByRecursion, filter}
use Rattle.std.specs.Prelude.{slice_get}

-- what is left at a place begins with the item there
pub drop_suc : {X : Type 0} (xs : List X) (i : ℕ) (x : X) → slice_get xs i ≡ Some x
    → drop i xs ≡ x ∷ drop (suc i) xs
drop_suc xs i x h =
    drop-cons xs i x (slice_get_within xs i x h)
    ∙ ap (λ y. y ∷ drop (suc i) xs) (get_or_from_slice_get xs i x x h)

-- the same with the next place as code has it
pub drop_at : {X : Type 0} (xs : List X) (i : ℕ) (x : X) → slice_get xs i ≡ Some x
    → drop i xs ≡ x ∷ drop (i + 1) xs
drop_at xs i x h = drop_suc xs i x h ∙ ap (λ j. x ∷ drop j xs) (sym (add-one i))

-- the same of an item as a list is read
pub from_item : {X : Type 0} (xs : List X) (i : ℕ) (x : X) → i < length xs → x ≡ get_or xs i x
    → drop i xs ≡ x ∷ drop (i + 1) xs
from_item xs i x within is =
    drop-cons xs i x within ∙ ap (λ y. y ∷ drop (suc i) xs) (sym is)
    ∙ ap (λ j. x ∷ drop j xs) (sym (add-one i))

-- one more item at the end of a front
pub moved : {X : Type 0} (front new rest whole all : List X) (x : X) → new ≡ front ++ x ∷ []
    → whole ≡ x ∷ rest → front ++ whole ≡ all → new ++ rest ≡ all
moved front new rest whole all x is next so =
    ap (λ n. n ++ rest) is ∙ append_assoc front (x ∷ []) rest ∙ ap (λ w. front ++ w) (sym next) ∙ so

-- at the end nothing is left
pub ended : {X Y : Type 0} (f : List X → List Y) (xs : List X) (i : ℕ) (front all : List Y)
    → f [] ≡ [] → length xs ≤ i → front ++ f (drop i xs) ≡ all → front ≡ all
ended f xs i front all none past so =
    sym (append-nil front)
    ∙ ap (λ ys. front ++ ys) (sym (ap f (drop_of_length-le xs past) ∙ none)) ∙ so

-- equal lists are equal part by part
pub cons_parts : {X : Type 0} (x y : X) (xs ys : List X) → x ∷ xs ≡ y ∷ ys → (x ≡ y) × (xs ≡ ys)
cons_parts x y xs ys same = (cc, cc)

-- a list that maps to none is none
pub map_none : {X Y : Type 0} (f : X → Y) (xs : List X) → map f xs ≡ [] → xs ≡ []
map_none f [] h = refl
map_none f (x ∷ xs) h = absurd (cc)

-- ---- what holds of all

-- it holds of one among them
pub all_at : {X : Type 0} (P : X → Type 0) (xs : List X) (x : X) (ys : List X)
    → AllByRecursion P (xs ++ x ∷ ys) → P x
all_at P [] x ys all = all.0
all_at P (y ∷ xs) x ys all = all_at P xs x ys all.1

-- and of the one at a place
pub all_get : {X : Type 0} (P : X → Type 0) (xs : List X) (i : ℕ) (x : X) → AllByRecursion P xs
    → slice_get xs i ≡ Some x → P x
all_get P [] i x all h = cc
all_get P (y ∷ xs) zero x all h = subst P (same_Some y x h) all.0
all_get P (y ∷ xs) (suc i) x all h = all_get P xs i x all.1 h

-- what holds of one more too holds of all with it
pub all_push : {X : Type 0} (P : X → Type 0) (xs : List X) (x : X) → AllByRecursion P xs → P x
    → AllByRecursion P (xs ++ x ∷ [])
all_push P [] x all here = (here, tt)
all_push P (y ∷ xs) x all here = (all.0, all_push P xs x all.1 here)

-- what follows holds of all
pub all_weaker : {X : Type 0} (P Q : X → Type 0) → ((x : X) → P x → Q x) → (xs : List X)
    → AllByRecursion P xs → AllByRecursion Q xs
all_weaker P Q f [] all = tt
all_weaker P Q f (x ∷ xs) all = (f x all.0, all_weaker P Q f xs all.1)

-- two things that hold of all hold of each together
pub all_both : {X : Type 0} (P Q : X → Type 0) (xs : List X) → AllByRecursion P xs
    → AllByRecursion Q xs → AllByRecursion (λ x. P x × Q x) xs
all_both P Q [] ps qs = tt
all_both P Q (x ∷ xs) ps qs = ((ps.0, qs.0), all_both P Q xs ps.1 qs.1)

-- it holds of those that pass a test
pub all_passed : {X : Type 0} (P : X → Type 0) (test : X → Bool) (xs : List X)
    → AllByRecursion P xs → AllByRecursion P (filter test xs)
all_passed P test [] all = tt
all_passed P test (x ∷ xs) all =
    let rest = all_passed P test xs all.1 in
    elim (test x) as (λ b. AllByRecursion P (cond b (x ∷ filter test xs) (filter test xs)))
    [ true ↦ (all.0, rest) | false ↦ rest ]

-- and of those in front
pub all_taken : {X : Type 0} (P : X → Type 0) (n : ℕ) (xs : List X) → AllByRecursion P xs
    → AllByRecursion P (take n xs)
all_taken P zero xs all = tt
all_taken P (suc n) [] all = tt
all_taken P (suc n) (x ∷ xs) all = (all.0, all_taken P n xs all.1)

-- ---- filters

-- a filter by what each is mapped to
pub map-filter : {A B : Type 0} (f : A → B) (p : B → Bool) (xs : List A)
    → map f (filter (λ a. p (f a)) xs) ≡ filter p (map f xs)
map-filter f p [] = refl
map-filter f p (x ∷ xs) =
    let rest = map-filter f p xs in
    let passed = filter (λ a. p (f a)) xs in
    elim (p (f x)) as (λ b. map f (cond b (x ∷ passed) passed)
    ≡ cond b (f x ∷ filter p (map f xs)) (filter p (map f xs)))
    [ true ↦ ap (λ zs. f x ∷ zs) rest | false ↦ rest ]
