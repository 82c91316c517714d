-- Members of lists, and lists whose members stand pair by pair in a relation.
use Rattle.std.proofs.Common.{◌≡◌, inl, inr, Bool, true, false, cond, List, [], ◌∷◌, ◌++◌, map, filter, Option, Some, None, Ordering, Less, refl, sym, ap, ◌∙◌}
use Rattle.std.proofs.lemmas.Bool.{false≢true}
use Rattle.std.specs.List.{AllByRecursion, IsDistinct, filter_map, cons_option}
use Rattle.std.specs.List.Sorted.{IsStrictlySortedBy}
use Rattle.rx_query.proofs.Sorting.{In}

-- ---- members

pub in_filter : {X : Type 0} (p : X → Bool) (xs : List X) (z : X) → In z xs → p z ≡ true
    → In z (filter p xs)
in_filter p [] z i h = absurd i
in_filter p (x ∷ xs) z i h =
    (elim (p x) as (λ b. p x ≡ b → In z (cond b (x ∷ filter p xs) (filter p xs))) [
      | true ↦ (λ is. elim i [ inl e ↦ inl e | inr j ↦ inr (in_filter p xs z j h) ])
      | false ↦ (λ is. elim i [
        | inl e ↦ absurd (false≢true (sym is ∙ ap p (sym e) ∙ h))
        | inr j ↦ in_filter p xs z j h
      ])
    ]) refl

pub from_filter : {X : Type 0} (p : X → Bool) (xs : List X) (z : X) → In z (filter p xs)
    → In z xs × (p z ≡ true)
from_filter p [] z i = absurd i
from_filter p (x ∷ xs) z i =
    (elim (p x) as (λ b. p x ≡ b → In z (cond b (x ∷ filter p xs) (filter p xs))
    → In z (x ∷ xs) × (p z ≡ true)) [
      | true ↦ (λ is j. elim j [
        | inl e ↦ (inl e, ap p e ∙ is)
        | inr k ↦ let r = from_filter p xs z k in (inr r.0, r.1)
      ])
      | false ↦ (λ is j. let r = from_filter p xs z j in (inr r.0, r.1))
    ]) refl i

pub in_filter_map : {X Y : Type 0} (h : X → Option Y) (xs : List X) (x : X) (z : Y) → In x xs
    → h x ≡ Some z → In z (filter_map h xs)
in_filter_map h [] x z i is = absurd i
in_filter_map h (y ∷ ys) x z i is =
    (elim (h y) as (λ o. h y ≡ o → In z (cons_option o (filter_map h ys))) [
      | None ↦ (λ at. elim i [
        | inl e ↦ (let bad : None ≡ Some z = sym at ∙ ap h (sym e) ∙ is in cc)
        | inr j ↦ in_filter_map h ys x z j is
      ])
      | Some w ↦ (λ at. elim i [
        | inl e ↦ (let same : Some z ≡ Some w = sym is ∙ ap h e ∙ at in inl cc)
        | inr j ↦ inr (in_filter_map h ys x z j is)
      ])
    ]) refl

pub from_filter_map : {X Y : Type 0} (h : X → Option Y) (xs : List X) (z : Y)
    → In z (filter_map h xs) → (x : X) × In x xs × (h x ≡ Some z)
from_filter_map h [] z i = absurd i
from_filter_map h (y ∷ ys) z i =
    (elim (h y) as (λ o. h y ≡ o → In z (cons_option o (filter_map h ys))
    → (x : _) × In x (y ∷ ys) × (h x ≡ Some z)) [
      | None ↦ (λ at j. let r = from_filter_map h ys z j in (r.0, inr r.1, r.2))
      | Some w ↦ (λ at j. elim j [
        | inl e ↦ (y, inl refl, at ∙ ap Some (sym e))
        | inr k ↦ let r = from_filter_map h ys z k in (r.0, inr r.1, r.2)
      ])
    ]) refl i

pub filter_map-map : {W X Y : Type 0} (h : X → Option Y) (f : W → X) (ws : List W)
    → filter_map h (map f ws) ≡ filter_map (λ w. h (f w)) ws
filter_map-map h f [] = refl
filter_map-map h f (w ∷ ws) = ap (cons_option (h (f w))) (filter_map-map h f ws)

-- ---- pair by pair

abbrev pub Pairwise : {X : Type 0} → (X → X → Type 0) → List X → Type 0
Pairwise R [] = Unit {0}
Pairwise R (x ∷ xs) = AllByRecursion (R x) xs × Pairwise R xs

pub pairwise_strict : {X : Type 0} (cmp : X → X → Ordering) (xs : List X)
    → IsStrictlySortedBy cmp xs → Pairwise (λ x y. cmp x y ≡ Less) xs
unfolding IsStrictlySortedBy
pairwise_strict cmp [] h = tt
pairwise_strict cmp (x ∷ xs) h = (h.0, pairwise_strict cmp xs h.1)

pub strict_pairwise : {X : Type 0} (cmp : X → X → Ordering) (xs : List X)
    → Pairwise (λ x y. cmp x y ≡ Less) xs → IsStrictlySortedBy cmp xs
unfolding IsStrictlySortedBy
strict_pairwise cmp [] h = tt
strict_pairwise cmp (x ∷ xs) h = (h.0, strict_pairwise cmp xs h.1)

pub distinct_pairwise : {X : Type 0} (same : X → X → Bool) (xs : List X)
    → Pairwise (λ x y. same x y ≡ false) xs → IsDistinct same xs
unfolding IsDistinct
distinct_pairwise same [] h = tt
distinct_pairwise same (x ∷ xs) h = (h.0, distinct_pairwise same xs h.1)

-- the first ones of distinct ones
pub distinct_front : {X : Type 0} (same : X → X → Bool) (xs ys : List X)
    → IsDistinct same (xs ++ ys)
    → IsDistinct same xs
unfolding IsDistinct
distinct_front same [] ys h = tt
distinct_front same (x ∷ xs) ys h = (front xs h.0, distinct_front same xs ys h.1)
  where
    front : (zs : _) → AllByRecursion (λ y. same x y ≡ false) (zs ++ ys)
        → AllByRecursion (λ y. same x y ≡ false) zs
    front [] k = tt
    front (z ∷ zs) k = (k.0, front zs k.1)

-- what pairs become
module _ {X Y : Type 0} (R : X → X → Type 0) (S : Y → Y → Type 0) (h : X → Option Y) where
  becomes_all : (x : X) (d : Y) (xs : List X)
      → ((y : X) (e : Y) → In y xs → R x y → h y ≡ Some e → S d e)
      → AllByRecursion (R x) xs → AllByRecursion (S d) (filter_map h xs)
  becomes_all x d [] ok all = tt
  becomes_all x d (y ∷ ys) ok all =
      let rest = becomes_all x d ys (λ z e i. ok z e (inr i)) all.1 in
      (elim (h y) as (λ o. h y ≡ o → AllByRecursion (S d) (cons_option o (filter_map h ys))) [
        | None ↦ (λ at. rest)
        | Some e ↦ (λ at. (ok y e (inl refl) all.0 at, rest))
      ]) refl

  pub becomes : (xs : List X)
      → ((x y : X) (d e : Y) → In x xs → In y xs → R x y → h x ≡ Some d → h y ≡ Some e → S d e)
      → Pairwise R xs → Pairwise S (filter_map h xs)
  becomes [] ok pairs = tt
  becomes (x ∷ xs) ok pairs =
      let rest = becomes xs (λ z w d e i j. ok z w d e (inr i) (inr j)) pairs.1 in
      (elim (h x) as (λ o. h x ≡ o → Pairwise S (cons_option o (filter_map h xs))) [
        | None ↦ (λ at. rest)
        | Some d ↦ (λ at. (
          becomes_all x d xs (λ y e i r is. ok x y d e (inl refl) (inr i) r at is) pairs.0,
          rest,
        ))
      ]) refl
