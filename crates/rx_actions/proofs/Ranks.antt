-- The place of a row among rows in order, and what a test of a row says of it.
use Rattle.std.proofs.Common.{◌≡◌, ℕ, zero, suc, ◌+◌, ◌<◌, ◌≤◌, Bool, true, false, cond, not, ◌||◌, List, [], ◌∷◌, length, take, drop, min, refl, ap, arith}
use Rattle.std.specs.List.{AllByRecursion}
use Rattle.rx_query.specs.Lists.{insert_in_order}
use Rattle.rx_actions.proofs.Windows.{put, passes_at}

-- how many rows stand before the first one that x precedes
abbrev pub rank : {X : Type 0} → (X → X → Bool) → X → List X → ℕ
rank before x [] = 0
rank before x (y ∷ ys) = cond (before x y) 0 (suc (rank before x ys))

-- to put in by the order is to put in at the rank
pub placed_is : {X : Type 0} (before : X → X → Bool) (x : X) (xs : List X)
    → insert_in_order before x xs ≡ put (rank before x xs) x xs
placed_is before x [] = refl
placed_is before x (y ∷ ys) =
    elim (before x y) as (λ b. cond b (x ∷ y ∷ ys) (y ∷ insert_in_order before x ys) ≡ put
    (cond b 0 (suc (rank before x ys))) x (y ∷ ys))
    [ true ↦ refl | false ↦ ap (λ zs. y ∷ zs) (placed_is before x ys) ]

-- the rank is no farther than the end
pub rank-le : {X : Type 0} (before : X → X → Bool) (x : X) (xs : List X)
    → rank before x xs ≤ length xs
rank-le before x [] = omega arith
rank-le before x (y ∷ ys) =
    let rest = rank-le before x ys in
    elim (before x y) as (λ b. cond b 0 (suc (rank before x ys)) ≤ suc (length ys))
    [ true ↦ omega arith | false ↦ omega arith ]

-- in a front part
pub rank-take : {X : Type 0} (before : X → X → Bool) (x : X) (l : ℕ) (xs : List X)
    → rank before x (take l xs) ≡ min l (rank before x xs)
rank-take before x zero xs = omega arith
rank-take before x (suc l) [] = omega arith
rank-take before x (suc l) (y ∷ ys) =
    let rest = rank-take before x l ys in
    elim (before x y) as (λ b. cond b 0 (suc (rank before x (take l ys))) ≡ min (suc l)
    (cond b 0 (suc (rank before x ys)))) [ true ↦ omega arith | false ↦ omega arith ]

-- in a back part
pub rank-drop : {X : Type 0} (before : X → X → Bool) (x : X) (s : ℕ) (xs : List X)
    → s ≤ rank before x xs → rank before x (drop s xs) + s ≡ rank before x xs
rank-drop before x zero xs h = omega arith
rank-drop before x (suc s) [] h = absurd (omega arith)
rank-drop before x (suc s) (y ∷ ys) h =
    let rest = rank-drop before x s ys in
    (elim (before x y) as (λ b. suc s ≤ cond b 0 (suc (rank before x ys))
    → rank before x (drop s ys) + suc s ≡ cond b 0 (suc (rank before x ys))) [
      | true ↦ (λ h. absurd (omega arith))
      | false ↦
          (λ h. let r : rank before x (drop s ys) + s ≡ rank before x ys = rest (omega arith) in
          omega arith)
    ]) h

-- each row precedes all later ones
abbrev pub Ordered : {X : Type 0} → (X → X → Bool) → List X → Type 0
Ordered before [] = Unit {0}
Ordered before (x ∷ xs) = AllByRecursion (λ y. before x y ≡ true) xs × Ordered before xs

-- no row has the key
abbrev pub NoneIs : {X : Type 0} → (X → Bool) → List X → Type 0
NoneIs mine xs = AllByRecursion (λ y. mine y ≡ false) xs

-- an order of rows: of two rows with different keys just one precedes the other
pub record IsRowOrder {X : Type 0} (before : X → X → Bool) : Type 0 where
  pub trans : (x y z : X) → before x y ≡ true → before y z ≡ true → before x z ≡ true

-- x has the key, and is ordered against each row that hasn't
pub record Stands {X : Type 0} (before : X → X → Bool) (mine : X → Bool) (x : X) : Type 0 where
  pub is_mine : mine x ≡ true
  pub either : (y : X) → mine y ≡ false → before y x ≡ not (before x y)

-- the row has the key, or x precedes it
abbrev pub not_after : {X : Type 0} → (X → X → Bool) → (X → Bool) → X → X → Bool
not_after before mine x r = mine r || before x r

-- the row has the key, or precedes x
abbrev pub not_before : {X : Type 0} → (X → X → Bool) → (X → Bool) → X → X → Bool
not_before before mine x r = mine r || before r x

module _ {X : Type 0} (before : X → X → Bool) (order : IsRowOrder before) (mine : X → Bool) (x : X)
    (stands : Stands before mine x) where
  -- where x precedes a row, it precedes all later ones
  all_later : (y : X) (ys : List X) → before x y ≡ true → AllByRecursion (λ z. before y z ≡ true) ys
      → AllByRecursion (λ z. before x z ≡ true) ys
  all_later y [] h all = tt
  all_later y (z ∷ zs) h all = (order.trans x y z h all.0, all_later y zs h all.1)

  -- where x precedes a row and all later ones
  later : (k : ℕ) (xs : List X) → k < length xs → AllByRecursion (λ z. before x z ≡ true) xs
      → NoneIs mine xs → (passes_at (not_after before mine x) k xs ≡ true)
      × (passes_at (not_before before mine x) k xs ≡ false)
  later k [] h all none = absurd (omega arith)
  later zero (y ∷ ys) h all none = (
    rw (none.0, all.0) refl,
    rw (none.0, stands.either y none.0, all.0) refl,
  )
  later (suc k) (y ∷ ys) h all none = later k ys (omega arith) all.1 none.1

  -- at or past the place of x
  pub past : (k : ℕ) (xs : List X) → k < length xs → Ordered before xs → NoneIs mine xs
      → rank before x xs ≤ k → (passes_at (not_after before mine x) k xs ≡ true)
      × (passes_at (not_before before mine x) k xs ≡ false)
  past k [] h up none le = absurd (omega arith)
  past zero (y ∷ ys) h up none le =
      (elim (before x y) as (λ b. before x y ≡ b → cond b 0 (suc (rank before x ys)) ≤ 0
      → (passes_at (not_after before mine x) 0 (y ∷ ys) ≡ true)
      × (passes_at (not_before before mine x) 0 (y ∷ ys) ≡ false)) [
        | true ↦ (λ e le. later 0 (y ∷ ys) h (e, all_later y ys e up.0) none)
        | false ↦ (λ e le. absurd (omega arith))
      ]) refl le
  past (suc k) (y ∷ ys) h up none le =
      (elim (before x y) as (λ b. before x y ≡ b → cond b 0 (suc (rank before x ys)) ≤ suc k
      → (passes_at (not_after before mine x) k ys ≡ true)
      × (passes_at (not_before before mine x) k ys ≡ false)) [
        | true ↦ (λ e le. later k ys (omega arith) (all_later y ys e up.0) none.1)
        | false ↦ (λ e le. past k ys (omega arith) up.1 none.1 (omega arith))
      ]) refl le

  -- before the place of x
  pub ahead : (k : ℕ) (xs : List X) → NoneIs mine xs → k < rank before x xs
      → (passes_at (not_after before mine x) k xs ≡ false)
      × (passes_at (not_before before mine x) k xs ≡ true)
  ahead k [] none lt = absurd (omega arith)
  ahead zero (y ∷ ys) none lt =
      (elim (before x y) as (λ b. before x y ≡ b → 0 < cond b 0 (suc (rank before x ys))
      → (passes_at (not_after before mine x) 0 (y ∷ ys) ≡ false)
      × (passes_at (not_before before mine x) 0 (y ∷ ys) ≡ true)) [
        | true ↦ (λ e lt. absurd (omega arith))
        | false ↦ (λ e lt. (rw (none.0, e) refl, rw (none.0, stands.either y none.0, e) refl))
      ]) refl lt
  ahead (suc k) (y ∷ ys) none lt =
      (elim (before x y) as (λ b. before x y ≡ b → suc k < cond b 0 (suc (rank before x ys))
      → (passes_at (not_after before mine x) k ys ≡ false)
      × (passes_at (not_before before mine x) k ys ≡ true)) [
        | true ↦ (λ e lt. absurd (omega arith))
        | false ↦ (λ e lt. ahead k ys none.1 (omega arith))
      ]) refl lt

-- two rows that precede the same rows have one place
pub rank-alike : {X : Type 0} (before : X → X → Bool) (x y : X)
    → ((z : X) → before x z ≡ before y z) → (xs : List X) → rank before x xs ≡ rank before y xs
rank-alike before x y h [] = refl
rank-alike before x y h (z ∷ zs) = rw (h z)
    (ap (λ k. cond (before y z) 0 (suc k)) (rank-alike before x y h zs))
