-- The first of some things, taken one after another.
use Rattle.std.proofs.Common.{◌≡◌, ◌∙◌, ◌≤◌, ap, sym, refl, ℕ, zero, suc, List, [], ◌∷◌, ◌++◌, map, length, take, drop, arith, length-append}
use Rattle.std.proofs.lemmas.List.{map-append}

module _ {X : Type 0} where
  taken_next : (all : List X) (n : ℕ) (x : X) (t : List X) → drop n all ≡ x ∷ t
      → (take (suc n) all ≡ take n all ++ x ∷ []) × (drop (suc n) all ≡ t)
  taken_next [] zero x t is = absurd (cc)
  taken_next [] (suc n) x t is = absurd (cc)
  taken_next (y ∷ ys) zero x t is = (
    let same : y ≡ x = cc in ap (λ (z : X). z ∷ []) same,
    cc,
  )
  taken_next (y ∷ ys) (suc n) x t is =
      let more = taken_next ys n x t is in (ap (λ (l : List X). y ∷ l) more.0, more.1)

  taken_all : (all : List X) (n m : ℕ) → drop n all ≡ [] → n ≤ m
      → (take n all ≡ take m all) × (drop m all ≡ [])
  taken_all [] zero zero is few = (refl, refl)
  taken_all [] zero (suc m) is few = (refl, refl)
  taken_all [] (suc n) zero is few = absurd (omega (arith, few))
  taken_all [] (suc n) (suc m) is few = (refl, refl)
  taken_all (y ∷ ys) zero m is few = absurd (cc)
  taken_all (y ∷ ys) (suc n) zero is few = absurd (omega (arith, few))
  taken_all (y ∷ ys) (suc n) (suc m) is few =
      let rest = taken_all ys n m is (omega (arith, few)) in
      (ap (λ (l : List X). y ∷ l) rest.0, rest.1)

-- so many were taken, each as `f` makes it, and these are left
pub record IsTaken {X Y : Type 0} (f : X → Y) (all : List X) (done : List Y) (left : List X)
    : Type 0 where
  pub made : done ≡ map f (take (length done) all)
  pub rest : left ≡ drop (length done) all

module _ {X Y : Type 0} (f : X → Y) (all : List X) where
  -- none yet
  pub none_taken : IsTaken f all [] all
  none_taken = record { made = refl; rest = refl }

  -- one more
  pub one_taken : (done new : List Y) (left t : List X) (x : X) → IsTaken f all done left
      → left ≡ x ∷ t → new ≡ done ++ f x ∷ [] → IsTaken f all new t
  one_taken done new left t x taken is more =
      let one = taken_next all (length done) x t (sym taken.rest ∙ is) in
      let count : length new ≡ suc (length done) =
      omega (arith, ap length more, length-append done (f x ∷ [])) in
      record {
        made = more
            ∙ ap (λ (l : List Y). l ++ f x ∷ []) taken.made
            ∙ sym (map-append f (take (length done) all) (x ∷ []))
            ∙ ap (map f) (sym one.0)
            ∙ ap (λ (n : ℕ). map f (take n all)) (sym count);
        rest = sym one.1 ∙ ap (λ (n : ℕ). drop n all) (sym count);
      }

  -- all of them, where there are no more
  pub last_taken : (done : List Y) (left : List X) (m : ℕ) → IsTaken f all done left → left ≡ []
      → length done ≤ m → (done ≡ map f (take m all)) × (left ≡ drop m all)
  last_taken done left m taken none few =
      let end = taken_all all (length done) m (sym taken.rest ∙ none) few in
      (taken.made ∙ ap (map f) end.0, none ∙ sym end.1)

  -- as many as were to be
  pub enough_taken : (done : List Y) (left : List X) (m : ℕ) → IsTaken f all done left
      → length done ≡ m → (done ≡ map f (take m all)) × (left ≡ drop m all)
  enough_taken done left m taken count = (
    taken.made ∙ ap (λ (n : ℕ). map f (take n all)) count,
    taken.rest ∙ ap (λ (n : ℕ). drop n all) count,
  )
