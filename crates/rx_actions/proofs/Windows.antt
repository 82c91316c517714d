-- Windows of a list: what `take` and `drop` give after a row went in at a place.
use Rattle.std.proofs.Common.{◌≡◌, ℕ, zero, suc, ◌+◌, ◌-◌, ◌<◌, ◌≤◌, Bool, false, List, [], ◌∷◌, ◌++◌, length, take, drop, min, refl, sym, ap, ◌∙◌, arith}
use Rattle.std.proofs.Common.{length-take, length-drop, zero-add, add-zero, suc-add}
use Rattle.std.proofs.lemmas.List.{take_all}
use Rattle.std.specs.Prelude.{slice_get}
use Rattle.rx_query.specs.Lists.{without_last, some_passes, first_passes, last_passes}

-- x stands at place i, or at the end where the list is shorter
abbrev pub put : {X : Type 0} → ℕ → X → List X → List X
put zero x xs = x ∷ xs
put (suc i) x [] = x ∷ []
put (suc i) x (y ∷ ys) = y ∷ put i x ys

-- it is one more
pub length-put : {X : Type 0} (i : ℕ) (x : X) (xs : List X) → length (put i x xs) ≡ suc (length xs)
length-put zero x xs = refl
length-put (suc i) x [] = refl
length-put (suc i) x (y ∷ ys) = ap suc (length-put i x ys)

-- a row before the window moves it by one
pub drop-put_below : {X : Type 0} (s i : ℕ) (x : X) (xs : List X) → i ≤ s
    → drop (suc s) (put i x xs) ≡ drop s xs
drop-put_below s zero x xs h = refl
drop-put_below zero (suc i) x xs h = absurd (omega arith)
drop-put_below (suc s) (suc i) x [] h = refl
drop-put_below (suc s) (suc i) x (y ∷ ys) h = drop-put_below s i x ys (omega arith)

-- a row at or after the window's start
pub drop-put_within : {X : Type 0} (s i q : ℕ) (x : X) (xs : List X) → i ≡ s + q → s ≤ length xs
    → drop s (put i x xs) ≡ put q x (drop s xs)
drop-put_within zero i q x xs e h = let same : i ≡ q = omega arith in rw same refl
drop-put_within (suc s) i q x [] e h = absurd (omega arith)
drop-put_within (suc s) zero q x (y ∷ ys) e h = absurd (omega arith)
drop-put_within (suc s) (suc i) q x (y ∷ ys) e h =
    drop-put_within s i q x ys (omega arith) (omega arith)

-- a row within the window's length
pub take-put_within : {X : Type 0} (m q : ℕ) (x : X) (xs : List X) → q ≤ m
    → take (suc m) (put q x xs) ≡ put q x (take m xs)
take-put_within m zero x xs h = refl
take-put_within zero (suc q) x xs h = absurd (omega arith)
take-put_within (suc m) (suc q) x [] h = refl
take-put_within (suc m) (suc q) x (y ∷ ys) h =
    ap (λ zs. y ∷ zs) (take-put_within m q x ys (omega arith))

-- a row after the window
pub take-put_above : {X : Type 0} (l q : ℕ) (x : X) (xs : List X) → l ≤ q → l ≤ length xs
    → take l (put q x xs) ≡ take l xs
take-put_above zero q x xs h k = refl
take-put_above (suc l) zero x xs h k = absurd (omega arith)
take-put_above (suc l) (suc q) x [] h k = absurd (omega arith)
take-put_above (suc l) (suc q) x (y ∷ ys) h k =
    ap (λ zs. y ∷ zs) (take-put_above l q x ys (omega arith) (omega arith))

-- the window of `limit` rows after `skip`
abbrev pub window : {X : Type 0} → ℕ → ℕ → List X → List X
window s l xs = take l (drop s xs)

-- how many rows a window has
pub length-window : {X : Type 0} (s l : ℕ) (xs : List X)
    → length (window s l xs) ≡ min l (length xs - s)
length-window s l xs = simp (length-take, length-drop)

-- the window after a row went in before it, in it, and after it
pub window_below : {X : Type 0} (s l i : ℕ) (x : X) (xs : List X) → i ≤ s
    → window (suc s) l (put i x xs) ≡ window s l xs
window_below s l i x xs h = ap (take l) (drop-put_below s i x xs h)

-- a row in the window
pub window_within : {X : Type 0} (s m i q : ℕ) (x : X) (xs : List X) → i ≡ s + q → q ≤ m
    → i ≤ length xs → window s (suc m) (put i x xs) ≡ put q x (window s m xs)
window_within s m i q x xs e h k =
    let inside : s ≤ length xs = omega arith in
    ap (take (suc m)) (drop-put_within s i q x xs e inside) ∙ take-put_within m q x (drop s xs) h

-- a row behind it
pub window_above : {X : Type 0} (s l i : ℕ) (x : X) (xs : List X) → s + l ≤ i → i ≤ length xs
    → window s l (put i x xs) ≡ window s l xs
window_above s l i x xs h k =
    let inside : s ≤ length xs = omega arith in
    let after : i ≡ s + (i - s) = omega arith in
    ap (take l) (drop-put_within s i (i - s) x xs after inside)
    ∙ take-put_above l (i - s) x (drop s xs) (omega arith) (omega (arith, length-drop s xs))

-- a window that isn't full may as well be smaller
pub window_short : {X : Type 0} (s m : ℕ) (xs : List X) → length xs - s ≤ m
    → window s (suc m) xs ≡ window s m xs
window_short s m xs h =
    take_all (suc m) (drop s xs) (omega (arith, length-drop s xs))
    ∙ sym (take_all m (drop s xs) (omega (arith, length-drop s xs)))

-- the rest of a window
pub window_rest : {X : Type 0} (s m : ℕ) (xs : List X)
    → drop 1 (window s (suc m) xs) ≡ window (suc s) m xs
window_rest zero zero [] = refl
window_rest zero (suc m) [] = refl
window_rest (suc s) zero [] = refl
window_rest (suc s) (suc m) [] = refl
window_rest zero m (x ∷ xs) = refl
window_rest (suc s) m (x ∷ xs) = window_rest s m xs

-- to take the last out undoes to put it at the end
pub without_last-push : {X : Type 0} (xs : List X) (x : X) → without_last (xs ++ x ∷ []) ≡ xs
without_last-push [] x = refl
without_last-push (y ∷ []) x = refl
without_last-push (y ∷ z ∷ zs) x = ap (λ ws. y ∷ ws) (without_last-push (z ∷ zs) x)

-- a front part without its last row
pub without_last-take : {X : Type 0} (m : ℕ) (xs : List X) → suc m ≤ length xs
    → without_last (take (suc m) xs) ≡ take m xs
without_last-take m [] h = absurd (omega arith)
without_last-take zero (x ∷ xs) h = refl
without_last-take (suc m) (x ∷ []) h = absurd (omega arith)
without_last-take (suc m) (x ∷ y ∷ ys) h =
    ap (λ zs. x ∷ zs) (without_last-take m (y ∷ ys) (omega arith))

-- a full window without its last row
pub without_last-window : {X : Type 0} (s m : ℕ) (xs : List X) → s + suc m ≤ length xs
    → without_last (window s (suc m) xs) ≡ window s m xs
without_last-window s m xs h = without_last-take m (drop s xs) (omega (arith, length-drop s xs))

-- a place past the end is the end
pub put_end : {X : Type 0} (i : ℕ) (x : X) (xs : List X) → length xs ≤ i → put i x xs ≡ xs ++ x ∷ []
put_end zero x [] h = refl
put_end zero x (y ∷ ys) h = absurd (omega arith)
put_end (suc i) x [] h = refl
put_end (suc i) x (y ∷ ys) h = ap (λ zs. y ∷ zs) (put_end i x ys (omega arith))

-- the row at place k passes the test; none stands past the end
abbrev pub passes_at : {X : Type 0} → (X → Bool) → ℕ → List X → Bool
passes_at p k [] = false
passes_at p zero (x ∷ xs) = p x
passes_at p (suc k) (x ∷ xs) = passes_at p k xs

-- the first row stands at place 0
pub first_is : {X : Type 0} (p : X → Bool) (xs : List X) → first_passes p xs ≡ passes_at p 0 xs
first_is p [] = refl
first_is p (x ∷ xs) = refl

-- the last row of a longer list
pub last_step : {X : Type 0} (p : X → Bool) (x y : X) (ys : List X)
    → last_passes p (x ∷ y ∷ ys) ≡ last_passes p (y ∷ ys)
last_step p x y ys =
    let e : length (x ∷ y ∷ ys) - 1 ≡ suc (length (y ∷ ys) - 1) = omega arith in
    ap (λ k. some_passes p (slice_get (x ∷ y ∷ ys) k)) e

-- the last row stands before the end
pub last_is : {X : Type 0} (p : X → Bool) (k : ℕ) (xs : List X) → suc k ≡ length xs
    → last_passes p xs ≡ passes_at p k xs
last_is p k [] h = refl
last_is p zero (x ∷ []) h = refl
last_is p (suc k) (x ∷ []) h = absurd (omega arith)
last_is p zero (x ∷ y ∷ ys) h = absurd (omega arith)
last_is p (suc k) (x ∷ y ∷ ys) h = last_step p x y ys ∙ last_is p k (y ∷ ys) (omega arith)

-- in a back part
pub passes_at-drop : {X : Type 0} (p : X → Bool) (s k : ℕ) (xs : List X)
    → passes_at p k (drop s xs) ≡ passes_at p (s + k) xs
passes_at-drop p zero k xs = rw zero-add refl
passes_at-drop p (suc s) k [] = refl
passes_at-drop p (suc s) k (x ∷ xs) = passes_at-drop p s k xs
    ∙ ap (λ j. passes_at p j (x ∷ xs)) (sym (suc-add s k))

-- in a front part
pub passes_at-take : {X : Type 0} (p : X → Bool) (l k : ℕ) (xs : List X) → k < l
    → passes_at p k (take l xs) ≡ passes_at p k xs
passes_at-take p zero k xs h = absurd (omega arith)
passes_at-take p (suc l) k [] h = refl
passes_at-take p (suc l) zero (x ∷ xs) h = refl
passes_at-take p (suc l) (suc k) (x ∷ xs) h = passes_at-take p l k xs (omega arith)

-- the first row of a window
pub first_of_window : {X : Type 0} (p : X → Bool) (s m : ℕ) (xs : List X)
    → first_passes p (window s (suc m) xs) ≡ passes_at p s xs
first_of_window p s m xs = first_is p (window s (suc m) xs)
    ∙ passes_at-take p (suc m) 0 (drop s xs) (omega arith) ∙ passes_at-drop p s 0 xs
    ∙ ap (λ j. passes_at p j xs) (add-zero s)

-- the last row of a window
pub last_of_window : {X : Type 0} (p : X → Bool) (s l e : ℕ) (xs : List X)
    → suc e ≡ s + min l (length xs - s) → s < length xs → 0 < l
    → last_passes p (window s l xs) ≡ passes_at p e xs
last_of_window p s l e xs h k pos =
    let at : e ≡ s + (e - s) = omega arith in
    last_is p (e - s) (window s l xs) (omega (arith, length-window s l xs))
    ∙ passes_at-take p l (e - s) (drop s xs) (omega arith) ∙ passes_at-drop p s (e - s) xs
    ∙ ap (λ j. passes_at p j xs) (sym at)

-- a row before the place
pub passes_at-put_below : {X : Type 0} (p : X → Bool) (k i : ℕ) (x : X) (xs : List X) → k < i
    → i ≤ length xs → passes_at p k (put i x xs) ≡ passes_at p k xs
passes_at-put_below p k zero x xs h n = absurd (omega arith)
passes_at-put_below p k (suc i) x [] h n = absurd (omega arith)
passes_at-put_below p zero (suc i) x (y ∷ ys) h n = refl
passes_at-put_below p (suc k) (suc i) x (y ∷ ys) h n =
    passes_at-put_below p k i x ys (omega arith) (omega arith)

-- the row at the place
pub passes_at-put_at : {X : Type 0} (p : X → Bool) (i : ℕ) (x : X) (xs : List X) → i ≤ length xs
    → passes_at p i (put i x xs) ≡ p x
passes_at-put_at p zero x xs n = refl
passes_at-put_at p (suc i) x [] n = absurd (omega arith)
passes_at-put_at p (suc i) x (y ∷ ys) n = passes_at-put_at p i x ys (omega arith)

-- a row behind the place
pub passes_at-put_above : {X : Type 0} (p : X → Bool) (k i : ℕ) (x : X) (xs : List X) → i ≤ k
    → passes_at p (suc k) (put i x xs) ≡ passes_at p k xs
passes_at-put_above p k zero x xs h = refl
passes_at-put_above p zero (suc i) x xs h = absurd (omega arith)
passes_at-put_above p (suc k) (suc i) x [] h = refl
passes_at-put_above p (suc k) (suc i) x (y ∷ ys) h = passes_at-put_above p k i x ys (omega arith)
