-- Edits of a window in which one row, or none, has the key.
use Rattle.std.proofs.Common.{◌≡◌, ℕ, zero, suc, ◌+◌, ◌<◌, ◌≤◌, Bool, true, false, List, [], ◌∷◌, length, take, drop, refl, sym, ap, ◌∙◌, arith}
use Rattle.std.proofs.lemmas.Bool.{or_left, or_right, false≢true}
use Rattle.std.specs.List.{list_any}
use Rattle.rx_query.specs.Lists.{insert_in_order, without_first, replaced_first, first_passes, last_passes}
use Rattle.rx_actions.proofs.Windows.{put, window, last_step}
use Rattle.rx_actions.proofs.Ranks.{NoneIs, rank, placed_is, rank-take, rank-drop}

module _ {X : Type 0} (mine : X → Bool) where
  -- no row of a front part has it
  pub none-take : (l : ℕ) (xs : List X) → NoneIs mine xs → NoneIs mine (take l xs)
  none-take zero xs h = tt
  none-take (suc l) [] h = tt
  none-take (suc l) (x ∷ xs) h = (h.0, none-take l xs h.1)

  -- nor one of a back part
  pub none-drop : (s : ℕ) (xs : List X) → NoneIs mine xs → NoneIs mine (drop s xs)
  none-drop zero xs h = h
  none-drop (suc s) [] h = tt
  none-drop (suc s) (x ∷ xs) h = none-drop s xs h.1

  -- nor one of a window
  pub none-window : (s l : ℕ) (xs : List X) → NoneIs mine xs → NoneIs mine (window s l xs)
  none-window s l xs h = none-take l (drop s xs) (none-drop s xs h)

  -- so none is found
  pub any-none : (xs : List X) → NoneIs mine xs → list_any mine xs ≡ false
  any-none [] h = refl
  any-none (x ∷ xs) h = rw (h.0) (any-none xs h.1)

  -- the last row hasn't it
  pub last-none : (xs : List X) → NoneIs mine xs → last_passes mine xs ≡ false
  last-none [] h = refl
  last-none (x ∷ []) h = h.0
  last-none (x ∷ y ∷ ys) h = last_step mine x y ys ∙ last-none (y ∷ ys) h.1

  module _ (old : X) (is_mine : mine old ≡ true) where
    -- a row that has it is found
    pub any-put : (q : ℕ) (xs : List X) → list_any mine (put q old xs) ≡ true
    any-put zero xs = or_left _ _ is_mine
    any-put (suc q) [] = or_left _ _ is_mine
    any-put (suc q) (x ∷ xs) = or_right _ _ (any-put q xs)

    -- to take it out undoes to put it in
    pub without-put : (q : ℕ) (xs : List X) → NoneIs mine xs
        → without_first mine (put q old xs) ≡ xs
    without-put zero xs h = rw is_mine refl
    without-put (suc q) [] h = rw is_mine refl
    without-put (suc q) (x ∷ xs) h = rw (h.0) (ap (λ zs. x ∷ zs) (without-put q xs h.1))

    -- another takes its place
    pub replace-put : (new : X) (q : ℕ) (xs : List X) → NoneIs mine xs
        → replaced_first mine new (put q old xs) ≡ put q new xs
    replace-put new zero xs h = rw is_mine refl
    replace-put new (suc q) [] h = rw is_mine refl
    replace-put new (suc q) (x ∷ xs) h = rw (h.0) (ap (λ zs. x ∷ zs) (replace-put new q xs h.1))

    -- where the first row, or the last, has the key
    pub first-put : (q : ℕ) (xs : List X) → NoneIs mine xs → q ≤ length xs
        → first_passes mine (put q old xs) ≡ true → q ≡ 0
    first-put zero xs h le e = refl
    first-put (suc q) [] h le e = absurd (omega arith)
    first-put (suc q) (x ∷ xs) h le e = absurd (false≢true (sym (h.0) ∙ e))

    -- at the end
    pub last-put : (q : ℕ) (xs : List X) → NoneIs mine xs → q ≤ length xs
        → last_passes mine (put q old xs) ≡ true → q ≡ length xs
    last-put zero [] h le e = refl
    last-put zero (x ∷ xs) h le e = absurd
        (false≢true (sym (last-none (x ∷ xs) h) ∙ sym (last_step mine old x xs) ∙ e))
    last-put (suc q) [] h le e = absurd (omega arith)
    last-put (suc zero) (x ∷ []) h le e = refl
    last-put (suc (suc q)) (x ∷ []) h le e = absurd (omega arith)
    last-put (suc zero) (x ∷ y ∷ ys) h le e =
        ap suc (last-put zero (y ∷ ys) h.1 (omega arith) (sym (last_step mine x old (y ∷ ys)) ∙ e))
    last-put (suc (suc q)) (x ∷ y ∷ ys) h le e =
        ap suc (last-put (suc q) (y ∷ ys) h.1 (omega arith)
        (sym (last_step mine x y (put q old ys)) ∙ e))

-- where the first row passes there is one
pub first-some : {X : Type 0} (p : X → Bool) (xs : List X) → first_passes p xs ≡ true
    → 0 < length xs
first-some p [] e = absurd (false≢true e)
first-some p (x ∷ xs) e = omega arith

-- where the last row passes there is one
pub last-some : {X : Type 0} (p : X → Bool) (xs : List X) → last_passes p xs ≡ true → 0 < length xs
last-some p [] e = absurd (false≢true e)
last-some p (x ∷ xs) e = omega arith

-- in a window that has a row's place, the row is placed as in the whole
pub placed_in_window : {X : Type 0} (before : X → X → Bool) (x : X) (s m q : ℕ) (xs : List X)
    → rank before x xs ≡ s + q → q ≤ m
    → insert_in_order before x (window s m xs) ≡ put q x (window s m xs)
placed_in_window before x s m q xs e h =
    let cut_at = rank-take before x m (drop s xs) in
    let from = rank-drop before x s xs (omega arith) in
    let is : rank before x (window s m xs) ≡ q = omega arith in
    placed_is before x (window s m xs) ∙ ap (λ k. put k x (window s m xs)) is

-- where the first row passes one does
pub first-any : {X : Type 0} (p : X → Bool) (xs : List X) → first_passes p xs ≡ true
    → list_any p xs ≡ true
first-any p [] e = absurd (false≢true e)
first-any p (x ∷ xs) e = or_left _ _ e

-- where the last row passes one does
pub last-any : {X : Type 0} (p : X → Bool) (xs : List X) → last_passes p xs ≡ true
    → list_any p xs ≡ true
last-any p [] e = absurd (false≢true e)
last-any p (x ∷ []) e = or_left _ _ e
last-any p (x ∷ y ∷ ys) e = or_right _ _ (last-any p (y ∷ ys) (sym (last_step p x y ys) ∙ e))
