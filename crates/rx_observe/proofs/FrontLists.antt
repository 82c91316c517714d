-- The front of a list that changes by one member.
use Rattle.std.proofs.Common.{◌≡◌, ℕ, zero, suc, ◌||◌, Bool, true, false, cond, List, [], ◌∷◌, ◌++◌, length, take, drop, remove, refl, sym, ap, ◌∙◌, subst, arith, append_assoc, append-nil}
use Rattle.std.proofs.lemmas.Bool.{false≢true, false_from_ne_true, or_parts}
use Rattle.std.proofs.lemmas.List.{take-append-drop}
use Rattle.std.specs.List.{AllByRecursion, list_any}
use Rattle.rx_query.specs.Lists.{last_passes, insert_in_order, without_first}
use Rattle.rx_actions.proofs.Edits.{last-any}
use Rattle.rx_actions.proofs.Ranks.{Ordered, NoneIs}
use Rattle.rx_actions.proofs.Windows.{last_step}
use Rattle.rx_observe.specs.Front.{IsFrontOf}

-- ---- a front

module _ {X : Type 0} where
  -- what holds of all holds of the first ones
  pub all_front : (p : X → Type 0) (xs ys : List X) → AllByRecursion p (xs ++ ys)
      → AllByRecursion p xs
  all_front p [] ys h = tt
  all_front p (z ∷ xs) ys h = (h.0, all_front p xs ys h.1)

  -- they are in order where all are
  pub ordered_front : (before : X → X → Bool) (xs ys : List X) → Ordered before (xs ++ ys)
      → Ordered before xs
  ordered_front before [] ys up = tt
  ordered_front before (y ∷ xs) ys up =
      (all_front (λ z. before y z ≡ true) xs ys up.0, ordered_front before xs ys up.1)

-- ---- one out

module _ {X : Type 0} (mine : X → Bool) where
  -- what is behind after the first that passes is taken out of both
  left_behind : List X → List X → List X
  left_behind [] ys = without_first mine ys
  left_behind (x ∷ xs) ys = cond (mine x) ys (left_behind xs ys)

  -- the two parts are what is left
  taken_parts : (xs ys : List X)
      → without_first mine xs ++ left_behind xs ys ≡ without_first mine (xs ++ ys)
  unfolding left_behind
  taken_parts [] ys = refl
  taken_parts (x ∷ xs) ys =
      let rest = taken_parts xs ys in
      elim (mine x) as (λ b. cond b xs (x ∷ without_first mine xs) ++ cond b ys (left_behind xs ys)
      ≡ cond b (xs ++ ys) (x ∷ without_first mine (xs ++ ys)))
      [ true ↦ refl | false ↦ ap (λ zs. x ∷ zs) rest ]

  -- where nothing was behind, nothing is
  none_left : (xs ys : List X) → ys ≡ [] → left_behind xs ys ≡ []
  unfolding left_behind
  none_left [] ys none = ap (without_first mine) none
  none_left (x ∷ xs) ys none =
      let rest = none_left xs ys none in
      elim (mine x) as (λ b. cond b ys (left_behind xs ys) ≡ [])
      [ true ↦ none | false ↦ rest ]

  -- so a front without it is one of the others
  pub taken_out : (rows : List X) (whole : Bool) (all rest : List X) → IsFrontOf rows whole all
      → without_first mine all ≡ rest → IsFrontOf (without_first mine rows) whole rest
  taken_out rows whole all rest f is = record {
    behind = left_behind rows f.behind;
    split = taken_parts rows f.behind ∙ ap (without_first mine) f.split ∙ is;
    none_behind = λ h. none_left rows f.behind (f.none_behind h);
  }

  -- where none passes, none is taken out
  pub without_none : (xs : List X) → NoneIs mine xs → without_first mine xs ≡ xs
  without_none [] h = refl
  without_none (x ∷ xs) h = rw (h.0) (ap (λ zs. x ∷ zs) (without_none xs h.1))

-- ---- one in

module _ {X : Type 0} (before : X → X → Bool) (x : X) where
  -- before one of the first ones
  placed_inside : (xs ys : List X) → list_any (before x) xs ≡ true
      → insert_in_order before x xs ++ ys ≡ insert_in_order before x (xs ++ ys)
  placed_inside [] ys h = absurd (false≢true h)
  placed_inside (y ∷ xs) ys h =
      (elim (before x y) as (λ b. (b || list_any (before x) xs) ≡ true
      → cond b (x ∷ y ∷ xs) (y ∷ insert_in_order before x xs) ++ ys
      ≡ cond b (x ∷ y ∷ (xs ++ ys)) (y ∷ insert_in_order before x (xs ++ ys))) [
        | true ↦ (λ h. refl)
        | false ↦ (λ h. ap (λ zs. y ∷ zs) (placed_inside xs ys h))
      ]) h

  -- behind all of them
  placed_behind : (xs ys : List X) → list_any (before x) xs ≡ false
      → xs ++ insert_in_order before x ys ≡ insert_in_order before x (xs ++ ys)
  placed_behind [] ys h = refl
  placed_behind (y ∷ xs) ys h =
      let parts = or_parts (before x y) (list_any (before x) xs) h in
      rw (parts.0) (ap (λ zs. y ∷ zs) (placed_behind xs ys parts.1))

  -- where the last of an ordered list isn't preceded, none is
  module _ (trans : (x y z : X) → before x y ≡ true → before y z ≡ true → before x z ≡ true) where
    all_last : (p : X → Type 0) (y : X) (ys : List X) → AllByRecursion p (y ∷ ys)
        → (q : X → Bool) → ((z : X) → p z → q z ≡ true) → last_passes q (y ∷ ys) ≡ true
    all_last p y [] h q k = k y h.0
    all_last p y (z ∷ ys) h q k = last_step q y z ys ∙ all_last p z ys h.1 q k

    none_preceded : (xs : List X) → Ordered before xs → last_passes (before x) xs ≡ false
        → list_any (before x) xs ≡ false
    none_preceded [] up h = refl
    none_preceded (y ∷ []) up h = rw h refl
    none_preceded (y ∷ z ∷ zs) up h =
        let rest = none_preceded (z ∷ zs) up.1 (sym (last_step (before x) y z zs) ∙ h) in
        (elim (before x y) as (λ b. before x y ≡ b → (b || list_any (before x) (z ∷ zs)) ≡ false) [
          | true ↦ (λ e. absurd (false≢true (sym h ∙ last_step (before x) y z zs
              ∙ all_last (λ w. before y w ≡ true) z zs up.0 (before x) (λ w k. trans x y w e k))))
          | false ↦ (λ e. rest)
        ]) refl

    -- a front stays one where the new one stands before its last one, or where it is whole
    pub put_inside : (rows : List X) (whole : Bool) (all : List X) → IsFrontOf rows whole all
        → (whole || last_passes (before x) rows) ≡ true
        → IsFrontOf (insert_in_order before x rows) whole (insert_in_order before x all)
    put_inside rows true all f h = record {
      behind = [];
      split = append-nil (insert_in_order before x rows)
          ∙ ap (insert_in_order before x) (sym (append-nil rows)
          ∙ ap (λ ys. rows ++ ys) (sym (f.none_behind refl)) ∙ f.split);
      none_behind = λ _. refl;
    }
    put_inside rows false all f h = record {
      behind = f.behind;
      split = placed_inside rows f.behind (last-any (before x) rows h)
          ∙ ap (insert_in_order before x) f.split;
      none_behind = λ w. absurd (false≢true w);
    }

    -- or else as it is
    pub put_behind : (rows : List X) (whole : Bool) (all : List X) → Ordered before all
        → IsFrontOf rows whole all → (whole || last_passes (before x) rows) ≡ false
        → IsFrontOf rows whole (insert_in_order before x all)
    put_behind rows true all up f h = absurd (false≢true (sym h))
    put_behind rows false all up f h =
        let up' = ordered_front before rows f.behind (subst (Ordered before) (sym f.split) up) in
        record {
          behind = insert_in_order before x f.behind;
          split = placed_behind rows f.behind (none_preceded rows up' h)
              ∙ ap (insert_in_order before x) f.split;
          none_behind = λ w. absurd (false≢true w);
        }

-- ---- none

-- where the last of an ordered list stands before x, none is x
module _ {X : Type 0} (before : X → X → Bool) (mine : X → Bool) (x : X)
    (trans : (a b c : X) → before a b ≡ true → before b c ≡ true → before a c ≡ true)
    (itself : before x x ≡ true → ⊥) where
  not_mine : (y : X) → (mine y ≡ true → y ≡ x) → before y x ≡ true → mine y ≡ false
  not_mine y same h =
      false_from_ne_true (mine y) (λ e. itself (subst (λ z. before z x ≡ true) (same e) h))

  before_x : (y z : X) (zs : List X) → AllByRecursion (λ w. before y w ≡ true) (z ∷ zs)
      → last_passes (λ r. before r x) (z ∷ zs) ≡ true → before y x ≡ true
  before_x y z [] h l = trans y z x h.0 l
  before_x y z (w ∷ zs) h l =
      before_x y w zs h.1 (sym (last_step (λ r. before r x) z w zs) ∙ l)

  pub none_mine : (rows : List X) → Ordered before rows
      → AllByRecursion (λ r. mine r ≡ true → r ≡ x) rows
      → last_passes (λ r. before r x) rows ≡ true → NoneIs mine rows
  none_mine [] up alone l = tt
  none_mine (y ∷ []) up alone l = (not_mine y alone.0 l, tt)
  none_mine (y ∷ z ∷ zs) up alone l =
      let l' = sym (last_step (λ r. before r x) y z zs) ∙ l in (
        not_mine y alone.0 (before_x y z zs up.0 l'),
        none_mine (z ∷ zs) up.1 alone.1 l',
      )

-- ---- cut

-- a shorter front
pub cut_front : {X : Type 0} (rows : List X) (whole : Bool) (all : List X) (m : ℕ)
    → IsFrontOf rows whole all → IsFrontOf (take m rows) false all
cut_front rows whole all m f = record {
  behind = drop m rows ++ f.behind;
  split = sym (append_assoc (take m rows) (drop m rows) f.behind)
      ∙ ap (λ zs. zs ++ f.behind) (take-append-drop m rows) ∙ f.split;
  none_behind = λ w. absurd (false≢true w);
}

-- without its last
pub remove_last_is : {X : Type 0} (m : ℕ) (xs : List X) → length xs ≡ suc m
    → remove xs m ≡ take m xs
remove_last_is zero [] h = refl
remove_last_is zero (x ∷ []) h = refl
remove_last_is zero (x ∷ y ∷ xs) h = absurd (omega arith)
remove_last_is (suc m) [] h = absurd (omega arith)
remove_last_is (suc m) (x ∷ xs) h = ap (λ ys. x ∷ ys) (remove_last_is m xs (omega arith))
