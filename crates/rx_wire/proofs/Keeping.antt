-- What a turn of reading keeps.
use Rattle.std.proofs.Common.{◌≡◌, ℕ, zero, suc, ◌<◌, ◌≤◌, List, [], ◌∷◌, ◌++◌, length, map, take, ltb, Bool, true, false, cond, refl, sym, ap, ap₂, ◌∙◌, subst, arith}
use Rattle.std.proofs.Math.Seq.{take-nil}
use Rattle.std.proofs.lemmas.Bool.{ltb-true, ltb-false}
use Rattle.std.proofs.lemmas.List.{map-append, length-map}
use Rattle.serde_json.specs.Data.{Data, item}
use Rattle.serde_json.specs.View.{view, items_of}
use Rattle.serde_json.specs.declared.value.Value.{Value}
use Rattle.rx_schema.specs.declared.shape.Shape.{Shape}
use Rattle.rx_wire.specs.Kept.{kept, kept_items}

-- ---- the first ones of a list that grows at its end

-- while there is room
take_more : {A : Type 0} (n : ℕ) (xs : List A) (x : A) → length (take n xs) < n
    → take n (xs ++ x ∷ []) ≡ take n xs ++ x ∷ []
take_more zero xs x h = absurd (omega arith)
take_more (suc n) [] x h = ap (λ ys. x ∷ ys) (take-nil n)
take_more (suc n) (y ∷ xs) x h = ap (λ ys. y ∷ ys) (take_more n xs x (omega (arith, h)))

-- and where there is none left
take_full : {A : Type 0} (n : ℕ) (xs : List A) (x : A) → n ≤ length (take n xs)
    → take n (xs ++ x ∷ []) ≡ take n xs
take_full zero xs x h = refl
take_full (suc n) [] x h = absurd (omega (arith, h))
take_full (suc n) (y ∷ xs) x h = ap (λ ys. y ∷ ys) (take_full n xs x (omega (arith, h)))

-- ---- items

-- the items that are kept of a list
pub firsts : (s : Shape) (most levels : ℕ) (ds : List Data)
    → kept_items s most levels (items_of ds) ≡ items_of (take most (map (kept s levels) ds))
firsts s zero levels [] = refl
firsts s (suc most) levels [] = refl
firsts s zero levels (d ∷ ds) = refl
firsts s (suc most) levels (d ∷ ds) = ap (item (kept s levels d)) (firsts s most levels ds)

module _ (s : Shape) (most levels : ℕ) (vs : List Value) (v : Value) (ds : List Data) (d : Data)
    (so_far : map view vs ≡ take most (map (kept s levels) ds)) where
  -- one more is kept
  pushed : view v ≡ kept s levels d → length vs < most
      → map view (vs ++ v ∷ []) ≡ take most (map (kept s levels) (ds ++ d ∷ []))
  pushed is h =
      let few : length (take most (map (kept s levels) ds)) < most =
      subst (λ n. n < most) (sym (length-map vs view) ∙ ap length so_far) h in
      map-append view vs (v ∷ []) ∙ ap₂ (λ xs x. xs ++ x ∷ []) so_far is
      ∙ sym (take_more most (map (kept s levels) ds) (kept s levels d) few)
      ∙ ap (take most) (sym (map-append (kept s levels) ds (d ∷ [])))

  -- or let go
  passed : most ≤ length vs → map view vs ≡ take most (map (kept s levels) (ds ++ d ∷ []))
  passed h =
      let full : most ≤ length (take most (map (kept s levels) ds)) =
      subst (λ n. most ≤ n) (sym (length-map vs view) ∙ ap length so_far) h in
      so_far ∙ sym (take_full most (map (kept s levels) ds) (kept s levels d) full)
      ∙ ap (take most) (sym (map-append (kept s levels) ds (d ∷ [])))

  -- as the room tells
  pub item_kept : (new : List Value) → view v ≡ kept s levels d
      → new ≡ cond (ltb (length vs) most) (vs ++ v ∷ []) vs
      → map view new ≡ take most (map (kept s levels) (ds ++ d ∷ []))
  item_kept new is e = ap (map view) e ∙ sized (ltb (length vs) most) refl
    where
      sized : (b : Bool) → ltb (length vs) most ≡ b
          → map view (cond b (vs ++ v ∷ []) vs) ≡ take most (map (kept s levels) (ds ++ d ∷ []))
      sized true h = pushed is (ltb-true (length vs) most h)
      sized false h = passed (ltb-false (length vs) most h)
