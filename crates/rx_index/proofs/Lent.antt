-- Keys that are lent, and the primary keys in them.
use Rattle.std.proofs.Common.{◌≡◌, ℕ, zero, suc, ◌-◌, ◌≤◌, List, [], ◌∷◌, ◌++◌, map, length, reverse, slice_get, Bool, true, false, Option, Some, None, option_map, refl, sym, ap, ◌∙◌, subst, arith}
use Rattle.std.proofs.lemmas.List.{map-append, reverse-append}
use Rattle.std.proofs.lemmas.Option.{slice_get-map}
use Rattle.std.specs.List.{AllByRecursion}
use Rattle.std.specs.Str.{is_utf8}
use Rattle.rx_value.proofs.Outcomes.{not_none, some_same}
use Rattle.rx_index.specs.ByKey.{IsNameOf, id_in}
use Rattle.rx_index.proofs.Ids.{parted}

module _ {X : Type 0} where
  -- ---- what stands at a place of two lists

  first_at : (xs ys : List X) (i : ℕ) (x : X) → Some x ≡ slice_get xs i
      → Some x ≡ slice_get (xs ++ ys) i
  first_at [] ys i x at = not_none (sym at)
  first_at (z ∷ xs) ys zero x at = at
  first_at (z ∷ xs) ys (suc i) x at = first_at xs ys i x at

  second_at : (xs ys : List X) (i : ℕ) → None ≡ slice_get xs i
      → slice_get ys (i - length xs) ≡ slice_get (xs ++ ys) i
  second_at [] ys i at = ap (slice_get ys) (omega arith)
  second_at (z ∷ xs) ys zero at = not_none at
  second_at (z ∷ xs) ys (suc i) at =
      let less : suc i - suc (length xs) ≡ i - length xs = omega arith in
      ap (slice_get ys) less ∙ second_at xs ys i at

  -- where there is none there are no more
  pub none_past : (xs : List X) (i : ℕ) → None ≡ slice_get xs i → length xs ≤ i
  none_past [] i at = omega arith
  none_past (x ∷ xs) zero at = not_none at
  none_past (x ∷ xs) (suc i) at = let rest = none_past xs i at in omega arith

  all_at : (P : X → Type 0) (xs : List X) (i : ℕ) (x : X) → Some x ≡ slice_get xs i
      → AllByRecursion P xs → P x
  all_at P [] i x at all = not_none (sym at)
  all_at P (z ∷ xs) zero x at all = subst P (sym (some_same at)) all.0
  all_at P (z ∷ xs) (suc i) x at all = all_at P xs i x at all.1

  all_joined : (P : X → Type 0) (xs ys : List X) → AllByRecursion P xs → AllByRecursion P ys
      → AllByRecursion P (xs ++ ys)
  all_joined P [] ys first second = second
  all_joined P (x ∷ xs) ys first second = (first.0, all_joined P xs ys first.1 second)

  all_reversed : (P : X → Type 0) (xs : List X) → AllByRecursion P xs
      → AllByRecursion P (reverse xs)
  all_reversed P [] all = tt
  all_reversed P (x ∷ xs) all =
      subst (AllByRecursion P) (sym (reverse-append (x ∷ []) xs))
      (all_joined P (reverse xs) (x ∷ []) (all_reversed P xs all.1) (all.0, tt))

  length_reversed : (xs : List X) → length (reverse xs) ≡ length xs
  length_reversed [] = refl
  length_reversed (x ∷ xs) =
      let rest = length_reversed xs in
      ap length (reverse-append (x ∷ []) xs) ∙ one_more (reverse xs) x ∙ ap suc rest
    where
      one_more : (ys : List X) (y : X) → length (ys ++ y ∷ []) ≡ suc (length ys)
      one_more [] y = refl
      one_more (z ∷ ys) y = ap suc (one_more ys y)

reversed_map : {X Y : Type 0} (f : X → Y) (xs : List X) → map f (reverse xs) ≡ reverse (map f xs)
reversed_map f [] = refl
reversed_map f (x ∷ xs) =
    ap (map f) (reverse-append (x ∷ []) xs) ∙ map-append f (reverse xs) (x ∷ [])
    ∙ ap (λ ys. ys ++ f x ∷ []) (reversed_map f xs)
    ∙ sym (reverse-append (f x ∷ []) (map f xs))

-- ---- names

abbrev Entry : Type 0
Entry = List ℕ × ℕ

module _ (packed : Bool) (near far : List Entry)
    (are : AllByRecursion (λ (e : Entry). IsNameOf packed e.0) (near ++ far)) where
  abbrev ids : List Entry → List (List ℕ)
  ids es = map (λ e. id_in packed e.0) es

  abbrev IsName : Entry → Type 0
  IsName e = IsNameOf packed e.0

  shown_at : (es : List Entry) (i : ℕ) (o : Option Entry) → o ≡ slice_get es i
      → option_map (λ e. id_in packed e.0) o ≡ slice_get (ids es) i
  shown_at es i o at =
      ap (option_map (λ e. id_in packed e.0)) at
      ∙ sym (slice_get-map (λ (e : Entry). id_in packed e.0) es i)

  -- one of the first
  pub near_is : (i : ℕ) (e : Entry) → Some e ≡ slice_get near i → IsName e
  near_is i e at = all_at IsName (near ++ far) i e (first_at near far i e at) are

  pub near_shown : (i : ℕ) (e : Entry) → Some e ≡ slice_get near i
      → Some (id_in packed e.0) ≡ slice_get (ids (near ++ far)) i
  near_shown i e at = shown_at (near ++ far) i (Some e) (first_at near far i e at)

  -- one of the others
  there : (i : ℕ) (o : Option Entry) → None ≡ slice_get near i
      → o ≡ slice_get far (i - length near) → o ≡ slice_get (near ++ far) i
  there i o none at = at ∙ second_at near far i none

  pub far_is : (i : ℕ) (e : Entry) → None ≡ slice_get near i
      → Some e ≡ slice_get far (i - length near) → IsName e
  far_is i e none at = all_at IsName (near ++ far) i e (there i (Some e) none at) are

  pub far_shown : (i : ℕ) (o : Option Entry) → None ≡ slice_get near i
      → o ≡ slice_get far (i - length near)
      → option_map (λ e. id_in packed e.0) o ≡ slice_get (ids (near ++ far)) i
  far_shown i o none at = shown_at (near ++ far) i o (there i o none at)

-- the same from the back
module _ (packed : Bool) (near far : List Entry)
    (are : AllByRecursion (λ (e : Entry). IsNameOf packed e.0) (near ++ far)) where
  turned : AllByRecursion (λ (e : Entry). IsNameOf packed e.0) (reverse far ++ reverse near)
  turned =
      subst (AllByRecursion (λ (e : Entry). IsNameOf packed e.0)) (reverse-append near far)
      (all_reversed (λ (e : Entry). IsNameOf packed e.0) (near ++ far) are)

  ids_turned : map (λ (e : Entry). id_in packed e.0) (reverse far ++ reverse near)
      ≡ reverse (map (λ (e : Entry). id_in packed e.0) (near ++ far))
  ids_turned =
      ap (map (λ (e : Entry). id_in packed e.0)) (sym (reverse-append near far))
      ∙ reversed_map (λ (e : Entry). id_in packed e.0) (near ++ far)

  long : length (reverse far) ≡ length far
  long = length_reversed far

  pub back_far_is : (i : ℕ) (e : Entry) → Some e ≡ slice_get (reverse far) i
      → IsNameOf packed e.0
  back_far_is = near_is packed (reverse far) (reverse near) turned

  pub back_far_shown : (i : ℕ) (e : Entry) → Some e ≡ slice_get (reverse far) i
      → Some (id_in packed e.0)
      ≡ slice_get (reverse (map (λ (e : Entry). id_in packed e.0) (near ++ far))) i
  back_far_shown i e at =
      near_shown packed (reverse far) (reverse near) turned i e at
      ∙ ap (λ ids. slice_get ids i) ids_turned

  pub back_past : (i : ℕ) → None ≡ slice_get (reverse far) i → length far ≤ i
  back_past i none = subst (λ n. n ≤ i) long (none_past (reverse far) i none)

  pub back_near_is : (i : ℕ) (e : Entry) → None ≡ slice_get (reverse far) i
      → Some e ≡ slice_get (reverse near) (i - length far) → IsNameOf packed e.0
  back_near_is i e none at =
      far_is packed (reverse far) (reverse near) turned i e none
      (at ∙ ap (λ n. slice_get (reverse near) (i - n)) (sym long))

  pub back_near_shown : (i : ℕ) (o : Option Entry) → None ≡ slice_get (reverse far) i
      → o ≡ slice_get (reverse near) (i - length far)
      → option_map (λ (e : Entry). id_in packed e.0) o
      ≡ slice_get (reverse (map (λ (e : Entry). id_in packed e.0) (near ++ far))) i
  back_near_shown i o none at =
      far_shown packed (reverse far) (reverse near) turned i o none
      (at ∙ ap (λ n. slice_get (reverse near) (i - n)) (sym long))
      ∙ ap (λ ids. slice_get ids i) ids_turned

-- a primary key is a text
pub text_of : (packed : Bool) (name : List ℕ) → IsNameOf packed name
    → is_utf8 (id_in packed name) ≡ true
text_of true name is = (parted name is).text
text_of false name is = is
