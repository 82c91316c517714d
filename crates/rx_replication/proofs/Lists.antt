-- What is among a list that is mapped, filtered or cut.
use Rattle.std.proofs.Common.{◌≡◌, ℕ, zero, suc, ◌<◌, ◌≤◌, Bool, true, false, cond, List, [], ◌∷◌, map, take, length, filter, Option, Some, None, refl, sym, ap, ◌∙◌, inl, inr, subst, arith, slice_get}
use Rattle.std.specs.List.{AllByRecursion, filter_map, cons_option}
use Rattle.std.specs.Map.{values_of}
use Rattle.rx_value.proofs.Outcomes.{some_same, not_none}
use Rattle.rx_replication.specs.Member.{Member}

-- ---- lists

module _ {A : Type 0} where
  -- what holds of all holds of one among them
  pub all_at : (P : A → Type 0) (xs : List A) (x : A) → AllByRecursion P xs → Member x xs → P x
  all_at P [] x all h = absurd h
  all_at P (y ∷ ys) x all (inl is) = subst P (sym is) all.0
  all_at P (y ∷ ys) x all (inr h) = all_at P ys x all.1 h

  -- and what holds of each holds of all
  pub all_each : (P : A → Type 0) (xs : List A) → ((x : A) → Member x xs → P x)
      → AllByRecursion P xs
  all_each P [] each = tt
  all_each P (x ∷ xs) each = (each x (inl refl), all_each P xs (λ y h. each y (inr h)))

  pub to_filter : (test : A → Bool) (xs : List A) (x : A) → Member x xs → test x ≡ true
      → Member x (filter test xs)
  to_filter test [] x h passes = h
  to_filter test (y ∷ ys) x (inl is) passes =
      subst (λ b. Member x (cond b (y ∷ filter test ys) (filter test ys))) (sym passes ∙ ap test is)
      (inl is)
  to_filter test (y ∷ ys) x (inr h) passes =
      let rest = to_filter test ys x h passes in
      elim (test y) as (λ b. Member x (cond b (y ∷ filter test ys) (filter test ys)))
      [ true ↦ inr rest | false ↦ rest ]

  pub from_filter : (test : A → Bool) (xs : List A) (x : A) → Member x (filter test xs)
      → Member x xs × (test x ≡ true)
  from_filter test [] x h = absurd h
  from_filter test (y ∷ ys) x h =
      elim (test y) as (λ b. test y ≡ b → Member x (cond b (y ∷ filter test ys) (filter test ys))
      → Member x (y ∷ ys) × (test x ≡ true)) [
        | true ↦ (λ t. elim [
          | inl is ↦ (inl is, ap test is ∙ t)
          | inr r ↦ let rest = from_filter test ys x r in (inr rest.0, rest.1)
        ])
        | false ↦ (λ t r. let rest = from_filter test ys x r in (inr rest.0, rest.1))
      ] refl h

  pub length-filter : (test : A → Bool) (xs : List A) → length (filter test xs) ≤ length xs
  length-filter test [] = omega arith
  length-filter test (x ∷ xs) =
      let h = length-filter test xs in
      elim (test x)
      as (λ b. length (cond b (x ∷ filter test xs) (filter test xs)) ≤ suc (length xs))
      [ true ↦ omega arith | false ↦ omega arith ]

  pub from_take : (n : ℕ) (xs : List A) (x : A) → Member x (take n xs) → Member x xs
  from_take zero xs x h = absurd h
  from_take (suc n) [] x h = absurd h
  from_take (suc n) (y ∷ ys) x (inl is) = inl is
  from_take (suc n) (y ∷ ys) x (inr h) = inr (from_take n ys x h)

  -- fewer than were to be taken are all
  pub take_few : (n : ℕ) (xs : List A) → length (take n xs) < n → take n xs ≡ xs
  take_few zero xs h = absurd (omega arith)
  take_few (suc n) [] h = refl
  take_few (suc n) (x ∷ xs) h = ap (λ r. x ∷ r) (take_few n xs (omega arith))

  pub take_none : (n : ℕ) (xs : List A) → 1 ≤ n → take n xs ≡ [] → xs ≡ []
  take_none zero xs some h = absurd (omega arith)
  take_none (suc n) [] some h = refl
  take_none (suc n) (x ∷ xs) some h = absurd (cc)

  pub from_slice_get : (xs : List A) (i : ℕ) (x : A) → slice_get xs i ≡ Some x → Member x xs
  from_slice_get [] i x h = not_none h
  from_slice_get (y ∷ ys) zero x h = inl (sym (some_same h))
  from_slice_get (y ∷ ys) (suc i) x h = inr (from_slice_get ys i x h)

  pub from_slice_take : (n : ℕ) (xs : List A) (i : ℕ) (x : A)
      → slice_get (take n xs) i ≡ Some x → Member x xs
  from_slice_take n xs i x h = from_take n xs x (from_slice_get (take n xs) i x h)

  module _ {B : Type 0} where
    pub to_map : (f : A → B) (xs : List A) (x : A) → Member x xs → Member (f x) (map f xs)
    to_map f [] x h = h
    to_map f (y ∷ ys) x (inl is) = inl (ap f is)
    to_map f (y ∷ ys) x (inr h) = inr (to_map f ys x h)

    pub from_map : (f : A → B) (xs : List A) (y : B) → Member y (map f xs)
        → (x : A) × Member x xs × (y ≡ f x)
    from_map f [] y h = absurd h
    from_map f (x ∷ xs) y (inl is) = (x, inl refl, is)
    from_map f (x ∷ xs) y (inr h) = let rest = from_map f xs y h in (rest.0, inr rest.1, rest.2)

    pub to_filter_map : (f : A → Option B) (xs : List A) (x : A) (y : B) → Member x xs
        → f x ≡ Some y → Member y (filter_map f xs)
    to_filter_map f [] x y h at = absurd h
    to_filter_map f (z ∷ zs) x y (inl is) at =
        subst (λ o. Member y (cons_option o (filter_map f zs))) (sym at ∙ ap f is) (inl refl)
    to_filter_map f (z ∷ zs) x y (inr h) at =
        let rest = to_filter_map f zs x y h at in
        elim (f z) as (λ o. Member y (cons_option o (filter_map f zs)))
        [ None ↦ rest | Some t ↦ inr rest ]

    pub from_filter_map : (f : A → Option B) (xs : List A) (y : B) → Member y (filter_map f xs)
        → (x : A) × Member x xs × (f x ≡ Some y)
    from_filter_map f [] y h = absurd h
    from_filter_map f (z ∷ zs) y h =
        let more : Member y (filter_map f zs) → (x : A) × Member x (z ∷ zs) × (f x ≡ Some y) =
        λ r. let rest = from_filter_map f zs y r in (rest.0, inr rest.1, rest.2) in
        elim (f z) as (λ o. f z ≡ o → Member y (cons_option o (filter_map f zs))
        → (x : A) × Member x (z ∷ zs) × (f x ≡ Some y)) [
          | None ↦ (λ at r. more r)
          | Some t ↦ (λ at. elim [
            | inl is ↦ (z, inl refl, at ∙ ap Some (sym is))
            | inr r ↦ more r
          ])
        ] refl h

    -- a thing is among those of entries
    pub to_values_of : (es : List (A × B)) (e : A × B) → Member e es → Member e.1 (values_of es)
    to_values_of [] e h = h
    to_values_of (x ∷ es) e (inl is) = inl (ap (λ (z : A × B). z.1) is)
    to_values_of (x ∷ es) e (inr h) = inr (to_values_of es e h)

    pub from_values_of : (es : List (A × B)) (x : B) → Member x (values_of es)
        → (e : A × B) × Member e es × (x ≡ e.1)
    from_values_of [] x h = absurd h
    from_values_of (e ∷ es) x (inl is) = (e, inl refl, is)
    from_values_of (e ∷ es) x (inr h) =
        let rest = from_values_of es x h in (rest.0, inr rest.1, rest.2)
