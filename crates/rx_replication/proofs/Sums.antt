-- Sums over documents and over keys.
use Rattle.std.proofs.Common.{◌≡◌, ℕ, ◌+◌, ◌*◌, ◌≤◌, Bool, true, false, cond, List, [], ◌∷◌, filter, length, Some, refl, sym, ap, ◌∙◌, inl, inr, arith, true≢false, Less, Equal, Greater}
use Rattle.std.proofs.lemmas.List.Sums.{sum_by-cons}
use Rattle.std.specs.FinMap.Entries.{put, by_order}
use Rattle.std.specs.List.{sum_by}
use Rattle.std.specs.List.Sorted.{IsStrictlySortedBy}
use Rattle.std.specs.Map.{keys_of, values_of}
use Rattle.std.specs.Ordering.{eq_by_cmp, is_eq}
use Rattle.rx_value.specs.Named.{named}
use Rattle.rx_value.proofs.Outcomes.{not_none}
use Rattle.rx_document.specs.Documents.{Documents}
use Rattle.rx_document.specs.Place.{place_cmp}
use Rattle.rx_document.specs.declared.place.Place.{Place}
use Rattle.rx_document.specs.declared.stored.Stored.{Stored}
use Rattle.rx_collection.specs.Since.{place_of, by_place}
use Rattle.rx_collection.proofs.Named.{first_alone}
use Rattle.rx_replication.specs.Member.{Member}
use Rattle.rx_replication.specs.Write.{AreByKey}
use Rattle.rx_replication.proofs.Lists.{all_at}
use Rattle.rx_replication.proofs.Pages.{placed, other_place, are_placed}

module _ {A : Type 0} where
  pub sum-le : (f h g : A → ℕ) (xs : List A) → ((x : A) → f x + h x ≤ g x)
      → sum_by f xs + sum_by h xs ≤ sum_by g xs
  sum-le f h g [] each = omega arith
  sum-le f h g (x ∷ xs) each =
      omega (
        arith,
        each x,
        sum-le f h g xs each,
        sum_by-cons f x xs,
        sum_by-cons h x xs,
        sum_by-cons g x xs,
      )

  pub sum-add : (f h : A → ℕ) (xs : List A)
      → sum_by (λ x. f x + h x) xs ≡ sum_by f xs + sum_by h xs
  sum-add f h [] = refl
  sum-add f h (x ∷ xs) =
      omega (
        arith,
        sum-add f h xs,
        sum_by-cons f x xs,
        sum_by-cons h x xs,
        sum_by-cons (λ x. f x + h x) x xs,
      )

  pub sum-same : (f g : A → ℕ) (xs : List A) → ((x : A) → Member x xs → f x ≡ g x)
      → sum_by f xs ≡ sum_by g xs
  sum-same f g [] same = refl
  sum-same f g (x ∷ xs) same =
      omega (
        arith,
        same x (inl refl),
        sum-same f g xs (λ y m. same y (inr m)),
        sum_by-cons f x xs,
        sum_by-cons g x xs,
      )

  -- of no more than n each
  pub sum-times : (f : A → ℕ) (n : ℕ) (xs : List A) → ((x : A) → f x ≤ n)
      → sum_by f xs ≤ n * length xs
  sum-times f n [] each = omega arith
  sum-times f n (x ∷ xs) each =
      omega (arith, each x, sum-times f n xs each, sum_by-cons f x xs)

  -- over what passes a test
  pub sum-filter : (f : A → ℕ) (test : A → Bool) (xs : List A)
      → sum_by f (filter test xs) ≡ sum_by (λ x. cond (test x) (f x) 0) xs
  sum-filter f test [] = refl
  sum-filter f test (x ∷ xs) =
      let rest = sum-filter f test xs in
      let here = sum_by-cons (λ x. cond (test x) (f x) 0) x xs in
      elim (test x) as (λ b. sum_by (λ x. cond (test x) (f x) 0) (x ∷ xs)
      ≡ cond b (f x) 0 + sum_by (λ x. cond (test x) (f x) 0) xs
      → sum_by f (cond b (x ∷ filter test xs) (filter test xs))
      ≡ sum_by (λ x. cond (test x) (f x) 0) (x ∷ xs)) [
        | true ↦ (λ here. omega (arith, sum_by-cons f x (filter test xs)))
        | false ↦ (λ here. omega arith)
      ] here

  module _ {B : Type 0} where
    pub sum-values : (f : B → ℕ) (es : List (A × B))
        → sum_by f (values_of es) ≡ sum_by (λ (e : A × B). f e.1) es
    sum-values f [] = refl
    sum-values f (e ∷ es) =
        omega (
          arith,
          sum-values f es,
          sum_by-cons f e.1 (values_of es),
          sum_by-cons (λ (e : A × B). f e.1) e es,
        )

    pub sum-keys : (f : A → ℕ) (es : List (A × B))
        → sum_by f (keys_of es) ≡ sum_by (λ (e : A × B). f e.0) es
    sum-keys f [] = refl
    sum-keys f (e ∷ es) =
        omega (
          arith,
          sum-keys f es,
          sum_by-cons f e.0 (keys_of es),
          sum_by-cons (λ (e : A × B). f e.0) e es,
        )

-- ---- documents by place

-- to put a document where none stands adds it
sum-put : (f : Stored → ℕ) (p : Place) (d : Stored) (es : List (Place × Stored))
    → ((e : Place × Stored) → Member e es → eq_by_cmp place_cmp p e.0 ≡ false)
    → sum_by f (values_of (put place_cmp p d es)) ≡ f d + sum_by f (values_of es)
sum-put f p d [] alone = sum_by-cons f d []
sum-put f p d (e ∷ es) alone =
    let rest = sum-put f p d es (λ x m. alone x (inr m)) in
    elim (place_cmp p e.0) as (λ r. is_eq r ≡ false
    → sum_by f (values_of (by_order r ((p, d) ∷ e ∷ es) ((e.0, d) ∷ es) (e ∷ put place_cmp p d es)))
    ≡ f d + sum_by f (values_of (e ∷ es))) [
      | Less ↦ (λ h. sum_by-cons f d (values_of (e ∷ es)))
      | Equal ↦ (λ h. absurd (true≢false h))
      | Greater ↦ (λ h. omega (
        arith,
        sum_by-cons f e.1 (values_of (put place_cmp p d es)),
        sum_by-cons f e.1 (values_of es),
      ))
    ] (alone e (inl refl))

pub sum-placed : (f : Stored → ℕ) (es : Documents) → AreByKey es
    → sum_by f (placed es) ≡ sum_by f (values_of es)
unfolding IsStrictlySortedBy
sum-placed f [] by_key = refl
sum-placed f (e ∷ es) by_key =
    let rest : AreByKey es = record { rising = by_key.rising.1; keyed = by_key.keyed.1 } in
    omega (
      arith,
      sum-placed f es rest,
      sum_by-cons f e.1 (values_of es),
      sum-put f (place_of e.1) e.1 (by_place es) (λ x m.
          let at = all_at (λ x. (x.0 ≡ place_of x.1) × (named es x.1.state.key ≡ Some x.1))
          (by_place es) x
          (are_placed es rest) m in
          ap (eq_by_cmp place_cmp (place_of e.1)) at.0
          ∙ other_place e.1 x.1 (λ same. not_none
          (sym (first_alone e es by_key.rising)
          ∙ ap (named es) (sym by_key.keyed.0 ∙ same) ∙ at.1))),
    )
