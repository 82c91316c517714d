-- Either order lists exactly the forks that reach the collection.
use Rattle.std.proofs.Common.{◌≡◌, ℕ, zero, suc, ◌<◌, Bool, true, false, cond, ◌&&◌, ◌||◌, List, []}
use Rattle.std.proofs.Common.{◌∷◌, ◌++◌, length, Some, refl, sym, ap, ap₂, ◌∙◌, subst, arith, inl}
use Rattle.std.proofs.Common.{inr}
use Rattle.std.proofs.lemmas.Bool.{and_from, cases_lt, eq-eqb, eqb-true, false≢true, or_cases}
use Rattle.std.proofs.lemmas.Bool.{or_left, or_right}
use Rattle.std.proofs.lemmas.Bool.Decides.{Decides-eqb}
use Rattle.std.proofs.lemmas.List.Folds.{list_any-append}
use Rattle.std.specs.List.{AllByRecursion, filter, flat_map, list_any}
use Rattle.std.specs.Prelude.{◌==◌}
use Rattle.rx_value.proofs.Outcomes.{not_none, some_same}
use Rattle.rx_tree.specs.Forest.{climbed, follows, master_of}
use Rattle.rx_tree.specs.Orders.{numbers_below, forks_of, levels_down, levels_up, down, up}
use Rattle.rx_tree.specs.Orders.{ListsThoseBelow}
use Rattle.rx_tree.specs.Table.{most_collections}
use Rattle.rx_tree.proofs.Climbing.{climb_end, climb_last}
use Rattle.rx_tree.proofs.Depth.{few}
use Rattle.rx_tree.proofs.Forests.{one_master}

-- ---- numbers in lists

-- in what one number comes to
any_flat : (test : ℕ → Bool) (f : ℕ → List ℕ) (xs : List ℕ) (c : ℕ)
    → list_any (λ x. x == c) xs ≡ true → list_any test (f c) ≡ true
    → list_any test (flat_map f xs) ≡ true
any_flat test f [] c is passes = absurd (false≢true is)
any_flat test f (x ∷ xs) c is passes =
    let here = list_any test (f x) in
    let there = list_any test (flat_map f xs) in
    list_any-append test (f x) (flat_map f xs)
    ∙ elim (or_cases (x == c) (list_any (λ y. y == c) xs) is) [
      | inl same ↦ or_left here there (ap (λ y. list_any test (f y)) (eqb-true x c same) ∙ passes)
      | inr later ↦ or_right here there (any_flat test f xs c later passes)
    ]

flat_any : (test : ℕ → Bool) (f : ℕ → List ℕ) (xs : List ℕ) → list_any test (flat_map f xs) ≡ true
    → (c : ℕ) × (list_any (λ x. x == c) xs ≡ true) × (list_any test (f c) ≡ true)
flat_any test f [] is = absurd (false≢true is)
flat_any test f (x ∷ xs) is =
    elim (or_cases (list_any test (f x)) (list_any test (flat_map f xs))
    (sym (list_any-append test (f x) (flat_map f xs)) ∙ is)) [
      | inl here ↦ (x, or_left (x == x) (list_any (λ y. y == x) xs) (eq-eqb x x refl), here)
      | inr later ↦
          let found = flat_any test f xs later in
          (found.0, or_right (x == found.0) (list_any (λ y. y == found.0) xs) found.1, found.2)
    ]

-- what comes to the same in all of them
any_same : (test : ℕ → Bool) (f g : ℕ → List ℕ) (xs : List ℕ)
    → ((x : ℕ) → list_any test (f x) ≡ list_any test (g x))
    → list_any test (flat_map f xs) ≡ list_any test (flat_map g xs)
any_same test f g [] same = refl
any_same test f g (x ∷ xs) same =
    list_any-append test (f x) (flat_map f xs)
    ∙ ap₂ ◌||◌ (same x) (any_same test f g xs same)
    ∙ sym (list_any-append test (g x) (flat_map g xs))

-- a number that passes a test stays
passed : (p : ℕ → Bool) (c : ℕ) (xs : List ℕ) → p c ≡ true → list_any (λ x. x == c) xs ≡ true
    → list_any (λ x. x == c) (filter p xs) ≡ true
passed p c [] so is = is
passed p c (x ∷ xs) so is =
    let later = list_any (λ y. y == c) (filter p xs) in
    elim (or_cases (x == c) (list_any (λ y. y == c) xs) is) [
      | inl here ↦
          ap (λ b. list_any (λ y. y == c) (cond b (x ∷ filter p xs) (filter p xs)))
          (ap p (eqb-true x c here) ∙ so)
          ∙ or_left (x == c) later here
      | inr more ↦
          let rest = passed p c xs so more in
          elim (p x)
          as (λ b. list_any (λ y. y == c) (cond b (x ∷ filter p xs) (filter p xs)) ≡ true)
          [ true ↦ or_right (x == c) later rest | false ↦ rest ]
    ]

-- and one that stayed passes
passes : (p : ℕ → Bool) (c : ℕ) (xs : List ℕ) → list_any (λ x. x == c) (filter p xs) ≡ true
    → p c ≡ true
passes p c [] is = absurd (false≢true is)
passes p c (x ∷ xs) is =
    elim (p x)
    as (λ b. p x ≡ b → list_any (λ y. y == c) (cond b (x ∷ filter p xs) (filter p xs)) ≡ true
    → p c ≡ true) [
      | true ↦ (λ so found.
          elim (or_cases (x == c) (list_any (λ y. y == c) (filter p xs)) found) [
            | inl here ↦ ap p (sym (eqb-true x c here)) ∙ so
            | inr later ↦ passes p c xs later
          ])
      | false ↦ (λ so found. passes p c xs found)
    ] refl is

number : (c n : ℕ) → c < n → list_any (λ x. x == c) (numbers_below n) ≡ true
unfolding numbers_below
number c zero less = absurd (omega arith)
number c (suc n) less =
    let below = list_any (λ x. x == c) (numbers_below n) in
    list_any-append (λ x. x == c) (numbers_below n) (n ∷ [])
    ∙ elim (cases_lt c n) [
      | inl lower ↦ or_left below (n == c || false) (number c n lower)
      | inr not_lower ↦
          let same : n ≡ c = omega arith in
          or_right below (n == c || false) (or_left (n == c) false (eq-eqb n c same))
    ]

-- ---- forks

-- a fork has a number below the most
fork_small : (es : List (ℕ × ℕ)) (c m : ℕ) → AllByRecursion (λ e. e.0 < most_collections) es
    → master_of ◌==◌ es c ≡ Some m → c < most_collections
fork_small [] c m few is = not_none is
fork_small (e ∷ es) c m few is =
    elim (c == e.0)
    as (λ b. (c == e.0) ≡ b → cond b (Some e.1) (master_of ◌==◌ es c) ≡ Some m
    → c < most_collections) [
      | true ↦ (λ so found.
          subst (λ (x : ℕ). x < most_collections) (sym (eqb-true c e.0 so)) few.0)
      | false ↦ (λ so found. fork_small es c m few.1 found)
    ] refl is

-- and follows its master
has_master : (es : List (ℕ × ℕ)) (c m : ℕ) → master_of ◌==◌ es c ≡ Some m
    → follows ◌==◌ es m c ≡ true
has_master [] c m is = not_none is
has_master (e ∷ es) c m is =
    let this = e.0 == c && e.1 == m in
    elim (c == e.0)
    as (λ b. (c == e.0) ≡ b → cond b (Some e.1) (master_of ◌==◌ es c) ≡ Some m
    → (this || follows ◌==◌ es m c) ≡ true) [
      | true ↦ (λ so found.
          or_left this (follows ◌==◌ es m c)
          (and_from (e.0 == c) (e.1 == m) (eq-eqb e.0 c (sym (eqb-true c e.0 so)))
          (eq-eqb e.1 m (some_same found))))
      | false ↦ (λ so found. or_right this (follows ◌==◌ es m c) (has_master es c m found))
    ] refl is

-- ---- levels

-- one that is a fork itself, or is listed below it
here_or_below : (k : ℕ) (es : List (ℕ × ℕ)) (n c : ℕ) (listed : Bool)
    → climbed ◌==◌ k es n ≡ Some c
    → ((j : ℕ) → suc j ≡ k → climbed ◌==◌ (suc j) es n ≡ Some c → listed ≡ true)
    → (c == n || listed) ≡ true
here_or_below zero es n c listed is rest =
    or_left (c == n) listed (eq-eqb c n (sym (some_same is)))
here_or_below (suc k) es n c listed is rest = or_right (c == n) listed (rest k refl is)

-- what reaches the collection within the levels is listed
listed : (levels k : ℕ) (es : List (ℕ × ℕ)) (n top : ℕ)
    → AllByRecursion (λ e. e.0 < most_collections) es → k < levels
    → climbed ◌==◌ (suc k) es n ≡ Some top
    → list_any (λ c. c == n) (levels_down (forks_of es) levels top) ≡ true
listed zero k es n top few less is = absurd (omega arith)
listed (suc levels) k es n top few less is =
    let last = climb_last ◌==◌ Decides-eqb k es n top is in
    let c = last.0 in
    any_flat (λ x. x == n) (λ x. x ∷ levels_down (forks_of es) levels x) (forks_of es top) c
    (passed (follows ◌==◌ es top) c (numbers_below most_collections) (has_master es c top last.2)
    (number c most_collections (fork_small es c top few last.2)))
    (here_or_below k es n c (list_any (λ x. x == n) (levels_down (forks_of es) levels c)) last.1
    (λ j next way. listed levels j es n c few (omega (arith, next, less)) way))

-- what is listed reaches it
reaches : (levels : ℕ) (es : List (ℕ × ℕ)) (n top : ℕ)
    → ((m c : ℕ) → follows ◌==◌ es m c ≡ true → master_of ◌==◌ es c ≡ Some m)
    → list_any (λ c. c == n) (levels_down (forks_of es) levels top) ≡ true
    → (k : ℕ) × (climbed ◌==◌ (suc k) es n ≡ Some top)
reaches zero es n top only is = absurd (false≢true is)
reaches (suc levels) es n top only is =
    let found = flat_any (λ x. x == n) (λ x. x ∷ levels_down (forks_of es) levels x)
    (forks_of es top) is in
    let c = found.0 in
    let at = only top c (passes (follows ◌==◌ es top) c (numbers_below most_collections) found.1) in
    elim (or_cases (c == n) (list_any (λ x. x == n) (levels_down (forks_of es) levels c)) found.2) [
      | inl here ↦
          (0, climb_end ◌==◌ Decides-eqb 0 es n c top (ap Some (sym (eqb-true c n here))) at)
      | inr below ↦
          let way = reaches levels es n c only below in
          (suc way.0, climb_end ◌==◌ Decides-eqb (suc way.0) es n c top way.1 at)
    ]

pub down_lists : ListsThoseBelow down
down_lists es n top tree = (
  λ is. reaches (length es) es n top (one_master ◌==◌ Decides-eqb es tree.forest) is,
  λ way.
      let steps = few ◌==◌ Decides-eqb es (suc way.0) n top tree.forest way.1 in
      listed (length es) way.0 es n top tree.few (omega (arith, steps)) way.1,
)

-- ---- the other order

turned : (a b : Bool) → (a || (b || false)) ≡ (b || a)
turned true true = refl
turned true false = refl
turned false true = refl
turned false false = refl

-- it lists the same
same_listed : (test : ℕ → Bool) (levels : ℕ) (es : List (ℕ × ℕ)) (top : ℕ)
    → list_any test (levels_up (forks_of es) levels top)
    ≡ list_any test (levels_down (forks_of es) levels top)
same_listed test zero es top = refl
same_listed test (suc levels) es top =
    any_same test (λ x. levels_up (forks_of es) levels x ++ x ∷ [])
    (λ x. x ∷ levels_down (forks_of es) levels x)
    (forks_of es top)
    (λ x. list_any-append test (levels_up (forks_of es) levels x) (x ∷ [])
    ∙ turned (list_any test (levels_up (forks_of es) levels x)) (test x)
    ∙ ap (λ b. test x || b) (same_listed test levels es x))

pub up_lists : ListsThoseBelow up
up_lists es n top tree =
    let same = same_listed (λ c. c == n) (length es) es top in
    let lists = down_lists es n top tree in
    (λ is. lists.0 (sym same ∙ is), λ way. same ∙ lists.1 way)
