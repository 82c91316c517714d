-- The orders of a tree, a fork after another.
use Rattle.std.proofs.Common.{◌≡◌, ℕ, zero, suc, ◌+◌, ◌-◌, ◌<◌, Bool, true, false, cond, List, []}
use Rattle.std.proofs.Common.{◌∷◌, ◌++◌, sym, ap, ap₂, ◌∙◌, add-one, append-nil, arith}
use Rattle.std.proofs.lemmas.List.Elements.{filter-append}
use Rattle.std.specs.List.{filter, flat_map}
use Rattle.rx_tree.specs.Orders.{numbers_below, forks_of, levels_down, levels_up}

-- one more level
pub levels_down-more : (levels : ℕ) (es : List (ℕ × ℕ)) (n : ℕ) → 0 < levels
    → flat_map (λ c. c ∷ levels_down (forks_of es) (levels - 1) c) (forks_of es n)
    ≡ levels_down (forks_of es) levels n
levels_down-more zero es n some = absurd (omega arith)
levels_down-more (suc k) es n some =
    let less : suc k - 1 ≡ k = omega arith in
    ap (λ j. flat_map (λ c. c ∷ levels_down (forks_of es) j c) (forks_of es n)) less

pub levels_up-more : (levels : ℕ) (es : List (ℕ × ℕ)) (n : ℕ) → 0 < levels
    → flat_map (λ c. levels_up (forks_of es) (levels - 1) c ++ c ∷ []) (forks_of es n)
    ≡ levels_up (forks_of es) levels n
levels_up-more zero es n some = absurd (omega arith)
levels_up-more (suc k) es n some =
    let less : suc k - 1 ≡ k = omega arith in
    ap (λ j. flat_map (λ c. levels_up (forks_of es) j c ++ c ∷ []) (forks_of es n)) less

-- one more number
filter_numbers : (test : ℕ → Bool) (n : ℕ)
    → filter test (numbers_below (n + 1)) ≡ filter test (numbers_below n) ++ filter test (n ∷ [])
unfolding numbers_below
filter_numbers test n =
    ap (λ m. filter test (numbers_below m)) (add-one n)
    ∙ filter-append test (numbers_below n) (n ∷ [])

-- that passes the test
pub taken : (test : ℕ → Bool) (n : ℕ) (found new : List ℕ) → found ≡ filter test (numbers_below n)
    → test n ≡ true → new ≡ found ++ n ∷ [] → new ≡ filter test (numbers_below (n + 1))
taken test n found new so passes is =
    is ∙ ap₂ (λ xs (b : Bool). xs ++ cond b (n ∷ []) []) so (sym passes)
    ∙ sym (filter_numbers test n)

-- or doesn't
pub left : (test : ℕ → Bool) (n : ℕ) (found new : List ℕ) → found ≡ filter test (numbers_below n)
    → test n ≡ false → new ≡ found → new ≡ filter test (numbers_below (n + 1))
left test n found new so fails is =
    is ∙ so ∙ sym (append-nil (filter test (numbers_below n)))
    ∙ ap (λ b. filter test (numbers_below n) ++ cond b (n ∷ []) []) (sym fails)
    ∙ sym (filter_numbers test n)
