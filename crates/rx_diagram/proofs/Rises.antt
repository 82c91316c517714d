-- The questions of a number's bits, one more at a time.
use Rattle.std.proofs.Common.{◌≡◌, ◌≢◌, ℕ, suc, ◌+◌, ◌<◌, ◌≤◌, ◌^◌, ◌⊎◌, inl, inr, Bool, true, false, cond, eqb, ◌||◌, List, [], ◌∷◌, ◌++◌, refl, sym, ap, ◌∙◌, subst, arith, rules, Option, Some, None, append_assoc, append-nil}
use Rattle.std.specs.List.{filter, list_any}
use Rattle.std.proofs.lemmas.Bool.Decides.{nat_tests}
use Rattle.std.proofs.lemmas.Bool.{cases_eq}
use Rattle.rx_table.specs.declared.states.StateName.{StateName}
use Rattle.rx_table.specs.declared.states.StateName.TheVariants.{IsInsert, IsUpdate, IsDelete, HasLimit, IsFindOne, HasSkip, WasResultsEmpty, PreviousUnknown, WasLimitReached, SortParamsChanged, WasInResult, WasFirst, WasLast, WasSortedBeforeFirst, WasSortedAfterLast, IsSortedBeforeFirst, IsSortedAfterLast, WasMatching, DoesMatchNow}
use Rattle.rx_table.specs.Log.{Adds}
use Rattle.rx_table.specs.States.{all_states, is_set, index_of}
use Rattle.rx_diagram.specs.Asked.{questions_in}
use Rattle.rx_diagram.proofs.Apart.{same_state}
use Rattle.rx_diagram.proofs.Numbers.{bit-above, bit-here, bit-other}

-- numbers that differ are not equal
eqb_other : (m n : ℕ) → m ≢ n → eqb m n ≡ false
eqb_other m n ne = grind (arith, nat_tests)

-- the questions rise
abbrev pub Rising : ℕ → List StateName → Type 0
Rising i [] = Unit {0}
Rising i (s ∷ ss) = (i ≤ index_of s) × Rising (suc (index_of s)) ss

-- none passes from i on
none_above : (i : ℕ) (ss : List StateName) (p : StateName → Bool) → Rising i ss
    → ((s : StateName) → i ≤ index_of s → p s ≡ false) → filter p ss ≡ []
none_above i [] p r h = refl
none_above i (s ∷ ss) p r h = rw (h s r.0) (none_above (suc (index_of s)) ss p r.1 (λ t le. let lt =
    r.0 in h t (omega arith)))

-- one in front of both, or of neither
one_more : (b : Bool) (x : StateName) (xs ys zs : List StateName) → ys ≡ xs ++ zs
    → cond b (x ∷ ys) ys ≡ cond b (x ∷ xs) xs ++ zs
one_more true x xs ys zs e = ap (λ v. x ∷ v) e
one_more false x xs ys zs e = e

-- a question after all those that pass, added
filter_more : (i : ℕ) (ss : List StateName) (p q : StateName → Bool) (s : StateName) → Rising i ss
    → list_any (λ t. eqb (index_of t) (index_of s)) ss ≡ true
    → ((t : StateName) → index_of t ≢ index_of s → q t ≡ p t)
    → ((t : StateName) → index_of s ≤ index_of t → p t ≡ false) → q s ≡ true
    → filter q ss ≡ filter p ss ++ s ∷ []
filter_more i [] p q s r has same none here = absurd (let bad : false ≡ true = has in cc)
filter_more i (t ∷ ss) p q s r has same none here =
    by_place (cases_eq (index_of t) (index_of s))
    (λ again. filter_more (suc (index_of t)) ss p q s r.1 again same none here)
  where
    at_state : s ≡ t → filter q (t ∷ ss) ≡ filter p (t ∷ ss) ++ s ∷ []
    at_state e =
        let not : p t ≡ false = none t (let same_index : index_of s ≡ index_of t = ap index_of e in
        omega arith) in
        let yes : q t ≡ true = subst (λ (u : StateName). q u ≡ true) e here in
        let above = λ (u : StateName) (le : suc (index_of t) ≤ index_of u).
        none u (let same_index : index_of s ≡ index_of t = ap index_of e in omega arith) in
        let none_p : filter p ss ≡ [] = none_above (suc (index_of t)) ss p r.1 above in
        let none_q : filter q ss ≡ [] = none_above (suc (index_of t)) ss q r.1
        (λ u le. same u (λ h. let same_index : index_of s ≡ index_of t = ap index_of e in
        absurd (omega arith)) ∙ above u le) in
        rw (not, yes, none_p, none_q) (ap (λ u. u ∷ []) (sym e))

    by_place : (index_of t ≡ index_of s) ⊎ (index_of t ≢ index_of s)
        → (list_any (λ u. eqb (index_of u) (index_of s)) ss ≡ true
        → filter q ss ≡ filter p ss ++ s ∷ []) → filter q (t ∷ ss) ≡ filter p (t ∷ ss) ++ s ∷ []
    by_place (inl e) further = at_state (same_state s t (sym e))
    by_place (inr ne) further =
        let rest : list_any (λ u. eqb (index_of u) (index_of s)) ss ≡ true =
        sym (ap (λ b. b || list_any (λ u. eqb (index_of u) (index_of s)) ss)
        (eqb_other (index_of t) (index_of s) ne)) ∙ has in
        rw (same t ne) (one_more (p t) t (filter p ss) (filter q ss) (s ∷ []) (further rest))

-- all questions do
all_rise : Rising 0 all_states
all_rise = search rules

-- and each is among them
all_have : (s : StateName) → list_any (λ t. eqb (index_of t) (index_of s)) all_states ≡ true
all_have IsInsert = refl
all_have IsUpdate = refl
all_have IsDelete = refl
all_have HasLimit = refl
all_have IsFindOne = refl
all_have HasSkip = refl
all_have WasResultsEmpty = refl
all_have PreviousUnknown = refl
all_have WasLimitReached = refl
all_have SortParamsChanged = refl
all_have WasInResult = refl
all_have WasFirst = refl
all_have WasLast = refl
all_have WasSortedBeforeFirst = refl
all_have WasSortedAfterLast = refl
all_have IsSortedBeforeFirst = refl
all_have IsSortedAfterLast = refl
all_have WasMatching = refl
all_have DoesMatchNow = refl

-- no bits, no questions
pub questions_in_none : questions_in 0 ≡ []
unfolding questions_in
questions_in_none = refl

-- one more bit above the others, one more question at the end
pub questions_in_more : (asked : ℕ) (s : StateName) → asked < 2 ^ index_of s
    → questions_in (asked + 2 ^ index_of s) ≡ questions_in asked ++ s ∷ []
unfolding questions_in
questions_in_more asked s small =
    filter_more 0 all_states (λ t. is_set asked (index_of t))
    (λ t. is_set (asked + 2 ^ index_of s) (index_of t)) s all_rise (all_have s)
    (λ t ne. bit-other asked (index_of s) (index_of t) small ne)
    (λ t le. bit-above asked (index_of s) (index_of t) small le)
    (bit-here asked (index_of s) small)

-- what whoever answers tells
pub adds_none : (t : Option (List StateName)) → Adds t (questions_in 0) t
adds_none None = tt
adds_none (Some xs) = sym (ap (λ ys. xs ++ ys) questions_in_none ∙ append-nil xs)

-- one question more
pub adds_more : (old now new : Option (List StateName)) (asked : ℕ) (s : StateName)
    → asked < 2 ^ index_of s
    → Adds old (questions_in asked) now → Adds now (s ∷ []) new
    → Adds old (questions_in (asked + 2 ^ index_of s)) new
adds_more old now None asked s small a b = tt
adds_more old None (Some zs) asked s small a b = absurd b
adds_more None (Some ys) (Some zs) asked s small a b = a
adds_more (Some xs) (Some ys) (Some zs) asked s small a b =
    b ∙ ap (λ v. v ++ s ∷ []) a ∙ append_assoc xs (questions_in asked) (s ∷ [])
    ∙ ap (λ v. xs ++ v) (sym (questions_in_more asked s small))
