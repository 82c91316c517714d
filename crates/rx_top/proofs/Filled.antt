-- Lines that aren't blank, as those of a generated script.
use Rattle.std.proofs.Common.{◌≡◌, ◌∙◌, ap, subst, ℕ, false, cond, List, [], ◌∷◌, ◌++◌, All, arith}
use Rattle.std.proofs.Math.Bool.{and-false}
use Rattle.std.proofs.lemmas.List.Elements.{All-cons, All-head, All-tail}
use Rattle.rx_engine.specs.Meaning.{meaning}
use Rattle.rx_engine.specs.Standing.{Standing}
use Rattle.rx_trial.specs.Lines.{script}
use Rattle.rx_trial.proofs.Braces.{IsBraced, script_braced}
use Rattle.rx_top.specs.Lines.{is_blank}
use Rattle.rx_top.specs.Script.{effect_of, line_effect, no_effect}

-- the line isn't blank
abbrev pub IsFilled : List ℕ → Type 0
IsFilled line = is_blank line ≡ false

pub all_front : {X : Type 0} (P : X → Type 0) (xs ys : List X) → All P (xs ++ ys) → All P xs
all_front P [] ys all = λ k d low. absurd (omega (arith, low))
all_front P (x ∷ xs) ys all =
    All-cons P x xs (All-head P x (xs ++ ys) all) (all_front P xs ys (All-tail P x (xs ++ ys) all))

pub all_back : {X : Type 0} (P : X → Type 0) (xs ys : List X) → All P (xs ++ ys) → All P ys
all_back P [] ys all = all
all_back P (x ∷ xs) ys all = all_back P xs ys (All-tail P x (xs ++ ys) all)

-- a line that begins with a brace
braced_filled : (line : List ℕ) → IsBraced line → IsFilled line
braced_filled [] first = cc
braced_filled (b ∷ bs) first =
    let brace : b ≡ 123 = cc in
    ap (λ x. is_blank (x ∷ bs)) brace ∙ and-false _

pub script_filled : (seed n : ℕ) → All IsFilled (script seed n)
script_filled seed n = λ k d low. braced_filled _ (script_braced seed n k d low)

-- such a line does what it means
pub filled_effect : (n : ℕ) (line : List ℕ) (s : Standing) → IsFilled line
    → line_effect n line s ≡ effect_of (meaning n line s)
filled_effect n line s filled =
    ap (λ b. cond b (no_effect s) (effect_of (meaning n line s))) filled

-- the line behind others is filled as all are
pub first_filled : (lines done : List (List ℕ)) (l : List ℕ) (left' left : List (List ℕ))
    → lines ≡ done ++ left → left ≡ l ∷ left' → All IsFilled lines → IsFilled l
first_filled lines done l left' left whole next filled =
    All-head IsFilled l left'
    (all_back IsFilled done (l ∷ left')
    (subst (λ (v : List (List ℕ)). All IsFilled v)
    (whole ∙ ap (λ (v : List (List ℕ)). done ++ v) next) filled))
