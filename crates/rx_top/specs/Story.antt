-- What the lines of a script do, one after the other, over any state and any meaning of a line.
use Rattle.std.specs.Prelude.{ℕ, ◌+◌, List, [], ◌∷◌, ◌++◌, Bool, false, ◌||◌}

-- what a line does: its reply and what is written after it, the bodies of its records, whether it
-- is refused, and the state after it
pub record Effect (S : Type 0) : Type 0 where
  pub reply : List ℕ
  pub bodies : List (List ℕ)
  pub refused : Bool
  pub next : S

-- what line n does in a state
abbrev pub Step : Type 0 → Type 0
Step S = ℕ → List ℕ → S → Effect S

-- the replies to lines, from number n on
abbrev pub replies : {S : Type 0} → Step S → ℕ → List (List ℕ) → S → List ℕ
replies step n [] s = []
replies step n (l ∷ ls) s = (step n l s).reply ++ replies step (n + 1) ls (step n l s).next

-- the bodies of their records, a chunk a line
abbrev pub chunks : {S : Type 0} → Step S → ℕ → List (List ℕ) → S → List (List (List ℕ))
chunks step n [] s = []
chunks step n (l ∷ ls) s = (step n l s).bodies ∷ chunks step (n + 1) ls (step n l s).next

abbrev pub any_refused : {S : Type 0} → Step S → ℕ → List (List ℕ) → S → Bool
any_refused step n [] s = false
any_refused step n (l ∷ ls) s =
    (step n l s).refused || any_refused step (n + 1) ls (step n l s).next

abbrev pub state_after : {S : Type 0} → Step S → ℕ → List (List ℕ) → S → S
state_after step n [] s = s
state_after step n (l ∷ ls) s = state_after step (n + 1) ls (step n l s).next

-- the chunk of the next line, or none
abbrev pub next_chunk : {S : Type 0} → Step S → ℕ → List (List ℕ) → S → List (List ℕ)
next_chunk step n [] s = []
next_chunk step n (l ∷ ls) s = (step n l s).bodies

-- so much holds of each line: of its number and its text, and of the states before it and after it
abbrev pub EachLine
    : {S : Type 0} → Step S → (ℕ → List ℕ → S → S → Type 0) → ℕ → List (List ℕ) → S → Type 0
EachLine step P n [] s = Unit {0}
EachLine step P n (l ∷ ls) s =
    P n l s (step n l s).next × EachLine step P (n + 1) ls (step n l s).next
