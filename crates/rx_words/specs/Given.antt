-- What the words behind the command's name give: values, and a limit by the one option.
use Rattle.std.specs.Prelude.{ℕ, List, [], ◌∷◌, ◌++◌, codes, take, drop, Bool, false, not, ◌==◌, if◌then◌else◌, Option, None, Some, is_some}
use Rattle.std.specs.Str.{bytes_eq}

pub record Given : Type 0 where
  pub values : List (List ℕ)
  pub limit : Option (List ℕ)

-- a word that isn't empty and doesn't begin with `-`
abbrev pub is_value : List ℕ → Bool
is_value [] = false
is_value (b ∷ bs) = not (b == 45)

abbrev pub option : List ℕ
option = codes "--max-journal"

-- the option with what follows `=`
abbrev pub is_joined : List ℕ → Bool
is_joined word = bytes_eq (take 14 word) (option ++ codes "=")

abbrev pub with_value : List ℕ → Option Given → Option Given
with_value word None = None
with_value word (Some g) = Some (record g { values = word ∷ g.values })

-- the option may stand once
abbrev pub with_limit : List ℕ → Option Given → Option Given
with_limit word None = None
with_limit word (Some g) = if is_some g.limit then None else Some (record g { limit = Some word })

-- a word that isn't the option alone
abbrev pub with_word : List ℕ → Option Given → Option Given
with_word word rest =
    if is_value word then with_value word rest
    else if is_joined word then with_limit (drop 14 word) rest else None

-- the option alone takes the next word, which is a value
abbrev pub with_next : List ℕ → Option Given → Option Given
with_next word rest = if is_value word then with_limit word rest else None

-- all of it, or nothing where a word is out of place
abbrev pub given : List (List ℕ) → Option Given
given [] = Some (record { values = []; limit = None })
given (word ∷ []) = if bytes_eq word option then None else with_word word (given [])
given (word ∷ next ∷ rest) =
    if bytes_eq word option then with_next next (given rest)
    else with_word word (given (next ∷ rest))
