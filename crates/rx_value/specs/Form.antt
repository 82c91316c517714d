-- The members of a JSON object against a form of needed and optional names.
use Rattle.std.specs.Prelude.{ℕ, ℤ, List, [], ◌∷◌, map, Bool, false, not, ◌&&◌, ◌||◌, nat_le, int_le, if◌then◌else◌, Option, Some, None, is_none}
use Rattle.std.specs.Borrow.{Bor}
use Rattle.std.specs.List.{find}
use Rattle.std.specs.Str.{bytes_eq}
use Rattle.serde_json.specs.Data.{Data, Members, no_members, member}
use Rattle.serde_json.specs.Find.{get, as_str, as_number, as_integer, as_i64, as_u64, as_object}
use Rattle.rx_value.specs.Due.{◌>>=◌, only_if}

-- borrowed texts as lists of bytes
abbrev pub texts : List (Bor (List ℕ)) → List (List ℕ)
texts = map (λ s. s.now)

-- the first of the names that the object lacks
abbrev pub missing : List (List ℕ) → Data → Option (List ℕ)
missing names d = find (λ name. is_none (get name d)) names

-- the name stands in the list
abbrev pub is_among : List (List ℕ) → List ℕ → Bool
is_among [] name = false
is_among (known ∷ names) name = bytes_eq known name || is_among names name

-- the first member by bytes whose name stands in neither list
abbrev pub members_unexpected : List (List ℕ) → List (List ℕ) → Members → Option (List ℕ)
members_unexpected needed optional no_members = None
members_unexpected needed optional (member name d ms) =
    if not (is_among needed name) && not (is_among optional name) then Some name
    else members_unexpected needed optional ms

-- the same of an object; what is none has no members
abbrev pub unexpected : List (List ℕ) → List (List ℕ) → Data → Option (List ℕ)
unexpected needed optional d = as_object d >>= members_unexpected needed optional

-- the text at a name
abbrev pub text_at : List ℕ → Data → Option (List ℕ)
text_at name d = get name d >>= as_str

-- the whole number at a name
abbrev pub whole_at : List ℕ → Data → Option ℤ
whole_at name d = get name d >>= as_number >>= as_integer

-- the whole number at a name, where it lies within the bounds
abbrev pub whole_within : List ℕ → ℕ → ℕ → Data → Option ℕ
whole_within name least most d =
    get name d >>= as_number >>= as_u64
    >>= λ n. only_if (nat_le least n && nat_le n most) (Some n)

-- the same of numbers that may be below 0
abbrev pub integer_within : List ℕ → ℤ → ℤ → Data → Option ℤ
integer_within name least most d =
    get name d >>= as_number >>= as_i64
    >>= λ n. only_if (int_le least n && int_le n most) (Some n)
