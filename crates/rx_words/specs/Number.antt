-- The numbers among the words.
use Rattle.std.specs.Prelude.{ℕ, List, length, Bool, ◌&&◌, nat_le, nat_lt, if◌then◌else◌, Option, None, Some}
use Rattle.std.specs.List.{list_all}
use Rattle.std.specs.Str.Parse.{digits_value}

abbrev pub is_digit : ℕ → Bool
is_digit b = nat_le 48 b && nat_le b 57

abbrev pub are_digits : List ℕ → Bool
are_digits = list_all is_digit

-- a digit or more
abbrev pub is_numeral : List ℕ → Bool
is_numeral word = nat_lt 0 (length word) && are_digits word

abbrev pub is_within : ℕ → ℕ → ℕ → Bool
is_within least most n = nat_le least n && nat_le n most

-- the number of a word that is one of those from the least to the most
abbrev pub number_within : ℕ → ℕ → List ℕ → Option ℕ
number_within least most word =
    if is_numeral word && is_within least most (digits_value 10 word)
    then Some (digits_value 10 word) else None
