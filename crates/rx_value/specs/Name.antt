-- The texts that may be names.
use Rattle.std.specs.Prelude.{ℕ, List, [], ◌∷◌, length, Bool, false, ◌&&◌, ◌||◌, ◌==◌, nat_lt}
use Rattle.std.specs.Char.{is_ascii_lowercase, is_ascii_digit, is_ascii_alphabetic, is_ascii_alphanumeric}
use Rattle.std.specs.List.{list_all}

-- the most bytes of a name
abbrev pub longest_name : ℕ
longest_name = 64

abbrev hyphen : ℕ
hyphen = 45

abbrev underscore : ℕ
underscore = 95

-- a letter from a to z, a digit, `_` or `-`
abbrev pub is_name_byte : ℕ → Bool
is_name_byte c = is_ascii_lowercase c || is_ascii_digit c || c == underscore || c == hyphen

-- of a collection, a query or a replication: a letter from a to z, and then such bytes
abbrev pub is_name : List ℕ → Bool
is_name [] = false
is_name (c ∷ cs) =
    is_ascii_lowercase c && nat_lt (length cs) longest_name && list_all is_name_byte cs

-- a letter, a digit or `_`
abbrev pub is_field_byte : ℕ → Bool
is_field_byte c = is_ascii_alphanumeric c || c == underscore

-- of a field: a letter, and then such bytes
abbrev pub is_field_name : List ℕ → Bool
is_field_name [] = false
is_field_name (c ∷ cs) =
    is_ascii_alphabetic c && nat_lt (length cs) longest_name && list_all is_field_byte cs
