-- Values and fields.
use Rattle.std.specs.Prelude.{ℕ, zero, suc, List, [], ◌∷◌, ◌++◌, length, ◌==◌, if◌then◌else◌, Option, Some, None, Ok, Err}
use Rattle.std.specs.Int.{w32, w64, cast_signed, cast_unsigned}
use Rattle.rx_value.specs.Fields.{Pair, Pairs}
use Rattle.rx_value.specs.Value.{is_number}
use Rattle.rx_value.specs.declared.value.Value.{Value}
use Rattle.rx_value.specs.declared.value.Value.TheVariants.{Flag, Int, Text}
use Rattle.rx_record.specs.Reading.{Reading, ◌▸◌}
use Rattle.rx_record.specs.Parts.{byte_of, flag_bytes, flag_of, number_bytes, number_of, text_bytes, text_of, text_above}

-- the byte of a value's kind
abbrev pub flag_kind : ℕ
flag_kind = 0

abbrev pub number_kind : ℕ
number_kind = 1

abbrev pub text_kind : ℕ
text_kind = 2

-- a value: the byte of its kind, and a flag, eight bytes in two's complement, or a text
abbrev pub value_bytes : Value → List ℕ
value_bytes (Flag b) = flag_kind ∷ flag_bytes b
value_bytes (Int z) = number_kind ∷ number_bytes w64 (cast_unsigned w64 z)
value_bytes (Text t) = text_kind ∷ text_bytes t

-- a number in range
abbrev pub integer_of : List ℕ → Reading Value
integer_of bs = number_of w64 bs ▸ λ n more.
    if is_number (cast_signed w64 n) then Ok (Int (cast_signed w64 n), more) else Err (length bs)

abbrev pub value_of : List ℕ → Reading Value
value_of bs = byte_of bs ▸ λ kind more.
    if kind == flag_kind then (flag_of more ▸ λ b rest. Ok (Flag b, rest))
    else if kind == number_kind then integer_of more
    else if kind == text_kind then (text_of more ▸ λ t rest. Ok (Text t, rest))
    else Err (length bs)

-- a name and its value
abbrev pub pair_bytes : Pair → List ℕ
pair_bytes p = text_bytes p.0 ++ value_bytes p.1

abbrev pub pair_of : Option (List ℕ) → List ℕ → Reading Pair
pair_of last bs = text_above last bs ▸ λ name more. value_of more ▸ λ v rest. Ok ((name, v), rest)

-- things one after another
abbrev pub all_bytes : {A : Type 0} → (A → List ℕ) → List A → List ℕ
all_bytes bytes [] = []
all_bytes bytes (x ∷ xs) = bytes x ++ all_bytes bytes xs

-- so many things one after another, each of which goes by the name or the place of the one before
abbrev pub rising_of : {A L : Type 0} → (A → L) → (Option L → List ℕ → Reading A)
    → ℕ → Option L → List ℕ → Reading (List A)
rising_of name part zero last bs = Ok ([], bs)
rising_of name part (suc n) last bs = part last bs ▸ λ x more.
    rising_of name part n (Some (name x)) more ▸ λ xs rest. Ok (x ∷ xs, rest)

-- a list: its count in four bytes, and that many things
abbrev pub list_bytes : {A : Type 0} → (A → List ℕ) → List A → List ℕ
list_bytes bytes xs = number_bytes w32 (length xs) ++ all_bytes bytes xs

abbrev pub list_of : {A L : Type 0} → (A → L) → (Option L → List ℕ → Reading A) → List ℕ
    → Reading (List A)
list_of name part bs = number_of w32 bs ▸ λ n more. rising_of name part n None more

-- fields: a list of pairs by rising name
abbrev pub fields_bytes : Pairs → List ℕ
fields_bytes = list_bytes pair_bytes

abbrev pub pairs_of : ℕ → Option (List ℕ) → List ℕ → Reading Pairs
pairs_of = rising_of (λ p. p.0) pair_of

abbrev pub fields_of : List ℕ → Reading Pairs
fields_of = list_of (λ p. p.0) pair_of
