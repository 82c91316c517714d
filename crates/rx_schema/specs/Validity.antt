-- Which fields are valid, or their first fault.
use Rattle.std.specs.Prelude.{⊤, ◌≡◌, ℕ, ◌<◌, ℤ, pos, int_lt, int_rem, nat_lt, nat_eq, Bool, true, false, not, ◌&&◌, List, [], ◌∷◌, length, if◌then◌else◌, Option, Some, None, is_none, option_map, Result, Ok, Err}
use Rattle.std.specs.List.{find}
use Rattle.std.specs.Map.{keys_of}
use Rattle.std.specs.Option.{option_or}
use Rattle.std.specs.Ordering.{int_eq}
use Rattle.std.specs.Str.{bytes_eq, chars}
use Rattle.rx_value.specs.Fields.{Pairs}
use Rattle.rx_value.specs.Named.{named}
use Rattle.rx_value.specs.declared.value.Value.{Value}
use Rattle.rx_value.specs.declared.value.Value.TheVariants as value
use Rattle.rx_schema.specs.declared.rule.Bounds.{Bounds}
use Rattle.rx_schema.specs.declared.rule.Rule.{Rule}
use Rattle.rx_schema.specs.declared.rule.Rule.TheVariants as rule
use Rattle.rx_schema.specs.declared.shape.Shape.{Shape}
use Rattle.rx_schema.specs.declared.validity.Invalid.{Invalid}
use Rattle.rx_schema.specs.declared.validity.Invalid.TheVariants.{Missing, Unknown, Kind, Bounds as OfBounds, Length}

-- what is wrong with which field
pub data Fault : Type 0 where
  missing : List ℕ → Fault
  unknown : List ℕ → Fault
  of_kind : List ℕ → Fault
  of_bounds : List ℕ → Fault
  of_length : List ℕ → Fault

-- the fault of an error that lends the name
abbrev pub fault_seen : Invalid → Fault
fault_seen (Missing name) = missing name.now
fault_seen (Unknown name) = unknown name.now
fault_seen (Kind name) = of_kind name.now
fault_seen (OfBounds name) = of_bounds name.now
fault_seen (Length name) = of_length name.now

-- the fault of an answer
abbrev pub outcome : Result ⊤ Invalid → Option Fault
outcome (Ok u) = None
outcome (Err e) = Some (fault_seen e)

-- ---- numbers

-- a number that is given is below the other
abbrev pub is_below : Option ℤ → ℤ → Bool
is_below None n = false
is_below (Some m) n = int_lt m n

-- a number that is given is above the other
abbrev pub is_above : Option ℤ → ℤ → Bool
is_above None n = false
is_above (Some m) n = int_lt n m

-- a multiple of what is given
abbrev pub is_multiple : Option ℤ → ℤ → Bool
is_multiple None n = true
is_multiple (Some step) n = not (int_eq step (pos 0)) && int_eq (int_rem n step) (pos 0)

-- not below the minimum, not above the maximum, and a multiple
abbrev pub is_within : Bounds → ℤ → Bool
is_within b n = not (is_above b.minimum n) && not
    (is_below b.maximum n) && is_multiple b.multiple_of n

-- ---- fields

-- at most so many code points, and of the primary key at least one
abbrev pub is_long_enough : ℕ → Bool → List ℕ → Bool
is_long_enough most is_key s =
    not (nat_lt most (length (chars s))) && not (is_key && nat_eq (length (chars s)) 0)

-- nothing, or that fault
abbrev pub unless_fits : Bool → Fault → Option Fault
unless_fits b fault = if b then None else Some fault

-- the fault of a field: its kind, and then its bounds or its length
abbrev pub fault_of : Option Rule → Bool → List ℕ → Value → Option Fault
fault_of (Some rule.Flag) is_key name (value.Flag b) = None
fault_of (Some (rule.Int bounds)) is_key name (value.Int n) =
    unless_fits (is_within bounds n) (of_bounds name)
fault_of (Some (rule.Text most)) is_key name (value.Text s) =
    unless_fits (is_long_enough most is_key s) (of_length name)
fault_of _ is_key name v = Some (of_kind name)

-- the first of the names that the fields lack
abbrev pub first_missing : List (List ℕ) → Pairs → Option (List ℕ)
first_missing names ps = find (λ name. is_none (named ps name)) names

-- the first field that is no property
abbrev pub first_unknown : List (List ℕ × Rule) → Pairs → Option (List ℕ)
first_unknown rules ps = find (λ name. is_none (named rules name)) (keys_of ps)

-- the fault of the first field that has one
abbrev pub first_bad : Shape → Pairs → Option Fault
first_bad s [] = None
first_bad s (p ∷ ps) =
    option_or (fault_of (named s.properties p.0) (bytes_eq p.0 s.primary) p.0 p.1) (first_bad s ps)

-- the first fault: a required field that is missing, a field that is unknown, a bad value
abbrev pub first_fault : Shape → Pairs → Option Fault
first_fault s ps =
    option_or (option_map missing (first_missing s.required ps))
    (option_or (option_map unknown (first_unknown s.properties ps)) (first_bad s ps))

-- the field of that name is a text that isn't empty
abbrev pub HasKey : Pairs → List ℕ → Type 0
HasKey ps name = (key : List ℕ) × (named ps name ≡ Some (value.Text key)) × (0 < length (chars key))
