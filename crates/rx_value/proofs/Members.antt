-- Reading members one after another.
use Rattle.std.proofs.Common.{Bool, true, false, cond, ℤ, Option, Some, None, ◌≡◌, ℕ, List, [], ◌∷◌, ◌++◌, map, Result, Ok, Err, string_bytes, string_cmp, refl, sym, ap, append_assoc}
use Rattle.std.specs.List.{AllByRecursion}
use Rattle.std.specs.List.Sorted.{IsStrictlySortedBy}
use Rattle.std.specs.Map.{keys_of}
use Rattle.serde_json.proofs.Views.{Entry}
use Rattle.serde_json.specs.Data.{Data, boolean, number, string}
use Rattle.serde_json.specs.Find.{as_integer}
use Rattle.serde_json.specs.View.{view, members_view}
use Rattle.rx_value.specs.Due.{◌>>◌}
use Rattle.rx_value.specs.Fields.{Pair, Pairs, AreFields}
use Rattle.rx_value.specs.Named.{AreRising}
use Rattle.rx_value.specs.Reading.{integer_of, value_of, members_fields}
use Rattle.rx_value.specs.Value.{is_number, is_value}
use Rattle.rx_value.specs.declared.fault.ValueFault.{ValueFault}
use Rattle.rx_value.specs.declared.fault.ValueFault.TheVariants.{Range}
use Rattle.rx_value.specs.declared.value.Value.{Value}
use Rattle.rx_value.specs.declared.value.Value.TheVariants.{Flag, Int, Text}
use Rattle.rx_value.proofs.Named.{rising_bytes}

-- the pairs so far, before those that are read
abbrev pub before : Pairs → Result Pairs ValueFault → Result Pairs ValueFault
before front rest = rest >> λ ps. Ok (front ++ ps)

-- a pair that was read goes to the end of those so far
pub before-first : (front : Pairs) (p : Pair) (rest : Result Pairs ValueFault)
    → before front (rest >> λ ps. Ok (p ∷ ps)) ≡ before (front ++ p ∷ []) rest
before-first front p (Ok ps) = ap Ok (sym (append_assoc front (p ∷ []) ps))
before-first front p (Err e) = refl

-- one more member that has a value
pub more : (front : Pairs) (e : Entry) (es : List Entry) (v : Value)
    → value_of (string_bytes e.0) (view e.1) ≡ Ok v
    → before front (members_fields (members_view (e ∷ es)))
    ≡ before (front ++ (string_bytes e.0, v) ∷ []) (members_fields (members_view es))
more front e es v h =
    rw h (before-first front (string_bytes e.0, v) (members_fields (members_view es)))

-- a pair is read first, and then the others
abbrev then : List ℕ → Result Value ValueFault → Result Pairs ValueFault → Result Pairs ValueFault
then k v rest = v >> λ w. rest >> λ ps. Ok ((k, w) ∷ ps)

-- one member, and then the others
names_step : (k : List ℕ) (v : Result Value ValueFault) (rest : Result Pairs ValueFault)
    (ps : Pairs) (names : List (List ℕ)) → then k v rest ≡ Ok ps
    → ((qs : Pairs) → rest ≡ Ok qs → keys_of qs ≡ names) → keys_of ps ≡ k ∷ names
names_step k (Err e) rest ps names h g = cc
names_step k (Ok v) (Err e) ps names h g = cc
names_step k (Ok v) (Ok qs) ps names h g =
    let e : (k, v) ∷ qs ≡ ps = cc in rw (← e) (ap (λ ns. k ∷ ns) (g qs refl))

-- what was read has the names of the members
names : (es : List Entry) (ps : Pairs) → members_fields (members_view es) ≡ Ok ps
    → keys_of ps ≡ map string_bytes (keys_of es)
names [] ps h = let e : [] ≡ ps = cc in rw (← e) refl
names (e ∷ es) ps h =
    names_step (string_bytes e.0) (value_of (string_bytes e.0) (view e.1))
    (members_fields (members_view es)) ps (map string_bytes (keys_of es)) h (λ qs g. names es qs g)

-- what was read of members in order is in order
rising : (es : List Entry) (ps : Pairs) → members_fields (members_view es) ≡ Ok ps
    → IsStrictlySortedBy string_cmp (keys_of es) → AreRising ps
rising es ps h ordered = rw (names es ps h) (rising_bytes (keys_of es) ordered)

-- a number that was read, as a test of its range tells
abbrev tested : Bool → List ℕ → ℤ → Result Value ValueFault
tested b name z = cond b (Ok (Int z)) (Err (Range name))

-- a number that passed the test is in range
number_is_value : (b : Bool) (k : List ℕ) (z : ℤ) (v : Value) → is_number z ≡ b
    → tested b k z ≡ Ok v → is_value v ≡ true
number_is_value true k z v is h = let same : Int z ≡ v = cc in rw (← same) is
number_is_value false k z v is h = cc

-- so is one that was whole
integer_is_value : (k : List ℕ) (n : Option ℤ) (v : Value) → integer_of k n ≡ Ok v
    → is_value v ≡ true
integer_is_value k None v h = cc
integer_is_value k (Some z) v h = number_is_value (is_number z) k z v refl h

-- a number that was read is in range
value_is_value : (k : List ℕ) (d : Data) (v : Value) → value_of k d ≡ Ok v → is_value v ≡ true
value_is_value k (boolean b) v h = let same : Flag b ≡ v = cc in rw (← same) refl
value_is_value k (number n) v h = integer_is_value k (as_integer n) v h
value_is_value k (string s) v h = let same : Text s ≡ v = cc in rw (← same) refl
value_is_value k _ v h = cc

-- one member, and then the others
range_step : (k : List ℕ) (v : Result Value ValueFault) (rest : Result Pairs ValueFault)
    (ps : Pairs) → then k v rest ≡ Ok ps → ((w : Value) → v ≡ Ok w → is_value w ≡ true)
    → ((qs : Pairs) → rest ≡ Ok qs → AllByRecursion (λ p. is_value p.1 ≡ true) qs)
    → AllByRecursion (λ p. is_value p.1 ≡ true) ps
range_step k (Err e) rest ps h f g = cc
range_step k (Ok v) (Err e) ps h f g = cc
range_step k (Ok v) (Ok qs) ps h f g =
    let e : (k, v) ∷ qs ≡ ps = cc in rw (← e) (f v refl, g qs refl)

-- what was read has its numbers in range
in_range : (es : List Entry) (ps : Pairs) → members_fields (members_view es) ≡ Ok ps
    → AllByRecursion (λ p. is_value p.1 ≡ true) ps
in_range [] ps h = let e : [] ≡ ps = cc in rw (← e) tt
in_range (e ∷ es) ps h =
    range_step (string_bytes e.0) (value_of (string_bytes e.0) (view e.1))
    (members_fields (members_view es)) ps h
    (λ w g. value_is_value (string_bytes e.0) (view e.1) w g) (λ qs g. in_range es qs g)

-- what was read of members in order are fields
pub fields : (es : List Entry) (ps : Pairs) → members_fields (members_view es) ≡ Ok ps
    → IsStrictlySortedBy string_cmp (keys_of es) → AreFields ps
fields es ps h ordered = record { rising = rising es ps h ordered; in_range = in_range es ps h }

-- no pairs are fields
pub no_fields : AreFields []
unfolding IsStrictlySortedBy
no_fields = record { rising = tt; in_range = tt }
