-- Reading properties one after another.
use Rattle.std.proofs.Common.{◌≡◌, ℕ, List, [], ◌∷◌, ◌++◌, map, Result, Ok, Err, string_bytes, string_cmp, refl, sym, ap, append_assoc}
use Rattle.std.specs.List.Sorted.{IsStrictlySortedBy}
use Rattle.std.specs.Map.{keys_of}
use Rattle.serde_json.proofs.Views.{Entry}
use Rattle.serde_json.specs.View.{view, members_view}
use Rattle.rx_value.specs.Due.{◌>>◌}
use Rattle.rx_value.specs.Named.{AreRising}
use Rattle.rx_value.proofs.Named.{rising_bytes}
use Rattle.rx_schema.specs.Property.{property_of}
use Rattle.rx_schema.specs.Reading.{properties_of}
use Rattle.rx_schema.specs.declared.fault.SchemaFault.{SchemaFault}
use Rattle.rx_schema.specs.declared.rule.Rule.{Rule}

-- properties by name
abbrev pub Rules : Type 0
Rules = List (List ℕ × Rule)

-- the properties so far, before those that are read
abbrev pub before : Rules → Result Rules SchemaFault → Result Rules SchemaFault
before front rest = rest >> λ ps. Ok (front ++ ps)

-- one that was read goes to the end of those so far
before-first : (front : Rules) (p : List ℕ × Rule) (rest : Result Rules SchemaFault)
    → before front (rest >> λ ps. Ok (p ∷ ps)) ≡ before (front ++ p ∷ []) rest
before-first front p (Ok ps) = ap Ok (sym (append_assoc front (p ∷ []) ps))
before-first front p (Err e) = refl

-- one more member that is a property
pub more : (front : Rules) (e : Entry) (es : List Entry) (r : Rule)
    → property_of (string_bytes e.0) (view e.1) ≡ Ok r
    → before front (properties_of (members_view (e ∷ es)))
    ≡ before (front ++ (string_bytes e.0, r) ∷ []) (properties_of (members_view es))
more front e es r h =
    rw h (before-first front (string_bytes e.0, r) (properties_of (members_view es)))

-- a property is read first, and then the others
abbrev then : List ℕ → Result Rule SchemaFault → Result Rules SchemaFault → Result Rules SchemaFault
then k r rest = r >> λ x. rest >> λ ps. Ok ((k, x) ∷ ps)

-- one property, and then the others
names_step : (k : List ℕ) (r : Result Rule SchemaFault) (rest : Result Rules SchemaFault)
    (ps : Rules) (names : List (List ℕ)) → then k r rest ≡ Ok ps
    → ((qs : Rules) → rest ≡ Ok qs → keys_of qs ≡ names) → keys_of ps ≡ k ∷ names
names_step k (Err e) rest ps names h g = cc
names_step k (Ok r) (Err e) ps names h g = cc
names_step k (Ok r) (Ok qs) ps names h g =
    let e : (k, r) ∷ qs ≡ ps = cc in rw (← e) (ap (λ ns. k ∷ ns) (g qs refl))

-- what was read has the names of the members
names : (es : List Entry) (ps : Rules) → properties_of (members_view es) ≡ Ok ps
    → keys_of ps ≡ map string_bytes (keys_of es)
names [] ps h = let e : [] ≡ ps = cc in rw (← e) refl
names (e ∷ es) ps h =
    names_step (string_bytes e.0) (property_of (string_bytes e.0) (view e.1))
    (properties_of (members_view es)) ps (map string_bytes (keys_of es)) h (λ qs g. names es qs g)

-- what was read of members in order is in order
pub rising : (es : List Entry) (ps : Rules) → properties_of (members_view es) ≡ Ok ps
    → IsStrictlySortedBy string_cmp (keys_of es) → AreRising ps
rising es ps h ordered = rw (names es ps h) (rising_bytes (keys_of es) ordered)
