-- Fields that are walked along where they are lent.
use Rattle.std.proofs.Common.{◌≡◌, ℕ, List, ◌∷◌, Bool, true, false, cond, Option, Some, None, is_some, is_none, refl}
use Rattle.std.proofs.lemmas.Slice.Eq.{bytes_eq-Decides}
use Rattle.std.specs.Str.{bytes_eq}
use Rattle.rx_value.specs.Fields.{Pair, Pairs}
use Rattle.rx_value.specs.Named.{named}
use Rattle.rx_value.specs.declared.value.Value.{Value}
use Rattle.rx_schema.specs.Validity.{first_missing}

-- one field more
later_step : (same : Bool) (v : Value) (rest : Option Value) → is_some rest ≡ true
    → is_some (cond same (Some v) rest) ≡ true
later_step true v rest there = refl
later_step false v rest there = there

-- a name of the later fields is a name of all
pub later : (p : Pair) (ps : Pairs) (k : List ℕ) → is_some (named ps k) ≡ true
    → is_some (named (p ∷ ps) k) ≡ true
later p ps k there = later_step (bytes_eq k p.0) p.1 (named ps k) there

-- the name of the first field is a name of all
pub first : (p : Pair) (ps : Pairs) → is_some (named (p ∷ ps) p.0) ≡ true
first p ps = rw ((bytes_eq-Decides p.0 p.0).1 refl) refl

-- a name that isn't missing
past_step : (name : List ℕ) (found : Option Value) (rest : Option (List ℕ)) → is_some found ≡ true
    → rest ≡ cond (is_none found) (Some name) rest
past_step name (Some v) rest there = refl
past_step name None rest there = cc

-- behind a name that isn't missing the first missing one is the same
pub past : (name : List ℕ) (names : List (List ℕ)) (ps : Pairs) → is_some (named ps name) ≡ true
    → first_missing names ps ≡ first_missing (name ∷ names) ps
past name names ps there = past_step name (named ps name) (first_missing names ps) there
