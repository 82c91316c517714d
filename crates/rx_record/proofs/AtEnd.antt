-- What was read, whole or in front of more.
use Rattle.std.proofs.Common.{◌≡◌, ℕ, List, [], ◌∷◌, true, Ok, Err, refl, ap₂}
use Rattle.rx_record.specs.Reading.{Reading, rest_after, is_read, is_whole, read_or}
use Rattle.rx_record.proofs.Steps.{done}

-- what was read, and the bytes behind it
pub front_read : {A : Type 0} (none : A) (m : Reading A) → is_read m ≡ true
    → (rest : List ℕ) × (m ≡ done (read_or none m) rest)
front_read none (Ok p) h = (p.1, refl)
front_read none (Err left) h = cc

-- what was read to the end was read
pub read_whole : {A : Type 0} (m : Reading A) → is_whole m ≡ true → is_read m ≡ true
read_whole (Ok (x, [])) h = refl
read_whole (Ok (x, b ∷ bs)) h = cc
read_whole (Err left) h = cc

-- so it is, where both are known
pub read_to : {A : Type 0} (none : A) (m : Reading A) (x : A) (rest : List ℕ) → is_read m ≡ true
    → read_or none m ≡ x → rest_after m ≡ Ok rest → m ≡ done x rest
read_to none (Ok p) x rest h same end = let e : p.1 ≡ rest = cc in ap₂ done same e
read_to none (Err left) x rest h same end = cc
