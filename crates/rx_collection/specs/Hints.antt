-- The table of hints: places, each a slot and 1, or 0 where it is free, beside the hash of a key.
use Rattle.std.specs.Prelude.{◌≡◌, ◌≢◌, ◌⊎◌, ℕ, ◌+◌, ◌-◌, ◌*◌, ◌/◌, ◌%◌, ◌^◌, ◌<◌, true, List, [], ◌∷◌, length, Some, slice_get, take, drop}
use Rattle.std.specs.Int.{from_le_bytes}
use Rattle.std.specs.Int.Width.{w64}
use Rattle.std.specs.Int.Bits.{bit_xor}
use Rattle.std.specs.List.{fold}
use Rattle.std.specs.Simd.{first_chunks}
use Rattle.rx_document.specs.declared.stored.Stored.{Stored}
use Rattle.rx_collection.specs.declared.hints.Hints.{Hints}

-- a number and its upper bits over its lower ones
abbrev pub folded : ℕ → ℕ
folded n = bit_xor n (n / 2 ^ 29)

-- its product with an odd number, in 64 bits, and the upper ones of them over the lower
unfoldable pub mixed : ℕ → ℕ
mixed n = folded (n * 11400714819323198485 % 2 ^ 64)

-- the hash of words of eight bytes, over one
abbrev pub words_hash : ℕ → List (List ℕ) → ℕ
words_hash = fold (λ hash word. mixed (bit_xor hash (from_le_bytes w64 word)))

-- bytes as a number
abbrev pub bytes_number : ℕ → List ℕ → ℕ
bytes_number = fold (λ n byte. (n * 256 % 2 ^ 64 + byte) % 2 ^ 64)

-- the hash of a key
unfoldable pub key_hash : List ℕ → ℕ
key_hash key =
    mixed (bit_xor (words_hash (length key) (first_chunks 8 (length key / 8) key))
    (bytes_number 0 (drop (length key / 8 * 8) key))) / 2 ^ 32

-- where the walk for a hash starts, of so many places; it has those at the end to go on to
abbrev pub start_of : ℕ → ℕ → ℕ
start_of n hash = hash % (n - n / 16)

-- the places that are tried for it
unfoldable pub walk : List (ℕ × ℕ) → ℕ → List (ℕ × ℕ)
walk places hash = take 1024 (drop (start_of (length places) hash) places)

-- a walk comes to that place, and to none before it that is free
abbrev pub LeadsTo : ℕ × ℕ → List (ℕ × ℕ) → Type 0
LeadsTo place [] = ⊥
LeadsTo place (p ∷ ps) = (p ≡ place) ⊎ ((p.0 ≢ 0) × LeadsTo place ps)

-- the walk for a key comes to that slot
abbrev pub IsPlaced : List (ℕ × ℕ) → ℕ → List ℕ → Type 0
IsPlaced places slot key = LeadsTo (slot + 1, key_hash key) (walk places (key_hash key))

-- what the walks of a table come to those of another come to too
abbrev pub LeadOn : List (ℕ × ℕ) → List (ℕ × ℕ) → Type 0
LeadOn before after =
    (p : ℕ × ℕ) → p.0 ≢ 0 → LeadsTo p (walk before p.1) → LeadsTo p (walk after p.1)

-- so it is of what stands in one of the first places
abbrev pub AreSpread : List (ℕ × ℕ) → ℕ → List (ℕ × ℕ) → Type 0
AreSpread places n spread = (i : ℕ) (p : ℕ × ℕ) → i < n → slice_get places i ≡ Some p → p.0 ≢ 0
    → LeadsTo p (walk spread p.1)

-- it does for each document in one of the first slots
abbrev pub AreHinted : List (ℕ × ℕ) → List Stored → ℕ → Type 0
AreHinted places rows n =
    (s : ℕ) (d : Stored) → s < n → slice_get rows s ≡ Some d → IsPlaced places s d.state.key

-- and for all documents, where the table is whole
pub record AreKnown (hints : Hints) (rows : List Stored) : Type 0 where
  pub placed : hints.whole ≡ true → AreHinted hints.places.items rows (length rows)
