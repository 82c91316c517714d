-- What a sink took.
use Rattle.std.specs.Prelude.{◌≡◌, ℕ, List, ◌++◌}

-- A front of these bytes was written, and nothing else.
abbrev pub WritesFront : List ℕ → List ℕ → List ℕ → Type 0
WritesFront old new bytes =
    (front : List ℕ) × (rest : List ℕ) × (bytes ≡ front ++ rest) × (new ≡ old ++ front)
