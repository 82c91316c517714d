-- What a read gives.
use Rattle.std.specs.Prelude.{◌≡◌, ℕ, ◌<◌, List, [], ◌++◌, take, length}

-- The first n bytes of the piece are the next of those that were left; none only at the end.
pub record Gives (old new : List ℕ) (n : ℕ) (piece : List ℕ) : Type 0 where
  pub front : old ≡ take n piece ++ new
  pub at_end : 0 < length piece → n ≡ 0 → old ≡ []
