-- What holds of the names of collections, and of those of replications.
use Rattle.std.specs.Prelude.{◌≡◌, ◌≤◌, ℕ, List, length, true}
use Rattle.std.specs.List.{AllByRecursion, IsDistinct}
use Rattle.std.specs.Str.{bytes_eq}
use Rattle.rx_value.specs.Name.{is_name}

-- they are names, not too many, and none comes twice
pub record AreNames (most : ℕ) (names : List (List ℕ)) : Type 0 where
  pub each : AllByRecursion (λ n. is_name n ≡ true) names
  pub few : length names ≤ most
  pub distinct : IsDistinct bytes_eq names
