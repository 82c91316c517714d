-- Emissions that are looked through for a name, one after another.
use Rattle.std.proofs.Common.{◌≡◌, ℕ, List, ◌++◌, take, drop}
use Rattle.rx_observe.specs.declared.emission.Emission.{Emission}
use Rattle.rx_session.specs.Playing.{emission_of, without_emission}

-- what was looked through had another name
pub record IsLooking (name : List ℕ) (es : List Emission) (i : ℕ) : Type 0 where
  pub found : emission_of name es ≡ emission_of name (drop i es)
  pub left : without_emission name es ≡ take i es ++ without_emission name (drop i es)
