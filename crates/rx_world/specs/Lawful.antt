-- What holds of every world.
use Rattle.std.specs.Prelude.{◌≡◌, ℕ, List}
use Rattle.std.specs.List.{AllByRecursion}
use Rattle.rx_collection.specs.Held.{Held}
use Rattle.rx_collection.specs.Lawful.{IsLawful}
use Rattle.rx_world.specs.World.{World}

-- the collection of a name has that name, and is lawful
pub record IsLawfulAt (name : List ℕ) (c : Held) : Type 0 where
  pub called : c.name ≡ name
  pub lawful : IsLawful c

-- each collection is so
abbrev pub IsLawfulWorld : World → Type 0
IsLawfulWorld w = AllByRecursion (λ e. IsLawfulAt e.0 e.1) w.collections
