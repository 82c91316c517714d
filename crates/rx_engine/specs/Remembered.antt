-- What is remembered of requests between two lines.
use Rattle.std.specs.Prelude.{◌≡◌, ℕ, List, Some}
use Rattle.std.specs.List.{AllByRecursion}
use Rattle.rx_value.specs.Named.{named}
use Rattle.rx_collection.specs.Held.{Held}
use Rattle.rx_sync.specs.Asks.{Asks, AsksAreLawful}
use Rattle.rx_world.specs.World.{World}
use Rattle.rx_world.specs.declared.replication.Replication.{Replication}

-- the replication of a name and its fork are held, and its requests are lawful for the fork
pub record IsRemembered (w : World) (name : List ℕ) (a : Asks) : Type 0 where
  pub replication : Replication
  pub held : named w.replications name ≡ Some replication
  pub fork : Held
  pub fork_held : named w.collections replication.fork ≡ Some fork
  pub lawful : AsksAreLawful fork.schema a

-- so it is of each
abbrev pub AreRemembered : World → List (List ℕ × Asks) → Type 0
AreRemembered w asks = AllByRecursion (λ e. IsRemembered w e.0 e.1) asks
