-- Collections and replications by name, and the last epoch.
use Rattle.std.specs.Prelude.{ℕ, List, []}
use Rattle.rx_collection.specs.Held.{Held}
use Rattle.rx_world.specs.declared.replication.Replication.{Replication}

-- by name, in the order of their making
abbrev pub Collections : Type 0
Collections = List (List ℕ × Held)

abbrev pub Replications : Type 0
Replications = List (List ℕ × Replication)

pub record World : Type 0 where
  pub collections : Collections
  pub replications : Replications
  pub epoch : ℕ

-- no collections and no replications, and no epoch yet
abbrev pub empty : World
empty = record { collections = []; replications = []; epoch = 0 }

-- the most collections
abbrev pub max_collections : ℕ
max_collections = 64

-- the most replications
abbrev pub max_replications : ℕ
max_replications = 64
