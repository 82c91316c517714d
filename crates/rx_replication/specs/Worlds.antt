-- Several collections and replications beside each other.
use Rattle.std.specs.Prelude.{◌≡◌, ℕ, List, Option, Some, None}
use Rattle.rx_document.specs.declared.place.Place.{Place}
use Rattle.rx_value.specs.Named.{named}
use Rattle.rx_collection.specs.Held.{Held}
use Rattle.rx_replication.specs.Known.{KnownStates}
use Rattle.rx_replication.specs.Sound.{IsForkSound, IsMasterSound}

-- collections by their names
abbrev pub Collections : Type 0
Collections = List (List ℕ × Held)

-- the names of a fork and its master, none where the master is elsewhere, and what the fork knows
pub record Linked : Type 0 where
  pub fork : List ℕ
  pub master : Option (List ℕ)
  pub known : KnownStates
  pub up : Option Place
  pub down : Option Place

-- the fork is held, and sound
abbrev pub HasSoundFork : Collections → Linked → Type 0
HasSoundFork cs r =
    (c : Held) × (named cs r.fork ≡ Some c) × IsForkSound c.documents r.known r.up

-- and the master, where it is here
abbrev pub HasSoundMaster : Collections → Option (List ℕ) → KnownStates → Option Place → Type 0
HasSoundMaster cs None known down = Unit {0}
HasSoundMaster cs (Some name) known down =
    (c : Held) × (named cs name ≡ Some c) × IsMasterSound c.documents known down

-- both
pub record HasSoundSides (cs : Collections) (r : Linked) : Type 0 where
  pub fork_side : HasSoundFork cs r
  pub master_side : HasSoundMaster cs r.master r.known r.down
