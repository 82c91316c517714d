-- At which last writes of their forks replications have nothing to push.
use Rattle.std.specs.Prelude.{◌≡◌, ◌≢◌, ℕ, ◌≤◌, List, Option, Some}
use Rattle.rx_value.specs.Named.{named}
use Rattle.rx_collection.specs.Held.{Held}
use Rattle.rx_collection.specs.Time.{last_lwt}
use Rattle.rx_sync.specs.Asking.{pending_in}
use Rattle.rx_world.specs.World.{World}
use Rattle.rx_world.specs.declared.replication.Replication.{Replication}

-- the replication of a name and its fork are held, and the fork's last write was at that time
pub record IsLastWrite (w : World) (name : List ℕ) (lwt : ℕ) : Type 0 where
  pub replication : Replication
  pub held : named w.replications name ≡ Some replication
  pub fork : Held
  pub fork_held : named w.collections replication.fork ≡ Some fork
  pub last : last_lwt fork.documents ≡ lwt

-- the fork's last write was at that time or later, and as long as it is that one nothing is to be
-- pushed
pub record IsMarked (w : World) (name : List ℕ) (lwt : ℕ) : Type 0 where
  pub replication : Replication
  pub held : named w.replications name ≡ Some replication
  pub fork : Held
  pub fork_held : named w.collections replication.fork ≡ Some fork
  pub past : lwt ≤ last_lwt fork.documents
  pub none : last_lwt fork.documents ≡ lwt → pending_in w name ≡ Some 0

-- so it is of each replication that has a mark
abbrev pub AreMarked : World → List (List ℕ × Option ℕ) → Type 0
AreMarked w marks =
    (name : List ℕ) (lwt : ℕ) → named marks name ≡ Some (Some lwt) → IsMarked w name lwt

-- and of each but one
abbrev pub AreMarkedBut : List ℕ → World → List (List ℕ × Option ℕ) → Type 0
AreMarkedBut but w marks =
    (name : List ℕ) (lwt : ℕ) → name ≢ but → named marks name ≡ Some (Some lwt)
    → IsMarked w name lwt
