-- A master and its disk.
use Rattle.std.specs.Prelude.{◌≡◌, ℕ, List, Option, None, Some, true, false}
use Rattle.rx_collection.specs.Held.{Held}
use Rattle.rx_disk.specs.declared.disk.Disk.{Ghosts}
use Rattle.rx_store.specs.Holds.{Holds}
use Rattle.rx_world.specs.World.{World}
use Rattle.rx_host.specs.Worlds.{collection_at, is_served, world_of}
use Rattle.rx_host.specs.declared.engine.MasterEngine.{MasterEngine}

-- its world, the name of its collection, and that collection
abbrev pub world_at : MasterEngine → World
world_at m = world_of m.world

abbrev pub name_of : MasterEngine → List ℕ
name_of m = m.name

abbrev pub collection_of : MasterEngine → Held
collection_of m = collection_at m.name (world_of m.world)

abbrev pub limit_of : MasterEngine → ℕ
limit_of m = m.journal.limit

-- a later master of the same collection, within the same limit
pub record IsStillOf (m m' : MasterEngine) : Type 0 where
  pub name : name_of m' ≡ name_of m
  pub limit : limit_of m' ≡ limit_of m

-- the disk holds these bodies, and they are the master's world
abbrev pub IsAt : {D : Type 0} → Ghosts D → D → MasterEngine → List (List ℕ) → Type 0
IsAt d disk m bodies = Holds d disk m.journal bodies (world_of m.world)

-- what is found of a name in a world: the master of that collection, or none where it isn't served
abbrev pub Finds : List ℕ → World → Option MasterEngine → Type 0
Finds name w None = is_served name w ≡ false
Finds name w (Some m) = (is_served name w ≡ true) × (world_of m.world ≡ w) × (m.name ≡ name)

-- the master that was found, if one was, has its disk
abbrev pub IsAtIfFound
    : {D : Type 0} → Ghosts D → D → Option MasterEngine → List (List ℕ) → Type 0
IsAtIfFound d disk None bodies = Unit {0}
IsAtIfFound d disk (Some m) bodies = IsAt d disk m bodies
