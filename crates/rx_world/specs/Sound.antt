-- What holds of a world whose replications lose nothing.
use Rattle.std.specs.Prelude.{◌≡◌, Some}
use Rattle.std.specs.List.{AllByRecursion}
use Rattle.rx_value.specs.Named.{named}
use Rattle.rx_collection.specs.Held.{Held}
use Rattle.rx_record.specs.declared.record.MasterName.{MasterName}
use Rattle.rx_record.specs.declared.record.MasterName.TheVariants.{Local, Port}
use Rattle.rx_meta.specs.Side.{Side}
use Rattle.rx_replication.specs.Sound.{IsForkSound, IsSound}
use Rattle.rx_world.specs.World.{World, Collections}
use Rattle.rx_world.specs.declared.replication.Replication.{Replication}

-- a fork and what it knows are sound with the master, or by themselves where it is at a port
abbrev pub IsSoundWith : Collections → MasterName → Held → Side → Type 0
IsSoundWith cs (Local name) fork s =
    (master : Held) → named cs name ≡ Some master
    → IsSound fork.documents master.documents s.known s.up s.down
IsSoundWith cs (Port port) fork s = IsForkSound fork.documents s.known s.up

-- the replication is so
abbrev pub IsSoundIn : Collections → Replication → Type 0
IsSoundIn cs r = (fork : Held) → named cs r.fork ≡ Some fork → IsSoundWith cs r.master fork r.side

-- each replication is
abbrev pub IsSoundWorld : World → Type 0
IsSoundWorld w = AllByRecursion (λ e. IsSoundIn w.collections e.1) w.replications
