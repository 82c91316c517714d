-- What holds of each replication of a world that records made.
use Rattle.std.specs.Prelude.{◌≡◌, ◌≢◌, ◌≤◌, ℕ, List, map, Some, IfSome}
use Rattle.std.specs.List.{AllByRecursion, IsDistinct}
use Rattle.std.specs.Str.{bytes_eq}
use Rattle.rx_value.specs.Named.{named}
use Rattle.rx_schema.specs.declared.shape.Shape.{Shape}
use Rattle.rx_collection.specs.Held.{Held}
use Rattle.rx_meta.specs.Side.{AreKnownByKey}
use Rattle.rx_record.specs.Writable.{HasTime}
use Rattle.rx_record.specs.declared.record.MasterName.{MasterName}
use Rattle.rx_record.specs.declared.record.MasterName.TheVariants.{Local, Port}
use Rattle.rx_world.specs.Step.{IsValidState}
use Rattle.rx_world.specs.World.{World, Collections, Replications}
use Rattle.rx_world.specs.declared.replication.Replication.{Replication}

-- a collection of that name is held, which isn't the fork and has its schema
pub record IsMasterOf (cs : Collections) (fork : List ℕ) (schema : Shape) (name : List ℕ)
    : Type 0 where
  pub master : Held
  pub held : named cs name ≡ Some master
  pub other : name ≢ fork
  pub same : master.schema ≡ schema

-- so it is of a master that is here
abbrev pub HasMaster : Collections → List ℕ → Shape → MasterName → Type 0
HasMaster cs fork schema (Local name) = IsMasterOf cs fork schema name
HasMaster cs fork schema (Port port) = 1 ≤ port

-- the replication of a name has that name, its fork and its master are held, each known state
-- stands under its key and is valid, and the checkpoints have write times
pub record IsLinked (cs : Collections) (name : List ℕ) (r : Replication) : Type 0 where
  pub called : r.name ≡ name
  pub fork : Held
  pub held : named cs r.fork ≡ Some fork
  pub master : HasMaster cs r.fork fork.schema r.master
  pub by_key : AreKnownByKey r.side.known
  pub valid : AllByRecursion (λ e. IsValidState fork.schema e.1) r.side.known
  pub up_has_time : IfSome r.side.up HasTime
  pub down_has_time : IfSome r.side.down HasTime

-- the forks of all replications
abbrev pub forks_of : Replications → List (List ℕ)
forks_of rs = map (λ e. e.1.fork) rs

-- each replication is so, and no two have one fork
pub record AreLinked (w : World) : Type 0 where
  pub each : AllByRecursion (λ e. IsLinked w.collections e.0 e.1) w.replications
  pub apart : IsDistinct bytes_eq (forks_of w.replications)
