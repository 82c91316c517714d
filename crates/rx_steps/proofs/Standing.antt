-- A replication with its two collections, as a system has them.
use Rattle.std.proofs.Common.{◌≡◌, ℕ, List, Some}
use Rattle.rx_value.specs.Named.{named}
use Rattle.rx_schema.specs.declared.shape.Shape.{Shape}
use Rattle.rx_record.specs.declared.record.MasterName.TheVariants.{Local}
use Rattle.rx_replication.specs.Steps.{System}
use Rattle.rx_world.specs.World.{World}
use Rattle.rx_world.specs.declared.replication.Replication.{Replication}
use Rattle.rx_steps.specs.Shows.{of_schema}

pub record IsShown (w : World) (name : List ℕ) (r : Replication) (m : List ℕ) (z : Shape)
    (s : System) : Type 0 where
  pub held : named w.replications name ≡ Some r
  pub local : r.master ≡ Local m
  pub fork : named w.collections r.fork ≡ Some (of_schema z s.fork)
  pub master : named w.collections m ≡ Some (of_schema z s.master)
  pub known : r.side.known ≡ s.known
  pub up : r.side.up ≡ s.up
  pub down : r.side.down ≡ s.down
