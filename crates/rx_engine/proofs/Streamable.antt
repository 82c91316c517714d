-- Which stream may be opened.
use Rattle.std.proofs.Common.{◌≡◌, ℕ, List, Some, refl, subst}
use Rattle.rx_value.specs.Named.{named}
use Rattle.rx_value.proofs.Outcomes.{not_none, some_same}
use Rattle.rx_collection.specs.Held.{Held}
use Rattle.rx_collection.proofs.Named.{at_name}
use Rattle.rx_record.specs.declared.record.MasterName.{MasterName}
use Rattle.rx_record.specs.declared.record.MasterName.TheVariants.{Local, Port}
use Rattle.rx_replication.specs.Sound.{Reach}
use Rattle.rx_schema.specs.declared.shape.Shape.{Shape}
use Rattle.rx_session.specs.Streams.{IsStreamable}
use Rattle.rx_sync.specs.Handling.{local_name}
use Rattle.rx_world.specs.Linked.{HasMaster, IsLinked}
use Rattle.rx_world.specs.Sound.{IsSoundIn, IsSoundWith, IsSoundWorld}
use Rattle.rx_world.specs.World.{World}
use Rattle.rx_world.specs.declared.replication.Replication.{Replication}

-- the master is held, and reaches what was pulled
record HasReached (w : World) (r : Replication) (o : MasterName) (m : List ℕ) : Type 0 where
  pub local : o ≡ Local m
  pub documents : Held
  pub held : named w.collections m ≡ Some documents
  pub reached : Reach documents.documents r.side.down

reached_at : (w : World) (r : Replication) (fork : Held) (schema : Shape)
    (o : MasterName) (m : List ℕ)
    → HasMaster w.collections r.fork schema o → IsSoundWith w.collections o fork r.side
    → local_name o ≡ Some m → HasReached w r o m
reached_at w r fork schema (Local n) m has sound is =
    subst (HasReached w r (Local n)) (some_same is) (record {
      local = refl;
      documents = has.master;
      held = has.held;
      reached = (sound has.master has.held).master_side.reached;
    })
reached_at w r fork schema (Port port) m has sound is = not_none is

-- a replication of a sound world with a master of the same journal
pub streamable : (w : World) → IsSoundWorld w → (name m : List ℕ) (r : Replication)
    → named w.replications name ≡ Some r → IsLinked w.collections name r
    → local_name r.master ≡ Some m → IsStreamable w name m
streamable w sound name m r held linked is =
    let sound_here = at_name (λ (k : List ℕ) (x : Replication). IsSoundIn w.collections x)
    w.replications name r sound held in
    let at = reached_at w r linked.fork linked.fork.schema r.master m linked.master
    (sound_here linked.fork linked.held) is in
    record {
      replication = r;
      held = held;
      local = at.local;
      documents = at.documents;
      master_held = at.held;
      reached = at.reached;
    }
