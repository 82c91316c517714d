-- What holds of open streams: each has its replication and its master, whose events it queues.
use Rattle.std.specs.Prelude.{◌≡◌, ℕ, List, Some}
use Rattle.std.specs.List.{AllByRecursion}
use Rattle.rx_value.specs.Named.{named}
use Rattle.rx_collection.specs.Held.{Held}
use Rattle.rx_record.specs.declared.record.MasterName.TheVariants.{Local}
use Rattle.rx_replication.specs.Sound.{Reach}
use Rattle.rx_stream.specs.Good.{IsGoodEvent, IsGoodQueue}
use Rattle.rx_stream.specs.declared.event.Event.{Event}
use Rattle.rx_stream.specs.declared.stream.Stream.{Stream}
use Rattle.rx_world.specs.ValidState.{is_valid_state}
use Rattle.rx_world.specs.World.{World}
use Rattle.rx_world.specs.declared.replication.Replication.{Replication}

-- a replication of that name has that collection as its master, and has pulled to a place that the
-- master reaches
pub record IsStreamable (w : World) (name master : List ℕ) : Type 0 where
  pub replication : Replication
  pub held : named w.replications name ≡ Some replication
  pub local : replication.master ≡ Local master
  pub documents : Held
  pub master_held : named w.collections master ≡ Some documents
  pub reached : Reach documents.documents replication.side.down

-- the stream's replication has its master, which has committed each event that is queued
pub record IsStreamed (w : World) (st : Stream) : Type 0 where
  pub replication : Replication
  pub held : named w.replications st.name ≡ Some replication
  pub local : replication.master ≡ Local st.master
  pub documents : Held
  pub master_held : named w.collections st.master ≡ Some documents
  pub good : IsGoodQueue (is_valid_state documents.schema) documents.documents st.queue

-- the master of the replication of a name, which is of this journal, has committed an event
abbrev pub IsGoodFor : World → List ℕ → Event → Type 0
IsGoodFor w name e =
    (r : Replication) → named w.replications name ≡ Some r
    → (at : List ℕ) → r.master ≡ Local at
    → (c : Held) → named w.collections at ≡ Some c
    → IsGoodEvent (is_valid_state c.schema) c.documents e

-- so it is of each stream
abbrev pub AreStreamed : World → List Stream → Type 0
AreStreamed w sts = AllByRecursion (IsStreamed w) sts
