-- What records make of replications, and what these ask of a master and of checkpoints.
use Rattle.std.specs.Prelude.{ℕ, List, [], Bool, true, false, nat_lt, Option, Some, None}
use Rattle.std.specs.Option.{option_map_or}
use Rattle.std.specs.Str.{bytes_eq}
use Rattle.rx_value.specs.Named.{named}
use Rattle.rx_value.specs.declared.state.State.{State}
use Rattle.rx_schema.specs.Writing.{canonical_text}
use Rattle.rx_document.specs.declared.place.Place.{Place}
use Rattle.rx_collection.specs.Held.{Held}
use Rattle.rx_record.specs.declared.record.MasterName.{MasterName}
use Rattle.rx_record.specs.declared.record.MasterName.TheVariants.{Local, Port}
use Rattle.rx_meta.specs.Side.{side_with}
use Rattle.rx_replication.specs.Known.{with_learnt}
use Rattle.rx_replication.specs.Write.{is_up_to}
use Rattle.rx_world.specs.World.{Collections}
use Rattle.rx_world.specs.declared.replication.Replication.{Replication}

-- a new one: nothing is known, and there are no checkpoints
abbrev pub new_replication : List ℕ → List ℕ → MasterName → List ℕ → Option (List ℕ) → Replication
new_replication name fork master handler field = record {
  name = name;
  fork = fork;
  master = master;
  handler = handler;
  field = field;
  side = side_with [] None None;
}

-- one whose fork learnt these states, with those checkpoints
abbrev pub with_exchange : List State → Option Place → Option Place → Replication → Replication
with_exchange known up down r =
    record r { side = side_with (with_learnt r.side.known known) up down }

-- the same schema as the other's
abbrev pub has_schema_of : Held → Held → Bool
has_schema_of fork master = bytes_eq (canonical_text master.schema) (canonical_text fork.schema)

-- the master is held with the fork's schema, or is at a port, which isn't 0
abbrev pub is_fitting : Collections → MasterName → Held → Bool
is_fitting cs (Local master) fork = option_map_or (has_schema_of fork) (named cs master) false
is_fitting cs (Port port) fork = nat_lt 0 port

-- a checkpoint doesn't fall
abbrev pub stays_or_rises : Option Place → Option Place → Bool
stays_or_rises None new = true
stays_or_rises (Some old) new = is_up_to old new
