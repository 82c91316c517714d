-- The line that makes a collection the fork of a master.
use Rattle.std.specs.Prelude.{⊤, ◌≤◌, ℕ, List, length, Bool, true, false, nat_lt, Option, Some, None, is_none, Result, Ok}
use Rattle.std.specs.Option.{option_map_or}
use Rattle.rx_value.specs.Due.{◌>>◌, demand}
use Rattle.rx_value.specs.Named.{named}
use Rattle.rx_value.specs.declared.kinds.Kind.{Kind}
use Rattle.rx_value.specs.declared.kinds.Kind.TheVariants.{Int}
use Rattle.rx_schema.specs.Writing.{kinds_of as field_kinds}
use Rattle.rx_schema.specs.declared.shape.Shape.{Shape}
use Rattle.rx_collection.specs.Held.{Held}
use Rattle.rx_handler.specs.Handlers.{Kinds}
use Rattle.rx_handler.specs.declared.kind.HandlerKind.{HandlerKind}
use Rattle.rx_handler.specs.declared.kind.HandlerKind.TheVariants.{Greater}
use Rattle.rx_record.specs.Content.{replication}
use Rattle.rx_record.specs.declared.record.MasterName.{MasterName}
use Rattle.rx_record.specs.declared.record.MasterName.TheVariants as master
use Rattle.rx_reply.specs.Answer.{replicate}
use Rattle.rx_reply.specs.declared.refusal.Refusal.TheVariants.{Exists, NoHandler, Chain, SchemaDiffers, TooMany}
use Rattle.rx_script.specs.declared.target.Target.{Target}
use Rattle.rx_script.specs.declared.target.Target.TheVariants as target
use Rattle.rx_session.specs.Doing.{write}
use Rattle.rx_session.specs.Session.{Session}
use Rattle.rx_world.specs.Chain.{may_follow}
use Rattle.rx_world.specs.Replicating.{has_schema_of}
use Rattle.rx_world.specs.World.{max_replications}
use Rattle.rx_engine.specs.Outcome.{Outcome, collection_at}
use Rattle.rx_writes.specs.declared.fault.Fault.{Fault}
use Rattle.rx_writes.specs.declared.fault.Fault.TheVariants.{Refused}

-- ---- handlers

-- the property holds whole numbers
abbrev pub is_number : Option Kind → Bool
is_number (Some Int) = true
is_number other = false

-- `greater` goes by a property of whole numbers, and every other handler by none
abbrev pub takes_field : Shape → Option (List ℕ) → HandlerKind → Bool
takes_field schema (Some field) Greater = is_number (named (field_kinds schema.properties) field)
takes_field schema None Greater = false
takes_field schema field other = is_none field

-- there is a handler of the name, and it takes the field
abbrev pub has_handler : Kinds → Shape → List ℕ → Option (List ℕ) → Bool
has_handler kinds schema handler field =
    option_map_or (takes_field schema field) (named kinds handler) false

-- ---- masters

-- a master as a record has it
abbrev pub master_of : Target → MasterName
master_of (target.Local name) = master.Local name
master_of (target.Port port) = master.Port port

-- a master that is named, which is to be held
abbrev pub master_at : MasterName → Session → Result (Option Held) Fault
master_at (master.Local name) s = collection_at name s >> λ c. Ok (Some c)
master_at (master.Port port) s = Ok None

-- it has the fork's schema; one at a port is asked for it by each request
abbrev pub has_schema : Held → Option Held → Bool
has_schema fork held = option_map_or (has_schema_of fork) held true

-- ---- the line

-- The name is free, the fork is held and so is a master that is named, the handler is there, the
-- fork may follow the master, both have one schema, and there is room.
abbrev pub replicate_line : Kinds → List ℕ → List ℕ → MasterName → List ℕ → Option (List ℕ)
    → Session → Result Outcome Fault
replicate_line kinds name fork master handler field s =
    demand (is_none (named s.world.replications name)) (Refused Exists) >> λ _.
    collection_at fork s >> λ c.
    master_at master s >> λ held.
    demand (has_handler kinds c.schema handler field) (Refused NoHandler) >> λ _.
    demand (may_follow s.world.replications fork master) (Refused Chain) >> λ _.
    demand (has_schema c held) (Refused SchemaDiffers) >> λ _.
    demand (nat_lt (length s.world.replications) max_replications) (Refused TooMany) >> λ _.
    Ok (record { doing = write (replication name fork master handler field); answer = replicate })

-- a port isn't 0
abbrev pub HasPort : MasterName → Type 0
HasPort (master.Local name) = ⊤
HasPort (master.Port port) = 1 ≤ port
