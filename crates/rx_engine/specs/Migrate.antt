-- The line that takes a collection, with all that local replications join to it, to the next
-- version of its schema.
use Rattle.std.specs.Prelude.{◌≡◌, ℕ, List, filter, map, Bool, Result, Ok}
use Rattle.serde_json.specs.Data.{Data}
use Rattle.rx_collection.specs.Held.{Held}
use Rattle.rx_migrate.specs.declared.step.Step.{Step}
use Rattle.rx_record.specs.Content.{Content, migration}
use Rattle.rx_reply.specs.Answer as answer
use Rattle.rx_reply.specs.declared.refusal.MigrationCause.TheVariants as cause
use Rattle.rx_reply.specs.declared.refusal.Refusal.TheVariants.{Migration, Observed, Remote}
use Rattle.rx_schema.specs.Reading.{schema_of}
use Rattle.rx_schema.specs.declared.shape.Shape.{Shape}
use Rattle.rx_session.specs.Doing.{migrate}
use Rattle.rx_session.specs.Session.{Session, first_observed}
use Rattle.rx_value.specs.Due.{◌>>◌, lifted, unless}
use Rattle.rx_world.specs.Migrating.{is_in_group}
use Rattle.rx_world.specs.Migration.{migration_of}
use Rattle.rx_world.specs.World.{Collections}
use Rattle.rx_world.specs.declared.fault.MigrateFault.{MigrateFault}
use Rattle.rx_world.specs.declared.fault.MigrateFault.TheVariants as fault
use Rattle.rx_writes.specs.Faults.{of_schema}
use Rattle.rx_writes.specs.declared.fault.Fault.{Fault}
use Rattle.rx_writes.specs.declared.fault.Fault.TheVariants.{Memory, Refused}
use Rattle.rx_engine.specs.Outcome.{Outcome, collection_at}

-- why the collection of a line can't be migrated
abbrev pub of_migration : List ℕ → MigrateFault → Fault
of_migration coll fault.Version = Refused (Migration cause.Version coll)
of_migration coll fault.Primary = Refused (Migration cause.Primary coll)
of_migration coll (fault.Invalid name) = Refused (Migration cause.Invalid name)
of_migration coll fault.Remote = Refused Remote
of_migration coll fault.Memory = Memory

-- a query of that name is observed in the group
abbrev pub of_observed : List ℕ → Fault
of_observed name = Refused (Observed name)

-- the names of a group, in the order of their making
abbrev pub names_of_group : (List ℕ → Bool) → Collections → List (List ℕ)
names_of_group in_group cs = map (λ e. e.0) (filter (λ e. in_group e.0) cs)

-- it is the record of a migration of that collection
abbrev pub Migrates : List ℕ → Content → Type 0
Migrates coll content =
    (text : List ℕ) × (steps : List Step) × (content ≡ migration coll text steps)

-- a record is written, and the names of the group answered, unless a query is observed in it
abbrev pub unless_observed : List ℕ → Content → Session → Result Outcome Fault
unless_observed coll content s =
    unless of_observed (first_observed (is_in_group s.world.replications coll) s.queries)
    (Ok (record {
      doing = migrate content;
      answer = answer.migrate
          (names_of_group (is_in_group s.world.replications coll) s.world.collections);
    }))

-- the record that takes a collection to a schema, or why there is none
abbrev pub said_of : List ℕ → Shape → List Step → Held → Session → Result Content Fault
said_of coll shape steps c s = lifted (of_migration coll) (migration_of coll shape steps c s.world)

-- a collection that is held goes to a schema
abbrev pub migrate_to : List ℕ → Shape → List Step → Held → Session → Result Outcome Fault
migrate_to coll shape steps c s =
    said_of coll shape steps c s >> λ content. unless_observed coll content s

abbrev pub migrate_line : List ℕ → Data → List Step → Session → Result Outcome Fault
migrate_line coll schema steps s =
    collection_at coll s >> λ c. lifted of_schema (schema_of schema) >> λ shape.
    migrate_to coll shape steps c s
