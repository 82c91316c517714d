-- A collection after the steps of a migration.
use Rattle.std.specs.Prelude.{List, map}
use Rattle.std.specs.List.{AllByRecursion}
use Rattle.std.specs.Option.{unwrap_or}
use Rattle.rx_value.specs.declared.state.State.{State}
use Rattle.rx_document.specs.Documents.{Documents}
use Rattle.rx_document.specs.declared.stored.Stored.{Stored}
use Rattle.rx_migrate.specs.Migrated.{migrated}
use Rattle.rx_migrate.specs.declared.step.Step.{Step}
use Rattle.rx_schema.specs.declared.shape.Shape.{Shape}
use Rattle.rx_collection.specs.Commit.{Carries}
use Rattle.rx_collection.specs.Held.{Held, held_with}

-- a state after the steps, where they make one
abbrev pub state_after : List Step → State → State
state_after steps s = unwrap_or (migrated steps s) s

-- a document, with its revision and its write time
abbrev pub stored_after : List Step → Stored → Stored
stored_after steps d = record d { state = state_after steps d.state }

-- documents with their keys
abbrev pub documents_after : List Step → Documents → Documents
documents_after steps es = map (λ e. (e.0, stored_after steps e.1)) es

-- a collection with the schema and its documents after the steps
abbrev pub migrated_collection : Shape → List Step → Held → Held
migrated_collection schema steps c = held_with c.name schema (documents_after steps c.documents)

-- each state after the steps carries its key by the schema
abbrev pub CarryAfter : Shape → List Step → Documents → Type 0
CarryAfter schema steps es =
    AllByRecursion (λ e. Carries schema.primary (state_after steps e.1.state)) es
