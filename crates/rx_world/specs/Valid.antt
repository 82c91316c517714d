-- What holds of a world that records made.
use Rattle.std.specs.Prelude.{◌≡◌, Some, None}
use Rattle.std.specs.List.{AllByRecursion, IsDistinct}
use Rattle.std.specs.Map.{keys_of}
use Rattle.std.specs.Str.{bytes_eq}
use Rattle.rx_schema.specs.Validity.{first_fault}
use Rattle.rx_schema.specs.Writing.{canonical_text}
use Rattle.rx_collection.specs.Held.{Held}
use Rattle.rx_world.specs.Schema.{schema_in}
use Rattle.rx_world.specs.World.{World}

-- the fields of each document of a collection are valid by its schema
abbrev pub AreValid : Held → Type 0
AreValid c = AllByRecursion (λ e. first_fault c.schema e.1.state.fields ≡ None) c.documents

-- no name of a collection comes twice
abbrev pub AreDistinct : World → Type 0
AreDistinct w = IsDistinct bytes_eq (keys_of w.collections)

-- the same in each collection
abbrev pub AllValid : World → Type 0
AllValid w = AllByRecursion (λ e. AreValid e.1) w.collections

-- the canonical text of a collection's schema reads back as the schema
abbrev pub IsSpelled : Held → Type 0
IsSpelled c = schema_in (canonical_text c.schema) ≡ Some c.schema

-- the same of each collection
abbrev pub AllSpelled : World → Type 0
AllSpelled w = AllByRecursion (λ e. IsSpelled e.1) w.collections
