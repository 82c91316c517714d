-- Documents by key.
use Rattle.std.specs.Prelude.{ℕ, List, Option, Some, None, if◌then◌else◌}
use Rattle.rx_value.specs.Fields.{Pairs}
use Rattle.rx_document.specs.declared.stored.Stored.{Stored}

-- documents with their keys, to be read by `named`
abbrev pub Documents : Type 0
Documents = List (List ℕ × Stored)

-- the fields of a document that is there and not deleted
abbrev pub live : Option Stored → Option Pairs
live None = None
live (Some d) = if d.state.deleted then None else Some d.state.fields
