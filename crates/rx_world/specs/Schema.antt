-- The schema whose canonical text a text is.
use Rattle.std.specs.Prelude.{ℕ, List, Option, Some, None, option_and_then, Result, Ok, Err}
use Rattle.std.specs.Str.{bytes_eq}
use Rattle.serde_json.specs.Read.{read}
use Rattle.rx_value.specs.Due.{only_if}
use Rattle.rx_schema.specs.Reading.{schema_of}
use Rattle.rx_schema.specs.Writing.{canonical_text}
use Rattle.rx_schema.specs.declared.fault.SchemaFault.{SchemaFault}
use Rattle.rx_schema.specs.declared.shape.Shape.{Shape}

-- the schema that was read, where the text is its canonical one
abbrev pub if_canonical : List ℕ → Result Shape SchemaFault → Option Shape
if_canonical text (Ok s) = only_if (bytes_eq (canonical_text s) text) (Some s)
if_canonical text (Err e) = None

-- the schema whose canonical text this is
abbrev pub schema_in : List ℕ → Option Shape
schema_in text = option_and_then (λ d. if_canonical text (schema_of d)) (read text)
