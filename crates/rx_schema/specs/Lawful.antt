-- What holds of every schema.
use Rattle.std.specs.Prelude.{◌≡◌, ℕ, true, Some, Ok}
use Rattle.std.specs.List.{AllByRecursion}
use Rattle.rx_value.specs.Form.{is_among}
use Rattle.rx_value.specs.Name.{is_field_name}
use Rattle.rx_value.specs.Named.{named, AreRising}
use Rattle.rx_schema.specs.Reading.{schema_of}
use Rattle.rx_schema.specs.Writing.{schema_data}
use Rattle.rx_schema.specs.declared.rule.Rule.TheVariants.{Text}
use Rattle.rx_schema.specs.declared.shape.Shape.{Shape}

-- the properties rise and have field names, the primary key is a required text, and what is written
-- of the schema reads as the schema
pub record IsSchema (s : Shape) : Type 0 where
  pub rising : AreRising s.properties
  pub names : AllByRecursion (λ p. is_field_name p.0 ≡ true) s.properties
  pub primary : (most : ℕ) × (named s.properties s.primary ≡ Some (Text most))
  pub required : is_among s.required s.primary ≡ true
  pub reads_back : schema_of (schema_data s) ≡ Ok s
