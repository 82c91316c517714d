use Rattle.std.proofs.Common.{◌≡◌, Ok, subst}
use Rattle.rx_schema.specs.Reading.{schema_of}
use Rattle.rx_schema.specs.Writing.{schema_data}
use Rattle.rx_schema.specs.declared.shape.Shape.{Shape}
use Rattle.rx_schema.proofs.schema.Schema.canonical.Goals as goal

pub returns-clause-reads_back : goal.returns-clause-reads_back
returns-clause-reads_back c = (
  schema_data c.self.inside.shape,
  c.self.invariant.3,
  subst (λ (s : Shape). schema_of (schema_data c.self.inside.shape) ≡ Ok s) c.self.view_is
      c.self.invariant.0.reads_back,
)
