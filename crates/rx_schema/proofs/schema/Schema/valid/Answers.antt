use Rattle.std.proofs.Common.{subst}
use Rattle.std.specs.Prelude.{IfOk}
use Rattle.rx_schema.specs.Validity.{HasKey}
use Rattle.rx_schema.specs.declared.shape.Shape.{Shape}
use Rattle.rx_schema.proofs.Valid.{no_mark, has_key, when_good}
use Rattle.rx_schema.proofs.schema.Schema.valid.Goals as goal

pub returns-clause-unmarked : goal.returns-clause-unmarked
returns-clause-unmarked c =
    when_good c.first_fault.result _ c.first_fault.ensures
    (no_mark c.self.inside.shape c.args.fields.now c.self.invariant.0)

pub returns-clause-key : goal.returns-clause-key
returns-clause-key c =
    subst (λ (s : Shape). IfOk c.first_fault.result (λ _. HasKey c.args.fields.now s.primary))
    c.self.view_is
    (when_good c.first_fault.result _ c.first_fault.ensures
    (has_key c.self.inside.shape c.args.fields.now c.self.invariant.0))
