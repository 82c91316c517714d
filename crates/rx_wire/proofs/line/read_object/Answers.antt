use Rattle.std.proofs.Common.{sym, ap, ◌∙◌, arith, inr}
use Rattle.serde_json.specs.Read.{read}
use Rattle.serde_json.specs.View.{view}
use Rattle.rx_wire.proofs.Enough.{object_told, missing_told, no_json_told}
use Rattle.rx_wire.proofs.line.read_object.Goals as goal

pub returns-in_default : goal.returns-in_default
returns-in_default c =
    inr (no_json_told c.args.schema.now c.args.line.now (omega arith)
    (λ utf8. absurd (c.in_default.ensures.cases.0 utf8)))

pub returns-then-is_object : goal.returns-then-is_object
returns-then-is_object c =
    let text = c.in-Ok.ensures.cases in
    let kept = c.in-Ok-read_kept.ensures.ok in
    object_told c.args.schema.now c.args.line.now kept.0 (view c.in-Ok-read_kept.json)
    (omega arith) text.1
    (ap read (sym text.0) ∙ kept.1) kept.2 (sym c.is_object.ensures ∙ c.if-is_object.true)

pub returns-else-is_object : goal.returns-else-is_object
returns-else-is_object c =
    let text = c.in-Ok.ensures.cases in
    let kept = c.in-Ok-read_kept.ensures.ok in
    inr (missing_told c.args.schema.now c.args.line.now kept.0 (view c.in-Ok-read_kept.json)
    (omega arith) text.1
    (ap read (sym text.0) ∙ kept.1) kept.2 (sym c.is_object.ensures ∙ c.if-is_object.false))
