use Rattle.std.proofs.Common.{true≢false, ◌∙◌, sym, arith, inr}
use Rattle.serde_json.specs.View.{view}
use Rattle.rx_script.proofs.Lines.{an_object, no_object, not_json}
use Rattle.rx_script.proofs.line.read_object.Goals as goal

pub returns-then-is_object : goal.returns-then-is_object
returns-then-is_object c =
    an_object c.args.bytes.now (view c.in-Ok.json) (omega arith) c.in-Ok.ensures.ok.0
    c.in-Ok.ensures.ok.1 (sym c.is_object.ensures ∙ c.if-is_object.true)

pub returns-else-is_object : goal.returns-else-is_object
returns-else-is_object c =
    inr (no_object c.args.bytes.now (view c.in-Ok.json) (omega arith) c.in-Ok.ensures.ok.0
    c.in-Ok.ensures.ok.1 (sym c.is_object.ensures ∙ c.if-is_object.false))

pub returns-else-is_memory : goal.returns-else-is_memory
returns-else-is_memory c =
    inr (not_json c.args.bytes.now (omega arith)
    (c.in-Err.ensures.err (λ m. true≢false (sym (c.if-is_memory.ensures.1 m)))))
