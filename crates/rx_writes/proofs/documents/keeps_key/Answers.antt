use Rattle.std.proofs.Common.{arith, ◌∙◌, sym, false, true}
use Rattle.rx_value.specs.Fields.{Pair}
use Rattle.rx_writes.proofs.Setting.{keeps_from}
use Rattle.rx_writes.proofs.documents.keeps_key.Goals as goal
use Rattle.rx_writes.proofs.documents.keeps_key.Goals.{else-eq-via-then-eq+else-not-is_text, else-eq-via-else-eq}

pub returns-then-not-is_text : goal.returns-then-not-is_text
returns-then-not-is_text c =
    let pair : Pair = (c.at.result.0.now, c.at.result.1.now) in
    sym (c.loop-i.invariant
    ∙ keeps_from c.args.primary.now c.args.key.now c.args.fields.now c.loop-i.i
    pair false c.at.ensures (grind arith))

pub loop-i-preserved : goal.loop-i-preserved
loop-i-preserved c =
    let pair : Pair = (c.at.result.0.now, c.at.result.1.now) in
    c.loop-i.invariant ∙ keeps_from c.args.primary.now c.args.key.now c.args.fields.now c.loop-i.i
    pair true c.at.ensures (elim c.else-eq.branch [
      | else-eq-via-then-eq+else-not-is_text w ↦ grind arith
      | else-eq-via-else-eq w ↦ grind arith
    ])
