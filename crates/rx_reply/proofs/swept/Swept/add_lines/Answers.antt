use Rattle.std.proofs.Common.{◌∙◌, ◌++◌, List, ℕ, ap, string_bytes}
use Rattle.rx_value.proofs.Outcomes.{if_ok}
use Rattle.rx_reply.specs.Swept.{swept_data}
use Rattle.rx_reply.specs.Turn.{exchange_lines}
use Rattle.rx_reply.specs.Writing.{output_line}
use Rattle.rx_reply.specs.declared.turn.Exchanged.{Exchanged}
use Rattle.rx_reply.proofs.swept.Swept.add_lines.Goals as goal

pub returns : goal.returns
returns c =
    let before = string_bytes c.args.text in
    let own = output_line (swept_data c.args.self.now) in
    if_ok c.finish_line.result _ _
    (rw (c.in_ok-put.ensures.before, c.line_after-writer.ensures.before)
    at c.finish_line.ensures (swept_data c.args.self.now)
    (rw c.line_after-writer.ensures.tokens at c.in_ok-put.ensures.tokens))
    (λ text is. is ∙ ap (λ (xs : List ℕ). xs ++ own)
    (c.in_ok-exchanged.ensures
    ∙ ap (λ (es : List Exchanged). before ++ exchange_lines 1 es) c.as_slice.ensures))
