use Rattle.std.proofs.Common.{◌++◌, ap, ap₂, ◌∙◌}
use Rattle.json.specs.Print.{print}
use Rattle.json.specs.Tree.{json_tokens}
use Rattle.serde_json.specs.Written.{outline}
use Rattle.serde_json.proofs.Texts.{print-outline}
use Rattle.rx_wire.specs.Writing.{reply_data}
use Rattle.rx_wire.proofs.printing.reply_bytes.Goals as goal

pub returns-clause-text : goal.returns-clause-text
returns-clause-text c =
    let whole = reply_data c.args.reply.now in
    c.into_inner.ensures.items
    ∙ ap₂ (λ before ts. before ++ print ts)
    (c.in_ok-put_reply.ensures.before ∙ c.new-writer.ensures.before
    ∙ c.in_ok-with_capacity.ensures.items)
    (c.in_ok-put_reply.ensures.tokens
    ∙ ap (λ ts. ts ++ json_tokens (outline whole)) c.new-writer.ensures.tokens)
    ∙ print-outline whole
