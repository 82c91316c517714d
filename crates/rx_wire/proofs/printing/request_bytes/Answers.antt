use Rattle.std.proofs.Common.{◌++◌, ap, ap₂, ◌∙◌}
use Rattle.json.specs.Print.{print}
use Rattle.json.specs.Tree.{json_tokens}
use Rattle.serde_json.specs.Data.{object}
use Rattle.serde_json.specs.Written.{outline}
use Rattle.serde_json.proofs.Texts.{print-outline}
use Rattle.rx_wire.specs.Writing.{ask_members, request_data}
use Rattle.rx_wire.proofs.printing.request_bytes.Goals as goal

pub returns-clause-text : goal.returns-clause-text
returns-clause-text c =
    let request = c.args.request.now in
    let whole = request_data c.args.schema.now request in
    c.into_inner.ensures.items
    ∙ ap₂ (λ before ts. before ++ print ts)
    (c.in_ok-put_request.ensures.before ∙ c.new-writer.ensures.before
    ∙ c.in_ok-with_capacity.ensures.items)
    (c.in_ok-put_request.ensures.tokens
    ∙ ap (λ hash. c.new-writer.result.tokens
    ++ json_tokens (outline (object (ask_members hash request.epoch request.n request.ask))))
    (c.as_str.ensures ∙ c.hash.ensures)
    ∙ ap (λ ts. ts ++ json_tokens (outline whole)) c.new-writer.ensures.tokens)
    ∙ print-outline whole
