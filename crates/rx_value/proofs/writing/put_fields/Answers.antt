use Rattle.std.proofs.Common.{◌++◌, ap, ◌∙◌}
use Rattle.indexmap.proofs.MapLemmas.{OnOk-map}
use Rattle.rx_value.specs.Writing.{pairs_tokens}
use Rattle.rx_value.proofs.Tokens.{fields_written}
use Rattle.rx_value.proofs.writing.put_fields.Goals as goal

pub returns-clause-tokens : goal.returns-clause-tokens
returns-clause-tokens c =
    OnOk-map c.end_object.result _ _
    (fields_written c.args.fields.now c.args.writer.now.tokens c.begin_object.new.self.tokens
    c.put_pairs.new.writer.tokens c.end_object.new.self.tokens c.in_ok-begin_object.ensures.ok
    (c.in_ok-put_pairs.ensures.tokens
    ∙ ap (λ ps. c.begin_object.new.self.tokens ++ pairs_tokens ps)
    (c.as_slice.ensures.value ∙ c.fields.view_is)))
    c.end_object.ensures.ok
