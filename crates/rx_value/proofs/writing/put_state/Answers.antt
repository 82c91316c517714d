use Rattle.indexmap.proofs.MapLemmas.{OnOk-map}
use Rattle.rx_value.proofs.Tokens.{state_written}
use Rattle.rx_value.proofs.writing.put_state.Goals as goal

pub returns-clause-tokens : goal.returns-clause-tokens
returns-clause-tokens c =
    OnOk-map c.end_object.result _ _
    (state_written c.args.state.now c.around_mark.result.0.now c.around_mark.result.1.now
    c.args.writer.now.tokens c.begin_object.new.self.tokens c.put_pairs.new.writer.tokens
    c.key.new.self.tokens c.boolean.new.self.tokens c.put_pairs-2.new.writer.tokens
    c.end_object.new.self.tokens (c.around_mark.ensures c.args.state.now.deleted)
    c.in_ok-begin_object.ensures.ok c.in_ok-put_pairs.ensures.tokens c.in_ok-key.ensures.ok
    c.in_ok-boolean.ensures.ok c.in_ok-put_pairs-2.ensures.tokens)
    c.end_object.ensures.ok
