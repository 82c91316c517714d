use Rattle.std.proofs.Common.{◌∷◌, codes, append_assoc, ◌∙◌}
use Rattle.std.proofs.lemmas.Result.{on_ok_weaker}
use Rattle.json.specs.Token.{begin_object, key}
use Rattle.json.specs.Tree.{json_tokens}
use Rattle.serde_json.specs.Written.{outline}
use Rattle.rx_reply.specs.Explain.{actions_data}
use Rattle.rx_reply.proofs.Tokens.{in_turn}
use Rattle.rx_reply.proofs.explain.put_explain.Goals as goal

pub returns-clause-tokens : goal.returns-clause-tokens
returns-clause-tokens c =
    let actions = json_tokens (outline (actions_data c.args.counts.now)) in
    on_ok_weaker c.end_object.result
    (λ last. in_turn c.args.writer.now.tokens c.put_actions.new.writer.tokens
    c.end_object.new.self.tokens
    (begin_object ∷ key (codes "actions") ∷ actions) _
    (rw (
      c.in_ok-put_actions.ensures.tokens,
      c.in_ok-key.ensures.ok,
      c.in_ok-begin_object.ensures.ok,
    )
    (simp append_assoc))
    (last ∙ rw (
      c.in_ok-put_text.ensures.tokens,
      c.in_ok-put_number-4.ensures.tokens,
      c.in_ok-put_number-3.ensures.tokens,
      c.in_ok-put_number-2.ensures.tokens,
      c.in_ok-put_number.ensures.tokens,
    )
    (simp append_assoc)))
    c.end_object.ensures.ok
