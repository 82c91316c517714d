use Rattle.std.proofs.Common.{◌∷◌, codes, append_assoc, ◌∙◌}
use Rattle.std.proofs.lemmas.Result.{on_ok_weaker}
use Rattle.json.specs.Token.{begin_object, key}
use Rattle.json.specs.Tree.{json_tokens}
use Rattle.serde_json.specs.Data.{string}
use Rattle.serde_json.specs.Written.{outline}
use Rattle.rx_reply.specs.Writing.{list_data}
use Rattle.rx_reply.proofs.Tokens.{in_turn}
use Rattle.rx_reply.proofs.turn.put_pushed.Goals as goal

pub returns-clause-tokens : goal.returns-clause-tokens
returns-clause-tokens c =
    let conflicts = json_tokens (outline (list_data string c.args.conflicts.now)) in
    on_ok_weaker c.end_object.result
    (λ last.
    in_turn c.args.writer.now.tokens c.put_texts.new.writer.tokens c.end_object.new.self.tokens
    (begin_object ∷ key (codes "conflicts") ∷ conflicts) _
    (rw (c.in_ok-put_texts.ensures.tokens, c.in_ok-key.ensures.ok, c.in_ok-begin_object.ensures.ok)
    (simp append_assoc))
    (last ∙ rw (
      c.in_ok-put_text.ensures.tokens,
      c.in_ok-put_texts-2.ensures.tokens,
      c.in_ok-key-2.ensures.ok,
      c.in_ok-put_number.ensures.tokens,
    )
    (simp append_assoc)))
    c.end_object.ensures.ok
