use Rattle.std.proofs.Common.{append_assoc, ◌∙◌}
use Rattle.std.proofs.lemmas.Result.{on_ok_weaker}
use Rattle.rx_reply.proofs.swept.Swept.put.Goals as goal

pub returns-clause-tokens : goal.returns-clause-tokens
returns-clause-tokens c =
    on_ok_weaker c.end_object.result
    (λ last. last ∙ rw (
      c.in_ok-put_text-3.ensures.tokens,
      c.as_str.ensures,
      c.in_ok-put_text-2.ensures.tokens,
      c.word-2.ensures,
      c.in_ok-put_number.ensures.tokens,
      c.len.ensures,
      c.in_ok-put_text.ensures.tokens,
      c.word.ensures,
      c.in_ok-begin_object.ensures.ok,
    )
    (simp append_assoc))
    c.end_object.ensures.ok
