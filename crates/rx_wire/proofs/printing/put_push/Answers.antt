use Rattle.std.proofs.Common.{refl, append_assoc, ◌∙◌}
use Rattle.std.proofs.lemmas.Result.{on_ok_weaker}
use Rattle.rx_wire.proofs.printing.put_push.Goals as goal

-- the tokens of one member after another
pub returns-clause-tokens : goal.returns-clause-tokens
returns-clause-tokens c =
    on_ok_weaker c.end_object.result (λ is. is ∙ rw (
      c.in_ok-put_text-2.ensures.tokens,
      c.in_ok-put_rows.ensures.tokens,
      c.in_ok-key.ensures.ok,
      c.in_ok-put_whole-2.ensures.tokens,
      c.in_ok-put_whole.ensures.tokens,
      c.in_ok-put_text.ensures.tokens,
      c.in_ok-begin_object.ensures.ok,
    ) (simp (append_assoc) refl))
    c.end_object.ensures.ok
