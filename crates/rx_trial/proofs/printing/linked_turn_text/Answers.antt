use Rattle.std.proofs.lemmas.Result.{IfOk-weaker}
use Rattle.rx_trial.proofs.printing.linked_turn_text.Goals as goal

pub returns : goal.returns
returns c = IfOk-weaker c.format.result _ _ (λ t h.
    rw (
      ← c.happening_name-first.ensures,
      ← c.happening_name-second.ensures,
      ← c.happening_name-third.ensures,
    ) h) c.format.ensures.ok
