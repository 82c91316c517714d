use Rattle.rx_value.specs.State.{mark}
use Rattle.rx_value.specs.declared.value.Value.TheVariants.{Flag}
use Rattle.rx_value.proofs.Tokens.{written_over}
use Rattle.rx_value.proofs.writing.around_mark.Goals as goal

pub returns-in-Ok : goal.returns-in-Ok
returns-in-Ok c =
    λ deleted. rw (← c.fields.view_is, ← c.as_slice-pairs.ensures.value)
    (written_over c.as_slice-pairs.result.now mark (Flag deleted) c.in-Ok.i c.in-Ok.ensures.found)
