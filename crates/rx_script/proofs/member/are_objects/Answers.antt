use Rattle.std.proofs.Common.{◌∙◌}
use Rattle.rx_script.proofs.Lists.{each_object}
use Rattle.rx_script.proofs.member.are_objects.Goals as goal

pub returns-in-Some : goal.returns-in-Some
returns-in-Some c =
    rw (← c.in-Some.ensures) (rw (← c.as_slice.ensures.value)
    (c.each_object.ensures ∙ each_object c.as_slice.result.now))
