use Rattle.std.proofs.Common.{◌∙◌}
use Rattle.rx_record.specs.Views.{step_in}
use Rattle.rx_record.proofs.StepsOn.{rest_on}
use Rattle.rx_record.proofs.step_list.skip_steps.Goals as goal

pub loop-left-preserved : goal.loop-left-preserved
loop-left-preserved c =
    c.loop-left.invariant
    ∙ rest_on c.loop-left.left c.loop-left.rest.now
    (step_in c.in_ok-_step._step) c.in_ok-_step.behind.now
    c.loop-left-test.true c.in_ok-_step.ensures
