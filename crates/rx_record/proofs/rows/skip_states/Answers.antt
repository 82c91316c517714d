use Rattle.std.proofs.Common.{◌∙◌, option_map}
use Rattle.rx_record.specs.Rows.{state_bytes, state_of, state_key}
use Rattle.rx_record.specs.Views.{state_in}
use Rattle.rx_record.proofs.Lists.{after_step}
use Rattle.rx_record.proofs.rows.skip_states.Goals as goal

pub loop-left-preserved : goal.loop-left-preserved
loop-left-preserved c =
    c.loop-left.invariant
    ∙ after_step state_bytes state_key state_of c.loop-left.left
    (option_map (λ t. t.now) c.loop-left.last)
    c.loop-left.rest.now (state_in c.in_ok-state.state) c.in_ok-state.behind.now
    c.loop-left-test.true c.in_ok-state.ensures
