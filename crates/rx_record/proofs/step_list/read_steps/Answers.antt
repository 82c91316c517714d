use Rattle.std.proofs.Common.{arith}
use Rattle.rx_record.proofs.Skipped.{steps_lent}
use Rattle.rx_record.proofs.step_list.read_steps.Goals as goal

pub slice_bounds-result-count : goal.slice_bounds-result-count
slice_bounds-result-count c =
    (steps_lent c.args.bytes.now c.in_ok-count.steps.now c.in_ok-rest.rest.now c.in_ok-count.count
    (λ i. let small = c.type_inv.bytes i in omega (arith, small)) c.in_ok-count.ensures.exact
    c.in_ok-rest.ensures).within

pub returns : goal.returns
returns c =
    (steps_lent c.args.bytes.now c.in_ok-count.steps.now c.in_ok-rest.rest.now c.in_ok-count.count
    (λ i. let small = c.type_inv.bytes i in omega (arith, small)) c.in_ok-count.ensures.exact
    c.in_ok-rest.ensures).exact
