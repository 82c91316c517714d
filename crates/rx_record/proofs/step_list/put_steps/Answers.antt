use Rattle.std.proofs.Common.{◌≡◌, List, ℕ, true, ◌++◌, take, ap, sym, ◌∙◌, append_assoc, arith}
use Rattle.rx_value.proofs.Lists.{all_get}
use Rattle.rx_migrate.specs.Step.{is_step}
use Rattle.rx_record.specs.Fields.{all_bytes}
use Rattle.rx_record.specs.Steps.{step_bytes}
use Rattle.rx_record.proofs.Written.{one_more, all_more}
use Rattle.rx_record.proofs.WrittenParts.{StepReadsBack, steps_read_back}
use Rattle.rx_record.proofs.step_list.put_steps.Goals as goal

pub put_step-requires : goal.put_step-requires
put_step-requires c =
    all_get (λ s. is_step s ≡ true) c.args.steps.now c.loop-i.i c.at.result.now
    c.len-i-end.ensures.lawful.each c.at.ensures

pub loop-i-preserved : goal.loop-i-preserved
loop-i-preserved c =
    let steps = c.args.steps.now in
    let step = c.at.result.now in
    let before = c.put_count.new.out.items in
    let front = all_bytes step_bytes (take c.loop-i.i steps) in
    record {
      bytes =
          c.in_ok-put_step.ensures.bytes
          ∙ ap (λ (l : List ℕ). l ++ step_bytes step) c.loop-i.invariant.bytes
          ∙ append_assoc before front (step_bytes step)
          ∙ ap (λ (l : List ℕ). before ++ l)
          (sym (one_more step_bytes steps c.loop-i.i step c.at.ensures));
      back =
          all_more StepReadsBack steps c.loop-i.i step c.at.ensures c.loop-i.invariant.back
          c.in_ok-put_step.ensures.back;
    }

pub returns-clause-back : goal.returns-clause-back
returns-clause-back c =
    steps_read_back c.args.steps.now c.loop-i.i
    (omega (arith, c.loop-i-test.false, c.len-i-end.ensures.count))
    c.len-i-end.ensures.lawful.few c.loop-i.invariant.back
