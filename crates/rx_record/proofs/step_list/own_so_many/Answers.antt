use Rattle.std.proofs.Common.{◌≡◌, ◌-◌, [], ◌∷◌, ◌++◌, None, length, ap, sym, ◌∙◌, append-nil, length-append, arith, rules}
use Rattle.rx_record.specs.Reading.{read_or}
use Rattle.rx_record.specs.Steps.{step_bytes, no_name, any_step_of, steps_from}
use Rattle.rx_record.proofs.Lists.{first_read}
use Rattle.rx_record.proofs.StepsOn.{with_front, front_none, front_on, read_on}
use Rattle.rx_record.proofs.step_list.own_so_many.Goals as goal

pub loop-left-init : goal.loop-left-init
loop-left-init c = record {
  read = c.requires.read;
  all = sym (ap (λ ss. with_front ss (steps_from c.args.count None c.args.bytes.now))
      c.new-steps.ensures ∙ front_none _);
  few = omega (arith, c.requires.few, ap length c.new-steps.ensures);
}

pub own_step-requires : goal.own_step-requires
own_step-requires c =
    first_read step_bytes no_name any_step_of c.loop-left.left None c.loop-left.rest.now
    c.loop-left-test.true c.loop-left.invariant.read

pub push-requires : goal.push-requires
push-requires c = record {
  step = c.in_ok-step.ensures.lawful;
  room = omega (arith, c.loop-left.invariant.few, c.loop-left-test.true);
}

pub loop-left-preserved : goal.loop-left-preserved
loop-left-preserved c =
    let step = c.in_ok-step.step in
    let behind = c.in_ok-step.behind.now in
    let pushed : c.push.new.self ≡ c.loop-left.steps ++ step ∷ [] = search rules in
    record {
      read = read_on c.loop-left.left c.loop-left.rest.now step behind c.loop-left-test.true
          c.in_ok-step.ensures.exact c.loop-left.invariant.read;
      all = c.loop-left.invariant.all
          ∙ front_on c.loop-left.left c.loop-left.steps c.loop-left.rest.now step behind
          c.loop-left-test.true c.in_ok-step.ensures.exact
          ∙ ap (λ ss. with_front ss (steps_from (c.loop-left.left - 1) None behind)) (sym pushed);
      few = omega (
        arith,
        c.loop-left.invariant.few,
        c.loop-left-test.true,
        ap length pushed,
        length-append c.loop-left.steps (step ∷ []),
      );
    }

pub returns : goal.returns
returns c =
    let none : c.loop-left.left ≡ 0 = omega (arith, c.loop-left-test.false) in
    sym (ap (read_or []) c.loop-left.invariant.all
    ∙ ap (λ n. read_or [] (with_front c.loop-left.steps (steps_from n None c.loop-left.rest.now)))
    none
    ∙ append-nil c.loop-left.steps)
