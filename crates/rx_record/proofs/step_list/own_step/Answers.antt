use Rattle.std.proofs.Common.{◌≡◌, Ok, ap, sym, ◌∙◌, arith}
use Rattle.rx_record.specs.Steps.{step_of}
use Rattle.rx_record.proofs.StepFormats.{step_format}
use Rattle.rx_record.proofs.step_list.own_step.Goals as goal

pub returns-clause-lawful : goal.returns-clause-lawful
returns-clause-lawful c =
    let step = c.in_ok-own.field-0 in
    let rest = c.in-Ok.rest.now in
    let read : step_of c.args.bytes.now ≡ Ok (step, rest) =
    c.in-Ok.ensures ∙ ap (λ s. Ok (s, rest)) (sym c.in_ok-own.ensures) in
    (step_format.keeps c.args.bytes.now step rest
    (λ i. let small = c.type_inv.bytes i in omega (arith, small)) read).step
