use Rattle.std.proofs.Common.{IfOk, sym, subst}
use Rattle.rx_migrate.specs.declared.step.Step.{Step}
use Rattle.rx_record.specs.Steps.{step_bytes, step_of}
use Rattle.rx_record.specs.Writable.{ShortReadsBack}
use Rattle.rx_record.proofs.step_list.put_step.Goals as goal

pub returns-in-Rename-clause-back : goal.returns-in-Rename-clause-back
returns-in-Rename-clause-back c =
    subst (λ (s : Step). IfOk c.put_rename.result (λ _. ShortReadsBack step_bytes step_of s))
    (sym c.in-Rename.is) c.put_rename.ensures.back

pub returns-in-Set-clause-back : goal.returns-in-Set-clause-back
returns-in-Set-clause-back c =
    subst (λ (s : Step). IfOk c.put_set.result (λ _. ShortReadsBack step_bytes step_of s))
    (sym c.in-Set.is) c.put_set.ensures.back
