use Rattle.std.proofs.Common.{subst, sym}
use Rattle.rx_value.specs.Due.{DueBy}
use Rattle.rx_update.specs.Reading.{Under, operations_in}
use Rattle.rx_update.specs.declared.fault.UpdateFault.TheVariants.{Memory}
use Rattle.rx_update.proofs.reading.read_operations.Goals as goal

pub returns-in-None-clause-exact : goal.returns-in-None-clause-exact
returns-in-None-clause-exact c =
    let read = subst (λ (u : Under). DueBy Memory (λ v. v.items) c.read_operands.result
    (operations_in c.args.primary.now u)) c.of.ensures c.read_operands.ensures.exact in
    rw (sym c.first_unexpected.ensures) (rw c.in-None.is read)
