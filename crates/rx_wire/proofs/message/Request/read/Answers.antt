use Rattle.std.proofs.Common.{sym, subst}
use Rattle.rx_value.specs.Due.{Due}
use Rattle.rx_wire.specs.declared.fault.WireFault.TheVariants.{Memory}
use Rattle.rx_wire.proofs.Enough.{request_told, request_lawful_if}
use Rattle.rx_wire.proofs.message.Request.read.Goals as goal

pub returns-clause-exact : goal.returns-clause-exact
returns-clause-exact c =
    subst (Due Memory c.request_at.result)
    (sym (request_told c.args.schema.now c.args.line.now)) c.request_at.ensures

pub returns-clause-lawful : goal.returns-clause-lawful
returns-clause-lawful c =
    request_lawful_if c.args.schema.now c.args.line.now c.request_at.result
    (subst (Due Memory c.request_at.result)
    (sym (request_told c.args.schema.now c.args.line.now)) c.request_at.ensures)
