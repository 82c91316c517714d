use Rattle.std.proofs.Common.{sym, subst}
use Rattle.rx_value.specs.Due.{Due}
use Rattle.rx_wire.specs.declared.fault.WireFault.TheVariants.{Memory}
use Rattle.rx_wire.proofs.Enough.{reply_told, reply_lawful_if}
use Rattle.rx_wire.proofs.message.Reply.read.Goals as goal

pub returns-clause-exact : goal.returns-clause-exact
returns-clause-exact c =
    subst (Due Memory c.reply_at.result)
    (sym (reply_told c.args.schema.now c.args.line.now)) c.reply_at.ensures

pub returns-clause-lawful : goal.returns-clause-lawful
returns-clause-lawful c =
    reply_lawful_if c.args.schema.now c.args.line.now c.reply_at.result
    (subst (Due Memory c.reply_at.result)
    (sym (reply_told c.args.schema.now c.args.line.now)) c.reply_at.ensures)
