use Rattle.std.proofs.Common.{arith, ◌<◌, length}
use Rattle.std.proofs.lemmas.Bool.{OnTrue_from}
use Rattle.rx_journal.proofs.Begun.{closed_begun}
use Rattle.rx_journal.proofs.first.has_closed.Goals as goal

pub returns-clause-yes : goal.returns-clause-yes
returns-clause-yes c =
    let long : 8 < length c.args.bytes.now = omega (arith, c.if-bytes-le8.false) in
    OnTrue_from c.begins_first.result _
    (λ is. closed_begun c.args.bytes.now long c.if-bytes-eq-OPEN_GATE.false
    (c.begins_first.ensures.0 is))
