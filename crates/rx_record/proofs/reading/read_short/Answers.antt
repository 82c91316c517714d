use Rattle.std.proofs.Common.{◌≤◌, length, arith, w16}
use Rattle.rx_record.proofs.Numbers.{number_read, number_short}
use Rattle.rx_record.proofs.reading.read_short.Goals as goal

pub returns-in-Some : goal.returns-in-Some
returns-in-Some c =
    let long : 2 ≤ length c.args.bytes.now = omega (arith, c.in-Some.ensures.cases) in
    let read = number_read w16 c.args.bytes.now long in
    cc (read, c.from_be_bytes.ensures, c.in-Some.ensures.cases.0, c.in-Some.ensures.cases.1)

pub returns-in-None : goal.returns-in-None
returns-in-None c = number_short w16 c.args.bytes.now c.in-None.ensures.cases
