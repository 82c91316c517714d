use Rattle.std.proofs.Common.{length, ap, arith}
use Rattle.rx_runs.proofs.Joined.{length_between}
use Rattle.rx_runs.proofs.run.Run.count_between.Goals as goal

-- at most all
pub returns-then-len-eq0 : goal.returns-then-len-eq0
returns-then-len-eq0 g c =
    let least = length_between c.args.low.now c.args.high.now c.args.self.now in omega arith

pub len-requires-2 : goal.len-requires-2
len-requires-2 g c =
    let least = length_between c.args.low.now c.args.high.now c.args.self.now in
    let same = ap length c.between.ensures.value in omega arith
