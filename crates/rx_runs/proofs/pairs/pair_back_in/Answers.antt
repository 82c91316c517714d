use Rattle.std.proofs.Common.{◌-◌, arith}
use Rattle.rx_runs.proofs.Places.{found_back_in}
use Rattle.rx_runs.proofs.pairs.pair_back_in.Goals as goal

pub returns-then-left-pairs-clause-found : goal.returns-then-left-pairs-clause-found
returns-then-left-pairs-clause-found g c =
    let within = c.chunks.invariant.within in
    found_back_in c.args.chunks.now (c.chunks.end - 1) c.chunks.end c.chunks.left c.args.i
    c.index-chunks-end.result c.pairs-pairs.result.now c.index-pairs-pairs.result
    (omega arith) (omega arith)
    c.pairs-pairs.ensures.value
    c.if-left-pairs.true c.index-pairs-pairs.is c.chunks.invariant.left
