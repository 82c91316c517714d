use Rattle.std.proofs.Common.{◌≡◌, ◌∙◌, length, get_or, ap, arith}
use Rattle.rx_runs.proofs.Chunks.{length_more}
use Rattle.rx_runs.proofs.Places.{found_in}
use Rattle.rx_runs.proofs.pairs.pair_in.Goals as goal

pub returns-then-left-pairs-clause-found : goal.returns-then-left-pairs-clause-found
returns-then-left-pairs-clause-found g c =
    found_in c.args.chunks.now c.loop-chunk.chunk-index c.loop-chunk.left c.args.i
    c.chunk-item.result c.pairs-pairs.result.now c.index-pairs-left.result c.loop-chunk-test.true
    (c.pairs-pairs.ensures.value ∙ ap (λ p. p.1) c.chunk-item.is)
    c.if-left-pairs.true c.index-pairs-left.is c.loop-chunk.invariant

pub loop-chunk-preserved : goal.loop-chunk-preserved
loop-chunk-preserved g c =
    let cs = c.args.chunks.now in
    let i = c.loop-chunk.chunk-index in
    let d = c.chunk-item.result in
    let one : length c.pairs-pairs.result.now ≡ length (get_or cs i d).1 =
    ap length (c.pairs-pairs.ensures.value ∙ ap (λ p. p.1) c.chunk-item.is) in
    let more = length_more cs i d c.loop-chunk-test.true in omega arith
