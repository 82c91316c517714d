use Rattle.std.proofs.Common.{◌≡◌, ◌+◌, ◌∙◌, length, get_or, ap, arith}
use Rattle.rx_runs.proofs.Chunks.{length_more, length_front}
use Rattle.rx_runs.proofs.pairs.count.Goals as goal

pub overflow_add-count : goal.overflow_add-count
overflow_add-count g c =
    let cs = c.args.chunks.now in
    let i = c.loop-chunk.chunk-index in
    let d = c.chunk-item.result in
    let one : c.len-count.result ≡ length (get_or cs i d).1 =
    c.len-count.ensures ∙ ap (λ p. length p.1) c.chunk-item.is in
    let more = length_more cs i d c.loop-chunk-test.true in
    let front = length_front cs (i + 1) in omega arith

pub loop-chunk-preserved : goal.loop-chunk-preserved
loop-chunk-preserved g c =
    let cs = c.args.chunks.now in
    let i = c.loop-chunk.chunk-index in
    let d = c.chunk-item.result in
    let one : c.len-count.result ≡ length (get_or cs i d).1 =
    c.len-count.ensures ∙ ap (λ p. length p.1) c.chunk-item.is in
    let more = length_more cs i d c.loop-chunk-test.true in omega arith
