use Rattle.std.proofs.Common.{ℕ, List, arith, set, ap, ◌∙◌}
use Rattle.rx_observe.specs.Observing.{cooled}
use Rattle.rx_observe.specs.Watched.{Watched}
use Rattle.rx_observe.proofs.Done.{step-done, end-done}
use Rattle.rx_observe.proofs.live.cool_all.Goals as goal

pub loop-i-preserved : goal.loop-i-preserved
loop-i-preserved c =
    let f : List ℕ × Watched → List ℕ × Watched = λ q. (q.0, cooled q.1) in
    let x = c.index_mut-query.result.now in
    ap (λ o. set c.loop-i.queries.items c.loop-i.i (x.0, o)) c.cool.ensures
    ∙ step-done f c.loop-i.i c.args.queries.now.items c.loop-i.queries.items c.loop-i.invariant x
    c.index_mut-query.ensures.value (omega arith)

pub returns : goal.returns
returns c =
    let f : List ℕ × Watched → List ℕ × Watched = λ q. (q.0, cooled q.1) in
    end-done f c.loop-i.i c.args.queries.now.items c.loop-i.queries.items c.loop-i.invariant
    (omega arith)
