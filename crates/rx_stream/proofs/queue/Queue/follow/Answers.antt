use Rattle.std.proofs.Common.{◌≡◌, ◌∙◌, ◌-◌, ◌+◌, ◌<◌, Some, sym, ap, arith}
use Rattle.rx_stream.specs.Events.{Queue, followed, next_event}
use Rattle.rx_stream.proofs.Following.{followed_some}
use Rattle.rx_stream.proofs.queue.Queue.follow.Goals as goal

pub loop-preserved : goal.loop-preserved
loop-preserved c =
    let documents = c.args.collection.now.documents in
    let i = c.loop.counter in
    let n = c.len-end.result in
    let q = c.loop.self in
    let before : i < n = c.loop-test.true in
    let next : next_event documents q.end ≡ Some c.in-Some.event =
    sym c.in_ok-event.ensures ∙ c.in-Some.is in
    let pushed = c.in_ok-push-in-Some.ensures in
    ap (λ (q : Queue). followed (n - (i + 1)) documents q) pushed
    ∙ sym (followed_some documents q (n - i) (n - (i + 1)) c.in-Some.event (omega arith) next)
    ∙ c.loop.invariant
