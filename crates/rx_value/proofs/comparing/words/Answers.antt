use Rattle.std.proofs.Common.{◌+◌, arith}
use Rattle.core.proofs.cmp.Settled.{at_once, fewer, word}
use Rattle.rx_value.proofs.comparing.words.Goals as goal

-- the words at the place differ
pub returns-then-x-y : goal.returns-then-x-y
returns-then-x-y c =
    let xs = c.args.a.now in
    let ys = c.args.b.now in
    let at = c.loop-at.at in
    let read = word xs ys c.type_inv.a c.type_inv.b at 8 _ _ (omega arith) (omega arith)
    c.word-x.ensures c.word-y.ensures c.loop-at.invariant.same in
    at_once xs ys (at + 8) _ _ _ read c.if-x-y.true

-- or they are the same
pub loop-at-preserved : goal.loop-at-preserved
loop-at-preserved c =
    let xs = c.args.a.now in
    let ys = c.args.b.now in
    let at = c.loop-at.at in
    let read = word xs ys c.type_inv.a c.type_inv.b at 8 _ _ (omega arith) (omega arith)
    c.word-x.ensures c.word-y.ensures c.loop-at.invariant.same in
    record { same = read.alike c.if-x-y.false; within = omega arith }

-- and the last word decides
pub returns : goal.returns
returns c =
    let xs = c.args.a.now in
    let ys = c.args.b.now in
    let last = c.args.last in
    let before = fewer xs ys last c.loop-at.at (omega arith) c.loop-at.invariant.same in
    word xs ys c.type_inv.a c.type_inv.b last 8 _ _ (omega arith) (omega arith)
    c.word-x_last.ensures c.word-y_last.ensures before
