use Rattle.std.proofs.Common.{ℕ, ◌+◌, ◌-◌, arith}
use Rattle.core.proofs.cmp.Settled.{at_once, fewer, up_to_lem, word}
use Rattle.rx_value.proofs.comparing.halves.Goals as goal

-- the first halves differ
pub returns-then-x-y : goal.returns-then-x-y
returns-then-x-y c =
    let xs = c.args.a.now in
    let ys = c.args.b.now in
    let front = word xs ys c.type_inv.a c.type_inv.b 0 4 _ _ (omega arith) (omega arith)
    c.half-x.ensures.value c.half-y.ensures.value (λ k l m. absurd (omega arith)) in
    at_once xs ys 4 _ _ _ front c.if-x-y.true

-- or the last decide
pub returns : goal.returns
returns c =
    let xs = c.args.a.now in
    let ys = c.args.b.now in
    let n : ℕ = c.args.n in
    let read = word xs ys c.type_inv.a c.type_inv.b in
    let front = read 0 4 _ _ (omega arith) (omega arith) c.half-x.ensures.value
    c.half-y.ensures.value (λ k l m. absurd (omega arith)) in
    let before = fewer xs ys (n - 4) 4 (omega arith) (front.alike c.if-x-y.false) in
    up_to_lem xs ys (n - 4 + 4) n _ _ (omega arith)
    (read (n - 4) 4 _ _ (omega arith) (omega arith) c.half-x_last.ensures.value
    c.half-y_last.ensures.value before)
