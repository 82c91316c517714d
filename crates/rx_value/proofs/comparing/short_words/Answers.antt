use Rattle.std.proofs.Common.{ℕ, ◌+◌, ◌-◌, ◌*◌, ◌/◌, ◌<◌, get_or, arith}
use Rattle.core.proofs.cmp.Settled.{one, fewer, up_to_lem, joined}
use Rattle.rx_value.proofs.comparing.short_words.Goals as goal

pub returns : goal.returns
returns c =
    let xs = c.args.a.now in
    let ys = c.args.b.now in
    let n : ℕ = c.args.n in
    let read = one xs ys c.type_inv.a c.type_inv.b in
    let a : get_or xs (n / 2) 0 < 256 = (c.type_inv.a (n / 2)).fits in
    let b : get_or ys (n / 2) 0 < 256 = (c.type_inv.b (n / 2)).fits in
    let d : get_or xs (n - 1) 0 < 256 = (c.type_inv.a (n - 1)).fits in
    let e : get_or ys (n - 1) 0 < 256 = (c.type_inv.b (n - 1)).fits in
    let two = joined xs ys 1 (n / 2 + 1) _ _ _ _ (get_or xs 0 0 * 256 + get_or xs (n / 2) 0)
    (get_or ys 0 0 * 256 + get_or ys (n / 2) 0)
    (read 0 (omega arith) (omega arith) (λ k l m. absurd (omega arith)))
    (λ h. read (n / 2) (omega arith) (omega arith) (fewer xs ys (n / 2) 1 (omega arith) h))
    (λ l. omega arith) (λ l. omega arith)
    (λ q. (λ l. omega arith, λ l. omega arith, λ l. omega arith)) in
    joined xs ys (n / 2 + 1) n _ _ _ _ _ _ two (λ h. up_to_lem xs ys (n - 1 + 1) n _ _ (omega arith)
    (read (n - 1) (omega arith) (omega arith) (fewer xs ys (n - 1) (n / 2 + 1) (omega arith) h)))
    (λ l. omega arith) (λ l. omega arith)
    (λ q. (λ l. omega arith, λ l. omega arith, λ l. omega arith))
