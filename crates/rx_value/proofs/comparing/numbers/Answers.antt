use Rattle.std.proofs.Common.{ℕ, ◌+◌, ◌-◌, arith}
use Rattle.core.proofs.cmp.Settled.{up_to_lem}
use Rattle.rx_value.proofs.comparing.numbers.Goals as goal

pub returns : goal.returns
returns c =
    let n : ℕ = c.args.n in
    up_to_lem c.args.a.now c.args.b.now (n - 8 + 8) n _ _ (omega arith) c.words.ensures
