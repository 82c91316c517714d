use Rattle.std.proofs.Common.{ℕ, ◌<◌, None, arith, sym}
use Rattle.rx_value.specs.Fields.{Pair}
use Rattle.rx_record.specs.Fields.{pair_bytes, pair_of}
use Rattle.rx_record.specs.Views.{pair_in}
use Rattle.rx_record.proofs.Lists.{first_read}
use Rattle.rx_record.proofs.Reread.{pair_free, past}
use Rattle.rx_record.proofs.pair_views.PairViews.next.Goals as goal

pub pair_again-requires : goal.pair_again-requires
pair_again-requires c =
    let old = c.args.self.now in
    let some : 0 < old.left = omega (arith, c.if-self-eq0.false) in
    first_read pair_bytes (λ (p : Pair). p.0) pair_of old.left None old.bytes.now some
    old.read

pub invariant_of-self : goal.invariant_of-self
invariant_of-self c =
    let old = c.args.self.now in
    let some : 0 < old.left = omega (arith, c.if-self-eq0.false) in
    let next = past (λ (p : Pair). p.0) pair_of pair_free old.left old.bytes.now
    (pair_in c.pair_again.result.0) c.pair_again.result.1.now some
    c.pair_again.ensures old.read in
    record { read = next.read }

pub returns-clause-some : goal.returns-clause-some
returns-clause-some c =
    let old = c.args.self.now in
    let some : 0 < old.left = omega (arith, c.if-self-eq0.false) in
    (past (λ (p : Pair). p.0) pair_of pair_free old.left old.bytes.now
    (pair_in c.pair_again.result.0) c.pair_again.result.1.now some
    c.pair_again.ensures old.read).all

pub returns-clause-end : goal.returns-clause-end
returns-clause-end c =
    let old = c.args.self.now in
    let some : 0 < old.left = omega (arith, c.if-self-eq0.false) in
    sym (past (λ (p : Pair). p.0) pair_of pair_free old.left old.bytes.now
    (pair_in c.pair_again.result.0) c.pair_again.result.1.now some
    c.pair_again.ensures old.read).end
