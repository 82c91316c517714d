use Rattle.std.proofs.Common.{ℕ, ◌<◌, None, arith}
use Rattle.rx_record.specs.Rows.{state_bytes, state_of, state_key}
use Rattle.rx_record.specs.Views.{state_in}
use Rattle.rx_record.proofs.AtEnd.{read_whole}
use Rattle.rx_record.proofs.Lists.{first_read}
use Rattle.rx_record.proofs.Reread.{state_free, past, whole_past}
use Rattle.rx_record.proofs.state_views.StateViews.next.Goals as goal

pub state_again-requires : goal.state_again-requires
state_again-requires c =
    let old = c.args.self.now in
    let some : 0 < old.left = omega (arith, c.if-self-eq0.false) in
    first_read state_bytes state_key state_of old.left None old.bytes.now some
    (read_whole _ old.whole)

pub invariant_of-self : goal.invariant_of-self
invariant_of-self c =
    let old = c.args.self.now in
    let some : 0 < old.left = omega (arith, c.if-self-eq0.false) in
    record {
      whole = whole_past state_key state_of state_free old.left old.bytes.now
          (state_in c.state_again.result.0) c.state_again.result.1.now some
          c.state_again.ensures old.whole;
    }

pub returns-clause-some : goal.returns-clause-some
returns-clause-some c =
    let old = c.args.self.now in
    let some : 0 < old.left = omega (arith, c.if-self-eq0.false) in
    (past state_key state_of state_free old.left old.bytes.now
    (state_in c.state_again.result.0) c.state_again.result.1.now some
    c.state_again.ensures (read_whole _ old.whole)).all
