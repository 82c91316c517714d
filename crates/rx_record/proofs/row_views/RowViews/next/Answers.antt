use Rattle.std.proofs.Common.{ℕ, ◌<◌, None, arith}
use Rattle.rx_record.specs.Rows.{row_bytes, row_of, key_of}
use Rattle.rx_record.specs.Views.{row_in}
use Rattle.rx_record.proofs.AtEnd.{read_whole}
use Rattle.rx_record.proofs.Lists.{first_read}
use Rattle.rx_record.proofs.Reread.{row_free, past, whole_past}
use Rattle.rx_record.proofs.row_views.RowViews.next.Goals as goal

pub row_again-requires : goal.row_again-requires
row_again-requires c =
    let old = c.args.self.now in
    let some : 0 < old.left = omega (arith, c.if-self-eq0.false) in
    first_read row_bytes key_of row_of old.left None old.bytes.now some
    (read_whole _ old.whole)

pub invariant_of-self : goal.invariant_of-self
invariant_of-self c =
    let old = c.args.self.now in
    let some : 0 < old.left = omega (arith, c.if-self-eq0.false) in
    record {
      whole = whole_past key_of row_of row_free old.left old.bytes.now
          (row_in c.row_again.result.0) c.row_again.result.1.now some
          c.row_again.ensures old.whole;
    }

pub returns-clause-some : goal.returns-clause-some
returns-clause-some c =
    let old = c.args.self.now in
    let some : 0 < old.left = omega (arith, c.if-self-eq0.false) in
    (past key_of row_of row_free old.left old.bytes.now
    (row_in c.row_again.result.0) c.row_again.result.1.now some
    c.row_again.ensures (read_whole _ old.whole)).all
