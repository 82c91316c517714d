use Rattle.std.proofs.Common.{ℕ, ◌<◌, None, arith}
use Rattle.rx_record.specs.PartRows.{part_row_bytes, row_place, part_row_of}
use Rattle.rx_record.specs.Views.{part_row_in}
use Rattle.rx_record.proofs.AtEnd.{read_whole}
use Rattle.rx_record.proofs.Lists.{first_read}
use Rattle.rx_record.proofs.Reread.{part_row_free, past, whole_past}
use Rattle.rx_record.proofs.part_views.PartViews.next.Goals as goal

pub part_row_again-requires : goal.part_row_again-requires
part_row_again-requires c =
    let old = c.args.self.now in
    let some : 0 < old.left = omega (arith, c.if-self-eq0.false) in
    first_read part_row_bytes row_place part_row_of old.left None old.bytes.now some
    (read_whole _ old.whole)

pub invariant_of-self : goal.invariant_of-self
invariant_of-self c =
    let old = c.args.self.now in
    let some : 0 < old.left = omega (arith, c.if-self-eq0.false) in
    record {
      whole = whole_past row_place part_row_of part_row_free old.left old.bytes.now
          (part_row_in c.part_row_again.result.0) c.part_row_again.result.1.now some
          c.part_row_again.ensures old.whole;
    }

pub returns-clause-some : goal.returns-clause-some
returns-clause-some c =
    let old = c.args.self.now in
    let some : 0 < old.left = omega (arith, c.if-self-eq0.false) in
    (past row_place part_row_of part_row_free old.left old.bytes.now
    (part_row_in c.part_row_again.result.0) c.part_row_again.result.1.now some
    c.part_row_again.ensures (read_whole _ old.whole)).all
