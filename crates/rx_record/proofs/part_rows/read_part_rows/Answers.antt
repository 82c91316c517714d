use Rattle.std.proofs.Common.{arith}
use Rattle.rx_record.proofs.Numbers.{behind_count}
use Rattle.rx_record.proofs.Skipped.{part_rows_lent}
use Rattle.rx_record.proofs.part_rows.read_part_rows.Goals as goal

pub slice_bounds-lent-count : goal.slice_bounds-lent-count
slice_bounds-lent-count c =
    (part_rows_lent c.in_ok-count.rows.now c.in_ok-rest.rest.now c.in_ok-count.count
    (behind_count c.args.bytes.now c.in_ok-count.count c.in_ok-count.rows.now
    (λ i. let small = c.type_inv.bytes i in omega (arith, small)) c.in_ok-count.ensures)
    c.in_ok-rest.ensures).within

pub invariant_of-lent : goal.invariant_of-lent
invariant_of-lent c = record {
  whole =
      (part_rows_lent c.in_ok-count.rows.now c.in_ok-rest.rest.now c.in_ok-count.count
      (behind_count c.args.bytes.now c.in_ok-count.count c.in_ok-count.rows.now
      (λ i. let small = c.type_inv.bytes i in omega (arith, small)) c.in_ok-count.ensures)
      c.in_ok-rest.ensures).whole;
}

pub returns : goal.returns
returns c =
    let lent = part_rows_lent c.in_ok-count.rows.now c.in_ok-rest.rest.now c.in_ok-count.count
    (behind_count c.args.bytes.now c.in_ok-count.count c.in_ok-count.rows.now
    (λ i. let small = c.type_inv.bytes i in omega (arith, small)) c.in_ok-count.ensures)
    c.in_ok-rest.ensures in
    rw c.in_ok-count.ensures lent.exact
