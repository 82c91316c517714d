use Rattle.std.proofs.Common.{arith}
use Rattle.rx_record.proofs.Skipped.{fields_lent}
use Rattle.rx_record.proofs.pairs.read_fields.Goals as goal

pub slice_bounds-result-count : goal.slice_bounds-result-count
slice_bounds-result-count c =
    (fields_lent c.args.bytes.now c.in_ok-count.pairs.now c.in_ok-rest.rest.now c.in_ok-count.count
    (λ i. let small = c.type_inv.bytes i in omega (arith, small)) c.in_ok-count.ensures
    c.in_ok-rest.ensures).within

pub returns : goal.returns
returns c =
    let lent = fields_lent c.args.bytes.now c.in_ok-count.pairs.now c.in_ok-rest.rest.now
    c.in_ok-count.count
    (λ i. let small = c.type_inv.bytes i in omega (arith, small)) c.in_ok-count.ensures
    c.in_ok-rest.ensures in
    record { exact = lent.exact; whole = lent.whole }
