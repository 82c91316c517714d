use Rattle.std.proofs.Common.{arith}
use Rattle.rx_record.proofs.Skipped.{fields_whole}
use Rattle.rx_record.proofs.again.fields_again.Goals as goal

pub slice_bounds-result-count : goal.slice_bounds-result-count
slice_bounds-result-count c =
    (fields_whole c.args.bytes.now c.behind_fields-rest.result.now
    (λ i. let small = c.type_inv.bytes i in omega (arith, small)) c.behind_fields-rest.ensures).within

pub returns : goal.returns
returns c =
    let lent = fields_whole c.args.bytes.now c.behind_fields-rest.result.now
    (λ i. let small = c.type_inv.bytes i in omega (arith, small)) c.behind_fields-rest.ensures in
    record { exact = lent.exact; whole = lent.whole }
