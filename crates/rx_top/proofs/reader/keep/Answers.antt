use Rattle.std.proofs.Common.{◌∙◌, ◌++◌, ap, arith}
use Rattle.rx_top.proofs.Ends.{kept_split}
use Rattle.rx_top.proofs.reader.keep.Goals as goal

pub returns-clause-kept : goal.returns-clause-kept
returns-clause-kept c =
    c.in_ok-extend_from_slice.ensures.items
    ∙ ap (λ v. c.args.line.now.items ++ v) c.split_at.ensures.front
    ∙ kept_split c.args.line.now.items c.args.bytes.now c.min.result (omega arith) (omega arith)
