use Rattle.rx_host.specs.Report.{end_data}
use Rattle.rx_host.proofs.report.add_end.Goals as goal

pub returns : goal.returns
returns c =
    rw (c.in_ok-put_end.ensures.before, c.line_after-writer.ensures.before)
    at c.finish_line.ensures (end_data c.args.end c.args.epoch c.args.records)
    (rw c.line_after-writer.ensures.tokens at c.in_ok-put_end.ensures.tokens)
