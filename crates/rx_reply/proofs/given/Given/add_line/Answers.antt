use Rattle.rx_reply.specs.Given.{given_data}
use Rattle.rx_reply.proofs.given.Given.add_line.Goals as goal

pub returns : goal.returns
returns c =
    rw (c.in_ok-put.ensures.before, c.line_after-writer.ensures.before)
    at c.finish_line.ensures (given_data c.args.self.now)
    (rw c.line_after-writer.ensures.tokens at c.in_ok-put.ensures.tokens)
