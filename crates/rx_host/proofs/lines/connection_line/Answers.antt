use Rattle.rx_host.specs.Connections.{connection_data}
use Rattle.rx_host.proofs.lines.connection_line.Goals as goal

pub returns : goal.returns
returns c =
    rw (
      c.in_ok-put_connection.ensures.before,
      c.line_after-writer.ensures.before,
      c.new.ensures.bytes,
    )
    at c.finish_line.ensures (connection_data c.args.number c.args.ended.now)
    (rw c.line_after-writer.ensures.tokens at c.in_ok-put_connection.ensures.tokens)
