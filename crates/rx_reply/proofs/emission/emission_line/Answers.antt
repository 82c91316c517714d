use Rattle.rx_reply.specs.Emission.{emission_data, rows_fields}
use Rattle.rx_reply.proofs.emission.emission_line.Goals as goal

pub returns : goal.returns
returns c =
    rw (
      c.in_ok-put_emission.ensures.before,
      c.line_after-writer.ensures.before,
      c.new.ensures.bytes,
    )
    at c.finish_line.ensures (emission_data c.args.name.now (rows_fields c.args.rows.now))
    (rw c.line_after-writer.ensures.tokens at c.in_ok-put_emission.ensures.tokens)
