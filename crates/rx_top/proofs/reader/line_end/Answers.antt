use Rattle.rx_serve.proofs.Feeds.{none_within, some_within}
use Rattle.rx_top.proofs.reader.line_end.Goals as goal

pub returns-clause-none : goal.returns-clause-none
returns-clause-none c = none_within c.args.bytes.now c.memchr.result c.memchr.ensures

pub returns-clause-line : goal.returns-clause-line
returns-clause-line c = some_within c.args.bytes.now c.memchr.result c.memchr.ensures
