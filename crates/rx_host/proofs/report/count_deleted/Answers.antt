use Rattle.std.proofs.Common.{rules, tests}
use Rattle.std.proofs.lemmas.Iterator.Consumers.{YieldsList-from_filter, YieldsList-from_rest, count_from_yields_List}
use Rattle.std.specs.Borrow.{Bor}
use Rattle.rx_document.specs.declared.stored.Stored.{Stored}
use Rattle.rx_host.specs.Report.{is_tombstone}
use Rattle.rx_host.proofs.report.count_deleted.Goals as goal

pub returns : goal.returns
returns c =
    count_from_yields_List c.filter.result c.count.result c.count.ensures.ran
    (YieldsList-from_filter _ is_tombstone
    (YieldsList-from_rest {shows = λ (d : Bor Stored). d.now} c.args.documents
    c.filter.ensures.source) c.filter.ensures.closure (λ x r q k. search (rules, tests)))
