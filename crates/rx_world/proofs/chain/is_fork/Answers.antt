use Rattle.std.proofs.Common.{rules, Bool, ap, ◌∙◌}
use Rattle.std.proofs.lemmas.Iterator.Consumers.{YieldsList-from_rest}
use Rattle.std.proofs.lemmas.Iterator.Search.{any_from_yields_List}
use Rattle.std.specs.Borrow.{Bor}
use Rattle.std.specs.List.{list_any}
use Rattle.std.specs.Map.{values_of}
use borrow.Author.Tests.{tests}
use Rattle.rx_world.specs.Chain.{has_fork}
use Rattle.rx_world.specs.declared.replication.Replication.{Replication}
use Rattle.rx_world.proofs.Forks.{values_of-by_bytes}
use Rattle.rx_world.proofs.chain.is_fork.Goals as goal

pub returns : goal.returns
returns c =
    let test : Replication → Bool = has_fork c.args.name.now in
    let es = c.args.replications.now.entries in
    any_from_yields_List test _ _ c.any.result c.any.ensures.ran
    (YieldsList-from_rest {shows = λ (r : Bor Replication). r.now}
    (values_of es) c.values.ensures.rest)
    (λ x b q k. search (rules, tests))
    ∙ ap (list_any test) (values_of-by_bytes es)
