use Rattle.std.proofs.Common.{map, sym, ap, subst}
use Rattle.std.specs.List.{IsDistinct}
use Rattle.std.specs.Str.{bytes_eq}
use Rattle.rx_replication.proofs.Distinct.{differences_differ}
use Rattle.rx_fork.proofs.fork.Fork.page_plan.Goals as goal

pub returns-clause-apart : goal.returns-clause-apart
returns-clause-apart c =
    subst (IsDistinct bytes_eq) (sym (ap (map (λ s. s.key)) c.in_ok-differences.ensures))
    (differences_differ c.args.collection.now.documents c.args.states.now c.requires)
