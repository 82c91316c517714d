use Rattle.std.proofs.Common.{◌≡◌, map, drop}
use Rattle.rx_selector.specs.Tree.{clauses_view}
use Rattle.rx_query.specs.QuerySpec.{asked}
use Rattle.rx_planner.specs.Exact.{all_told}
use Rattle.rx_planner.proofs.exact.all_told.Given as goal

-- the clauses so far are told
abbrev pub invariant-loop-clause : goal.invariant-loop-clause
invariant-loop-clause l =
    all_told (asked l.query) (map (λ f. f.now) l.path) (clauses_view l.clauses)
    ≡ all_told (asked l.query) (map (λ f. f.now) l.path)
    (clauses_view (drop l.clause-index l.clauses))
