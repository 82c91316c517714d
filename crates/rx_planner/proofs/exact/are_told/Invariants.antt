use Rattle.std.proofs.Common.{◌≡◌, map, drop}
use Rattle.rx_selector.specs.Tree.{tests_view}
use Rattle.rx_query.specs.QuerySpec.{asked}
use Rattle.rx_planner.specs.Exact.{are_told}
use Rattle.rx_planner.proofs.exact.are_told.Given as goal

-- the tests so far are told
abbrev pub invariant-loop-test : goal.invariant-loop-test
invariant-loop-test l =
    are_told (asked l.query) (map (λ f. f.now) l.path) l.name (tests_view l.tests)
    ≡ are_told (asked l.query) (map (λ f. f.now) l.path) l.name
    (tests_view (drop l.test-index l.tests))
