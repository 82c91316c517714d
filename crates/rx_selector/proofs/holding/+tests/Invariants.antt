use Rattle.std.proofs.Common.{◌≡◌, drop, option_map}
use Rattle.rx_selector.specs.Holding.{tests_hold}
use Rattle.rx_selector.specs.Tree.{tests_view}
use Rattle.rx_selector.proofs.holding.+tests.Given as goal

-- the tests so far hold
abbrev pub invariant-tests_hold-loop-test : goal.invariant-tests_hold-loop-test
invariant-tests_hold-loop-test l =
    let field = option_map (λ v. v.now) l.field in
    tests_hold (tests_view (drop l.test-index l.test-items)) field
    ≡ tests_hold (tests_view l.test-items) field
