use Rattle.std.proofs.Common.{◌≡◌, drop}
use Rattle.rx_selector.specs.Operand.{operand_among}
use Rattle.rx_selector.specs.Tree.{tests_view}
use Rattle.rx_selector.proofs.operand.operand_among.Given as goal

-- the operand is the first of the tests that are left
abbrev pub invariant-loop-test : goal.invariant-loop-test
invariant-loop-test l =
    operand_among l.which (tests_view (drop l.test-index l.tests))
    ≡ operand_among l.which (tests_view l.tests)
