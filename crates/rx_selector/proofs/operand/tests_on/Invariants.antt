use Rattle.std.proofs.Common.{◌≡◌, drop}
use Rattle.rx_selector.specs.Operand.{tests_on}
use Rattle.rx_selector.specs.Tree.{clauses_view}
use Rattle.rx_selector.proofs.operand.tests_on.Given as goal

-- the member is one of the clauses that are left
abbrev pub invariant-loop-clause : goal.invariant-loop-clause
invariant-loop-clause l =
    tests_on l.name (clauses_view (drop l.clause-index l.clauses))
    ≡ tests_on l.name (clauses_view l.clauses)
