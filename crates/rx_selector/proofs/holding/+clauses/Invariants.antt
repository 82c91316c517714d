use Rattle.std.proofs.Common.{◌≡◌, drop}
use Rattle.rx_selector.specs.Holding.{all_hold, one_holds}
use Rattle.rx_selector.specs.Tree.{clauses_view}
use Rattle.rx_selector.proofs.holding.+clauses.Given as goal

-- the clauses so far hold
abbrev pub invariant-all_hold-loop-clause : goal.invariant-all_hold-loop-clause
invariant-all_hold-loop-clause l =
    all_hold (clauses_view (drop l.clause-index l.clause-items)) l.fields
    ≡ all_hold (clauses_view l.clause-items) l.fields

-- none so far does
abbrev pub invariant-one_holds-loop-clause : goal.invariant-one_holds-loop-clause
invariant-one_holds-loop-clause l =
    one_holds (clauses_view (drop l.clause-index l.clause-items)) l.fields
    ≡ one_holds (clauses_view l.clause-items) l.fields
