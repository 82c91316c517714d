use Rattle.std.proofs.Common.{◌≡◌}
use Rattle.rx_observe.specs.Watched.{stepped}
use Rattle.rx_observe.proofs.Beside.{Following}
use Rattle.rx_observe.proofs.Done.{done}
use Rattle.rx_observe.proofs.step.step_all.Given as goal

-- the first i queries are after the change, and so are their fronts
abbrev pub invariant-loop-i : goal.invariant-loop-i
invariant-loop-i l = record {
  stepped : l.queries.items
      ≡ done (λ q. (q.0, stepped l.collection.documents l.change q.1)) l.i l.fn.queries.items;
  sides : l.memo.sides ≡ l.change;
  following : Following l.change l.i l.fn.queries.items l.fronts.items l.collection;
}
