use Rattle.std.proofs.Common.{ap, sym, ◌∙◌}
use Rattle.std.specs.Prelude.{◌==◌}
use Rattle.rx_tree.specs.Forest.{follows}
use Rattle.rx_tree.specs.Orders.{numbers_below}
use Rattle.rx_tree.proofs.Levels.{taken, left}
use Rattle.rx_tree.proofs.orders.forks_of.Goals as goal
use Rattle.rx_tree.proofs.orders.forks_of.Goals.{then-follows+in_ok-push, else-follows}

pub loop-fork-init : goal.loop-fork-init
unfolding numbers_below
loop-fork-init c = c.new-found.ensures.items

pub loop-fork-preserved : goal.loop-fork-preserved
loop-fork-preserved c =
    let test = follows ◌==◌ c.args.forks.now c.args.collection in
    let found = c.loop-fork.found.items in
    elim c.if-follows.branch [
      | then-follows+in_ok-push w ↦
          taken test c.loop-fork.fork found _ c.loop-fork.invariant (sym w.if-follows.ensures)
          (ap (λ v. v.items) w.found-is ∙ w.in_ok-push.ensures.items)
      | else-follows w ↦
          left test c.loop-fork.fork found _ c.loop-fork.invariant (sym w.if-follows.ensures)
          (ap (λ v. v.items) w.found-is)
    ]
