use Rattle.std.proofs.Common.{◌<◌, ◌∙◌, ◌++◌, ◌∷◌, [], List, length, sym, subst, ap}
use Rattle.rx_world.proofs.Regrouped.{entry_at}
use Rattle.rx_world.specs.Holders.{world_in}
use Rattle.rx_world.specs.declared.replication.Replication.{Replication}
use Rattle.rx_sync.specs.Sweep.{by_fork}
use Rattle.rx_sync.proofs.SweepOrders.{next_fork}
use Rattle.rx_sync.proofs.sweeping.forks_in_order.Goals as goal

pub loop-at-preserved : goal.loop-at-preserved
loop-at-preserved g c =
    let w = world_in g.H.Holder.held c.args.world.now in
    let at = c.loop-at.at in
    let inside : at < length w.collections =
    subst (λ n. at < n) c.len-at-end.ensures.count c.loop-at-test.true in
    let here = entry_at w.collections at inside in
    let one = by_fork w.replications (here.0.0 ∷ []) in
    c.in_ok-add_fork.ensures here.0 here.1
    ∙ ap (λ (list : List Replication). list ++ one) c.loop-at.invariant
    ∙ sym (next_fork w.replications w.collections at here.0 here.1)
