use Rattle.std.proofs.Common.{ℕ, ◌-◌, [], ◌∷◌, ◌++◌, List, map, refl, sym, ap, ◌∙◌, arith}
use Rattle.std.specs.List.{flat_map}
use Rattle.rx_tree.specs.Orders.{levels_up}
use Rattle.rx_value.proofs.Lists.{ended}
use Rattle.rx_sync.specs.Sweep.{forks_among}
use Rattle.rx_sync.proofs.SweepOrders.{levels_up-more}
use Rattle.rx_sync.proofs.sweeping.+levels_up.Goals as goal

pub returns : goal.returns
returns t c =
    let forks = map (λ r. r.now) c.args.forks.now in
    let items = c.deref-fork-items.result.now in
    let below : List ℕ → List (List ℕ) =
    λ n. levels_up (forks_among forks) (c.args.levels - 1) n ++ n ∷ [] in
    ended (λ ts. flat_map below (map (λ t. t.now) ts)) items c.loop-fork.fork-index
    (map (λ t. t.now) c.loop-fork.order.items) (flat_map below (map (λ t. t.now) items)) refl
    c.loop-fork-test.false (sym c.loop-fork.invariant)
    ∙ ap (λ ts. flat_map below (map (λ t. t.now) ts)) c.deref-fork-items.ensures.value
    ∙ ap (flat_map below) c.in_ok-followers.ensures
    ∙ levels_up-more c.args.levels (forks_among forks) c.args.name.now (omega arith)
