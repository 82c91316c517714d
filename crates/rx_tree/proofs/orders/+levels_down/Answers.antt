use Rattle.std.proofs.Common.{ℕ, ◌-◌, ◌∷◌, List, refl, sym, ap, ◌∙◌, arith}
use Rattle.std.specs.List.{flat_map}
use Rattle.rx_value.proofs.Lists.{ended}
use Rattle.rx_tree.specs.Orders.{forks_of, levels_down}
use Rattle.rx_tree.proofs.Levels.{levels_down-more}
use Rattle.rx_tree.proofs.orders.+levels_down.Goals as goal

pub returns : goal.returns
returns t c =
    let es = c.args.forks.now in
    let items = c.deref-fork-items.result.now in
    let below : ℕ → List ℕ = λ n. n ∷ levels_down (forks_of es) (c.args.levels - 1) n in
    ended (flat_map below) items c.loop-fork.fork-index c.loop-fork.order.items
    (flat_map below items) refl c.loop-fork-test.false (sym c.loop-fork.invariant)
    ∙ ap (flat_map below) (c.deref-fork-items.ensures.value ∙ c.in_ok-forks_of.ensures)
    ∙ levels_down-more c.args.levels es c.args.collection (omega arith)
