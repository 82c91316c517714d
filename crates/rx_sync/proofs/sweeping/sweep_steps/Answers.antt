use Rattle.std.proofs.Common.{◌≡◌, ◌∙◌, ◌++◌, Bor, List, ℕ, length, map, ap}
use Rattle.rx_tree.specs.Orders.{levels_down, levels_up}
use Rattle.rx_world.specs.Holders.{world_in}
use Rattle.rx_reply.specs.declared.swept.Pass.TheVariants.{Down, Up}
use Rattle.rx_world.specs.declared.replication.Replication.{Replication}
use Rattle.rx_sync.specs.Sweep.{forks_among, forks_in, steps_of}
use Rattle.rx_sync.specs.declared.sweeping.Step.{Step}
use Rattle.rx_sync.proofs.SweepOrders.{forks_are}
use Rattle.rx_sync.proofs.sweeping.sweep_steps.Goals as goal

pub returns : goal.returns
returns g c =
    let w = world_in g.H.Holder.held c.args.world.now in
    let rs = w.replications in
    let root = c.args.root.now in
    let forks : forks_among (map (λ r. r.now) c.in_ok-forks.forks.items) ≡ forks_in w =
    ap forks_among c.in_ok-forks.ensures.order
    ∙ forks_are w c.in_ok-forks.ensures.made in
    let up : map (λ t. t.now) c.as_slice-3.result.now ≡ levels_up (forks_in w) (length rs) root =
    ap (λ ts. map (λ t. t.now) ts) c.as_slice-3.ensures.value
    ∙ c.in_ok-up.ensures
    ∙ ap (λ f. levels_up f c.replications.result root) (seen c.as_slice.ensures.value ∙ forks)
    ∙ ap (λ n. levels_up (forks_in w) n root) c.replications.ensures in
    let down : map (λ t. t.now) c.as_slice-4.result.now
    ≡ levels_down (forks_in w) (length rs) root =
    ap (λ ts. map (λ t. t.now) ts) c.as_slice-4.ensures.value
    ∙ c.in_ok-down.ensures
    ∙ ap (λ f. levels_down f c.replications-2.result root) (seen c.as_slice-2.ensures.value ∙ forks)
    ∙ ap (λ n. levels_down (forks_in w) n root) c.replications-2.ensures in
    c.in_ok-add_steps-2.ensures
    ∙ ap (λ (steps : List Step).
    steps ++ steps_of rs Down (map (λ t. t.now) c.as_slice-4.result.now))
    (c.in_ok-add_steps.ensures
    ∙ ap (λ (steps : List Step). steps ++ steps_of rs Up (map (λ t. t.now) c.as_slice-3.result.now))
    c.in_ok-steps.ensures.items
    ∙ ap (steps_of rs Up) up)
    ∙ ap (λ (forks : List (List ℕ)). steps_of rs Up (levels_up (forks_in w) (length rs) root)
    ++ steps_of rs Down forks) down
  where
    -- a list lent
    seen : {lent own : List (Bor Replication)} → lent ≡ own
        → forks_among (map (λ r. r.now) lent) ≡ forks_among (map (λ r. r.now) own)
    seen same = ap (λ rs. forks_among (map (λ r. r.now) rs)) same
