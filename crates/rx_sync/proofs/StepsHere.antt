-- Each replication of a tree has its master in the same journal.
use Rattle.std.proofs.Common.{◌≡◌, ℕ, suc, List, [], ◌∷◌, length, Some}
use Rattle.std.proofs.lemmas.Slice.Eq.{bytes_eq-Decides}
use Rattle.std.specs.List.{AllByRecursion}
use Rattle.std.specs.Str.{bytes_eq}
use Rattle.rx_value.proofs.Outcomes.{some_then}
use Rattle.rx_reply.specs.declared.swept.Pass.{Pass}
use Rattle.rx_reply.specs.declared.swept.Pass.TheVariants.{Up, Down}
use Rattle.rx_tree.specs.Forest.{climbed, master_of}
use Rattle.rx_tree.specs.Orders.{levels_down, levels_up}
use Rattle.rx_tree.proofs.Walks.{all_both, down_below, up_below}
use Rattle.rx_world.specs.Chain.{forest_of}
use Rattle.rx_world.specs.Made.{IsMadeWorld}
use Rattle.rx_world.specs.World.{World}
use Rattle.rx_sync.specs.Laws.{HasMasterHere}
use Rattle.rx_sync.specs.Sweep.{forks_in, replication_of, steps_of, sweep_steps}
use Rattle.rx_sync.specs.declared.sweeping.Step.{Step}
use Rattle.rx_sync.proofs.Forks.{are_forks, found_in}

module _ (w : World) (made : IsMadeWorld w) (root : List ℕ) where
  here_below : (c : List ℕ) (j : ℕ)
      → climbed bytes_eq (suc j) (forest_of w.replications) c ≡ Some root
      → HasMasterHere w (replication_of w.replications c)
  here_below c j way =
      let found = some_then (master_of bytes_eq (forest_of w.replications) c)
      (climbed bytes_eq j (forest_of w.replications)) root way in
      let f = found_in w made c found.0 found.1 in
      record { replication = f.replication; held = f.held; master = found.0; local = f.local }

  all_here : (pass : Pass) (cs : List (List ℕ))
      → AllByRecursion (λ x.
      (j : ℕ) × (climbed bytes_eq (suc j) (forest_of w.replications) x ≡ Some root)) cs
      → AllByRecursion (λ (step : Step). HasMasterHere w step.name)
      (steps_of w.replications pass cs)
  all_here pass [] all = tt
  all_here pass (c ∷ cs) all = (here_below c all.0.0 all.0.1, all_here pass cs all.1)

  pub steps_here : AllByRecursion (λ (step : Step). HasMasterHere w step.name) (sweep_steps w root)
  steps_here =
      let es = forest_of w.replications in
      let levels = length w.replications in
      let up = levels_up (forks_in w) levels root in
      let down = levels_down (forks_in w) levels root in
      all_both (λ (step : Step). HasMasterHere w step.name) (steps_of w.replications Up up)
      (steps_of w.replications Down down)
      (all_here Up up
      (up_below bytes_eq bytes_eq-Decides es (forks_in w) (are_forks w made) levels root))
      (all_here Down down
      (down_below bytes_eq bytes_eq-Decides es (forks_in w) (are_forks w made) levels root))
