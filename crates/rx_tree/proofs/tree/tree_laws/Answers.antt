use Rattle.std.proofs.lemmas.Bool.Decides.{Decides-eqb}
use Rattle.std.specs.Prelude.{◌==◌}
use Rattle.rx_tree.proofs.Depth.{few}
use Rattle.rx_tree.proofs.Forests.{reached, no_fork, below, meets}
use Rattle.rx_tree.proofs.Listed.{down_lists, up_lists}
use Rattle.rx_tree.proofs.OneRoot.{one_root}
use Rattle.rx_tree.proofs.tree.tree_laws.Goals as goal

pub returns-clause-one_root : goal.returns-clause-one_root
returns-clause-one_root c = one_root ◌==◌ Decides-eqb

pub returns-clause-reached : goal.returns-clause-reached
returns-clause-reached c = reached ◌==◌ Decides-eqb

pub returns-clause-no_fork : goal.returns-clause-no_fork
returns-clause-no_fork c = no_fork ◌==◌ Decides-eqb

pub returns-clause-below : goal.returns-clause-below
returns-clause-below c = below ◌==◌ Decides-eqb

pub returns-clause-few : goal.returns-clause-few
returns-clause-few c = few ◌==◌ Decides-eqb

pub returns-clause-joined : goal.returns-clause-joined
returns-clause-joined c = meets ◌==◌ Decides-eqb

pub returns-clause-up : goal.returns-clause-up
returns-clause-up c = up_lists

pub returns-clause-down : goal.returns-clause-down
returns-clause-down c = down_lists
