-- Which collection may follow which master.
use Rattle.std.specs.Prelude.{◌≡◌, ℕ, List, [], ◌∷◌, Bool, true, not, ◌&&◌}
use Rattle.std.specs.List.{list_any}
use Rattle.std.specs.Map.{values_of}
use Rattle.std.specs.Str.{bytes_eq}
use Rattle.rx_record.specs.declared.record.MasterName.{MasterName}
use Rattle.rx_record.specs.declared.record.MasterName.TheVariants.{Local, Port}
use Rattle.rx_tree.specs.Forest.{root_of, is_forest}
use Rattle.rx_world.specs.World.{Replications}
use Rattle.rx_world.specs.declared.replication.Replication.{Replication}

-- the collection is the replication's fork
abbrev pub has_fork : List ℕ → Replication → Bool
has_fork name r = bytes_eq r.fork name

-- it is a fork
abbrev pub is_fork : List ℕ → Replications → Bool
is_fork name rs = list_any (has_fork name) (values_of rs)

-- forks with their masters, which are in this journal
abbrev pub Forks : Type 0
Forks = List (List ℕ × List ℕ)

-- a fork before others, where its master is in this journal
abbrev pub fork_before : List ℕ → MasterName → Forks → Forks
fork_before fork (Local master) es = (fork, master) ∷ es
fork_before fork (Port port) es = es

-- the forks of replications, in the order of making
abbrev pub local_forks : List Replication → Forks
local_forks [] = []
local_forks (r ∷ rs) = fork_before r.fork r.master (local_forks rs)

-- those of a world
abbrev pub forest_of : Replications → Forks
forest_of rs = local_forks (values_of rs)

-- each could follow its master among those before it
abbrev pub IsForest : Replications → Type 0
IsForest rs = is_forest bytes_eq (forest_of rs) ≡ true

-- the root of a collection's tree: where going from a fork to its master ends
abbrev pub tree_root : Replications → List ℕ → List ℕ
tree_root rs name = root_of bytes_eq (forest_of rs) name

-- A collection may follow a master if it is no fork yet, and the master is at a port, or is a
-- collection from which going from a fork to its master doesn't end at this one.
abbrev pub may_follow : Replications → List ℕ → MasterName → Bool
may_follow rs fork (Local master) =
    not (is_fork fork rs) && not (bytes_eq (tree_root rs master) fork)
may_follow rs fork (Port port) = not (is_fork fork rs)
