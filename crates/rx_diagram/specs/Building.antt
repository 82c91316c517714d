-- What the building of a diagram keeps.
use Rattle.std.specs.Prelude.{◌≡◌, ℕ, suc, ◌+◌, ◌-◌, ◌<◌, ◌≤◌, ◌^◌, ◌%◌, ◌||◌, Bool, true, List, length}
use Rattle.std.specs.List.{list_any}
use Rattle.rx_table.specs.Rows.{table_of}
use Rattle.rx_table.specs.States.{state_count, index_of}
use Rattle.rx_diagram.specs.declared.node.Edge.{Edge}
use Rattle.rx_diagram.specs.declared.node.Edge.TheVariants.{Act, To}
use Rattle.rx_diagram.specs.declared.node.Node.{Node}
use Rattle.rx_diagram.specs.Nodes.{node, edge_of, final, From, answers_of, is_to, leads_to, IsReduced}

-- more nodes than there will ever be
abbrev pub most_nodes : ℕ
most_nodes = 2 ^ 20

-- the node's two edges lead to later questions
pub record IsLater (ns : List Node) (nd : Node) : Type 0 where
  pub later : (answer : Bool) → From ns (suc (index_of nd.state)) (edge_of answer nd)

-- the new nodes begin with the old ones
pub record IsLonger (old new : List Node) : Type 0 where
  pub longer : length old ≤ length new
  pub kept : (j : ℕ) → j < length old → node new j ≡ node old j

-- the edge stands for the node
pub record IsShared (old new : List Node) (nd : Node) (e : Edge) : Type 0 where
  pub grown : IsLonger old new
  pub few : length new ≤ length old + 1
  pub reduced : IsReduced new
  pub from : From new (index_of nd.state) e
  pub gives : (b : ℕ → Bool) → final new b e ≡ final new b (edge_of (b (index_of nd.state)) nd)
  pub led : (answer : Bool) (j : ℕ) → edge_of answer nd ≡ To j
      → (is_to j e || list_any (leads_to j) new) ≡ true
  pub fresh : (j : ℕ) → length old ≤ j → j < length new → is_to j e ≡ true

-- from the edge, the answers from question i on lead to the actions of the numbers whose answers
-- before i are those of k; and each new node is led to, or is where the edge leads
pub record IsBuilt (old new : List Node) (i k : ℕ) (e : Edge) : Type 0 where
  pub grown : IsLonger old new
  pub few : length new + 1 ≤ length old + 2 ^ (19 - i)
  pub reduced : IsReduced new
  pub from : From new i e
  pub right : (n : ℕ) → n < 2 ^ state_count → n % 2 ^ i ≡ k
      → final new (answers_of n) e ≡ Act (table_of n)
  pub led : (j : ℕ) → length old ≤ j → j < length new
      → (is_to j e || list_any (leads_to j) new) ≡ true
