-- Decision diagrams: where answers lead, and which lists of nodes are ordered and reduced.
use Rattle.std.specs.Prelude.{◌≡◌, ◌≢◌, ℕ, zero, suc, ◌-◌, ◌<◌, ◌≤◌, ◌^◌, ◌==◌, ◌||◌, Bool, true, false, if◌then◌else◌, List, length, slice_index_or}
use Rattle.std.specs.List.{list_any}
use Rattle.rx_table.specs.Rows.{table_of}
use Rattle.rx_table.specs.States.{state_count, index_of, is_set}
use Rattle.rx_table.specs.declared.action.Action.TheVariants.{DoNothing}
use Rattle.rx_table.specs.declared.states.StateName.TheVariants.{IsInsert}
use Rattle.rx_diagram.specs.declared.node.Edge.{Edge}
use Rattle.rx_diagram.specs.declared.node.Edge.TheVariants.{Act, To}
use Rattle.rx_diagram.specs.declared.node.Node.{Node}

-- ---- walks

-- the node of a number
abbrev pub node : List Node → ℕ → Node
node ns k = slice_index_or ns k
    (record { state = IsInsert; no = Act DoNothing; yes = Act DoNothing })

-- the number of its question
abbrev pub level : List Node → ℕ → ℕ
level ns k = index_of (node ns k).state

-- a node's edge for an answer
abbrev pub edge_of : Bool → Node → Edge
edge_of answer nd = if answer then nd.yes else nd.no

-- an edge after one more answer, the answers by the numbers of their questions
abbrev pub next : List Node → (ℕ → Bool) → Edge → Edge
next ns answers (Act a) = Act a
next ns answers (To k) = edge_of (answers (level ns k)) (node ns k)

-- after so many
unfoldable pub walk : ℕ → List Node → (ℕ → Bool) → Edge → Edge
walk zero ns answers e = e
walk (suc t) ns answers e = walk t ns answers (next ns answers e)

-- where the answers lead in the end
unfoldable pub final : List Node → (ℕ → Bool) → Edge → Edge
final ns answers e = walk state_count ns answers e

-- the answers in these bits
abbrev pub answers_of : ℕ → ℕ → Bool
answers_of bits i = is_set bits i

-- ---- the diagram

-- the edge leads to that node
abbrev pub is_to : ℕ → Edge → Bool
is_to k (Act a) = false
is_to k (To j) = j == k

-- one of the node's does
abbrev pub leads_to : ℕ → Node → Bool
leads_to k nd = is_to k nd.no || is_to k nd.yes

-- An edge to a node leads to one of a lower number and a later question. No node has two equal
-- edges, and no two nodes are equal.
pub record IsReduced (ns : List Node) : Type 0 where
  pub ordered : (answer : Bool) (j k : ℕ) → j < length ns → edge_of answer (node ns j) ≡ To k
      → (k < j) × (level ns j < level ns k)
  pub two_edges : (j : ℕ) → j < length ns → (node ns j).no ≢ (node ns j).yes
  pub one_node : (j k : ℕ) → j < length ns → k < length ns → node ns j ≡ node ns k → j ≡ k

-- the edge to the last node
abbrev pub root_of : List Node → Edge
root_of ns = To (length ns - 1)

-- The nodes are the table's: reduced, each but the last led to, and from the last one the answers
-- in any bits lead to the table's action.
pub record IsDiagram (ns : List Node) : Type 0 where
  pub some : 0 < length ns
  pub reduced : IsReduced ns
  pub led : (j : ℕ) → suc j < length ns → list_any (leads_to j) ns ≡ true
  pub right : (bits : ℕ) → bits < 2 ^ state_count
      → final ns (answers_of bits) (root_of ns) ≡ Act (table_of bits)

-- the edge leads to an action, or to a node of a question from number i on
abbrev pub From : List Node → ℕ → Edge → Type 0
From ns i (Act a) = Unit {0}
From ns i (To k) = (k < length ns) × (i ≤ level ns k)
