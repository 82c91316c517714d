-- A clause within, as it is held.
use Rattle.std.proofs.Common.{◌≡◌, Vec, Global, rules}
use Rattle.rx_selector.specs.Tree.{all, clause_view, clauses_view}
use Rattle.rx_selector.specs.declared.tree.Clause.{Clause, All, the_lemmas}

-- a selector in a list is all its members
pub view-All : (cs : Vec Clause Global) → clause_view (All cs) ≡ all (clauses_view cs.items)
view-All cs = search (rules, the_lemmas)
