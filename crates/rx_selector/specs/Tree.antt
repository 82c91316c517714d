-- Selectors as trees, whatever memory they lie in.
use Rattle.std.specs.Prelude.{ℕ, ℤ, Bool, List, [], ◌∷◌, map}
use Rattle.rx_value.specs.declared.value.Value.{Value}
use Rattle.rx_selector.specs.declared.selector.Selector.{Selector}
use Rattle.rx_selector.specs.declared.tree.Clause.{Clause as CodeClause, fold-Clause}
use Rattle.rx_selector.specs.declared.tree.Clause.TheOpen.{Clause-F}
use Rattle.rx_selector.specs.declared.tree.Compare.{Compare}
use Rattle.rx_selector.specs.declared.tree.Test.{Test as CodeTest, fold-Test}
use Rattle.rx_selector.specs.declared.tree.Test.TheOpen.{Test-F}

-- what is asked of a field
mutual
  pub data Test : Type 0 where
    compared : Compare → Value → Test
    differs : Value → Test
    one_of : List Value → Test
    none_of : List Value → Test
    exists : Bool → Test
    remainder : ℤ → ℤ → Test
    negated : Tests → Test

  pub data Tests : Type 0 where
    no_tests : Tests
    test : Test → Tests → Tests

-- what is asked of fields: that clauses all hold, that one does, that none does, or tests of one
mutual
  pub data Clause : Type 0 where
    all : Clauses → Clause
    any : Clauses → Clause
    nor : Clauses → Clause
    on_field : List ℕ → Tests → Clause

  pub data Clauses : Type 0 where
    no_clauses : Clauses
    clause : Clause → Clauses → Clauses

-- from a list
abbrev pub tests_of : List Test → Tests
tests_of [] = no_tests
tests_of (t ∷ ts) = test t (tests_of ts)

-- from a list
abbrev pub clauses_of : List Clause → Clauses
clauses_of [] = no_clauses
clauses_of (c ∷ cs) = clause c (clauses_of cs)

-- one level of a test, with those inside already seen so
abbrev pub test_step : Test-F Test → Test
test_step (Test-F.Compared which v) = compared which v
test_step (Test-F.Differs v) = differs v
test_step (Test-F.OneOf vs) = one_of vs.items
test_step (Test-F.NoneOf vs) = none_of vs.items
test_step (Test-F.Exists b) = exists b
test_step (Test-F.Remainder by left) = remainder by left
test_step (Test-F.Not ts) = negated (tests_of ts.items)

-- a test as it is held
abbrev pub test_view : CodeTest → Test
test_view = fold-Test Test test_step

-- tests as they are held
abbrev pub tests_view : List CodeTest → Tests
tests_view ts = tests_of (map test_view ts)

-- one level of a clause, with those inside already seen so
abbrev pub clause_step : Clause-F Clause → Clause
clause_step (Clause-F.All cs) = all (clauses_of cs.items)
clause_step (Clause-F.Any cs) = any (clauses_of cs.items)
clause_step (Clause-F.Nor cs) = nor (clauses_of cs.items)
clause_step (Clause-F.Field name ts) = on_field name (tests_view ts.items)

-- a clause as it is held
abbrev pub clause_view : CodeClause → Clause
clause_view = fold-Clause Clause clause_step

-- clauses as they are held
abbrev pub clauses_view : List CodeClause → Clauses
clauses_view cs = clauses_of (map clause_view cs)

-- what a selector says
abbrev pub selector_clauses : Selector → Clauses
selector_clauses s = clauses_view s.clauses.items
