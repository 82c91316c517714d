-- How what is asked for is told apart: clauses go as the steps that build them.
use Rattle.std.proofs.Common.{◌≡◌, ◌⊎◌, inl, inr, ℕ, ℤ, Bool, ◌==◌, cond, List, [], ◌∷◌, drop, Option, ap, ◌∙◌, refl}
use Rattle.std.specs.Coded.{Coded, code_by, coded×, coded⊎, coded_list, coded_option, coded_ℕ, coded_ℤ, coded_bool}
use Rattle.rx_value.specs.contracts.value.Value as value
use Rattle.rx_value.specs.declared.value.Value.{Value}
use Rattle.rx_selector.specs.Tree.{Test, Tests, Clause, Clauses, compared, differs, one_of, none_of, exists, remainder, negated, no_tests, test, all, any, nor, on_field, no_clauses, clause}
use Rattle.rx_selector.specs.contracts.tree.Compare as compare
use Rattle.rx_selector.specs.declared.tree.Compare.{Compare}
use Rattle.rx_query.specs.QuerySpec.{QuerySpec, Sorts}

-- a test that holds no others
abbrev Leaf : Type 0
Leaf = (Compare × Value) ⊎ (Value ⊎ (List Value ⊎ (List Value ⊎ (Bool ⊎ (ℤ × ℤ)))))

-- and what it is
abbrev leaf_test : Leaf → Test
leaf_test (inl p) = compared p.0 p.1
leaf_test (inr (inl v)) = differs v
leaf_test (inr (inr (inl vs))) = one_of vs
leaf_test (inr (inr (inr (inl vs)))) = none_of vs
leaf_test (inr (inr (inr (inr (inl b))))) = exists b
leaf_test (inr (inr (inr (inr (inr p))))) = remainder p.0 p.1

-- a step: one by its number, a test put in front of others, or clauses on a field of that name
abbrev Step : Type 0
Step = ℕ ⊎ (Leaf ⊎ List ℕ)

-- what has been built, the last one in front
abbrev Built : Type 0
Built = List Tests × List Clauses

-- the tests built last
abbrev last_tests : List Tests → Tests
last_tests [] = no_tests
last_tests (ts ∷ tss) = ts

-- the clauses built last
abbrev last_clauses : List Clauses → Clauses
last_clauses [] = no_clauses
last_clauses (cs ∷ css) = cs

-- a test in front of the tests built last
abbrev and_test : Test → List Tests → List Tests
and_test t tss = test t (last_tests tss) ∷ drop 1 tss

-- a clause in front of the clauses built last
abbrev and_clause : Clause → List Clauses → List Clauses
and_clause c css = clause c (last_clauses css) ∷ drop 1 css

-- what a step makes of that
abbrev built_by : Step → Built → Built
built_by (inl n) b =
    cond (n == 0) (no_tests ∷ b.0, b.1)
    (cond (n == 1) (and_test (negated (last_tests b.0)) (drop 1 b.0), b.1)
    (cond (n == 2) (b.0, no_clauses ∷ b.1)
    (cond (n == 3) (b.0, and_clause (all (last_clauses b.1)) (drop 1 b.1))
    (cond (n == 4) (b.0, and_clause (any (last_clauses b.1)) (drop 1 b.1))
    (b.0, and_clause (nor (last_clauses b.1)) (drop 1 b.1))))))
built_by (inr (inl leaf)) b = (and_test (leaf_test leaf) b.0, b.1)
built_by (inr (inr name)) b = (drop 1 b.0, and_clause (on_field name (last_tests b.0)) b.1)

-- and what steps make of it, one after another
abbrev built : List Step → Built → Built
built [] b = b
built (s ∷ ss) b = built ss (built_by s b)

-- a leaf's step before others
abbrev leaf_step : Leaf → List Step → List Step
leaf_step leaf more = inr (inl leaf) ∷ more

-- the steps of a test, before others
abbrev mutual
  test_steps : Test → List Step → List Step
  test_steps (compared which v) more = leaf_step (inl (which, v)) more
  test_steps (differs v) more = leaf_step (inr (inl v)) more
  test_steps (one_of vs) more = leaf_step (inr (inr (inl vs))) more
  test_steps (none_of vs) more = leaf_step (inr (inr (inr (inl vs)))) more
  test_steps (exists b) more = leaf_step (inr (inr (inr (inr (inl b))))) more
  test_steps (remainder by left) more = leaf_step (inr (inr (inr (inr (inr (by, left)))))) more
  test_steps (negated ts) more = tests_steps ts (inl 1 ∷ more)

  -- the last test first
  tests_steps : Tests → List Step → List Step
  tests_steps no_tests more = inl 0 ∷ more
  tests_steps (test t ts) more = tests_steps ts (test_steps t more)

-- the steps of a clause, before others
abbrev mutual
  clause_steps : Clause → List Step → List Step
  clause_steps (all cs) more = clauses_steps cs (inl 3 ∷ more)
  clause_steps (any cs) more = clauses_steps cs (inl 4 ∷ more)
  clause_steps (nor cs) more = clauses_steps cs (inl 5 ∷ more)
  clause_steps (on_field name ts) more = tests_steps ts (inr (inr name) ∷ more)

  -- the last clause first
  clauses_steps : Clauses → List Step → List Step
  clauses_steps no_clauses more = inl 2 ∷ more
  clauses_steps (clause c cs) more = clauses_steps cs (clause_steps c more)

-- ---- the steps build what they are of

mutual
  -- a test's steps put it in front of the tests built last
  test_built : (t : Test) (ts : Tests) (more : List Step) (tss : List Tests) (css : List Clauses)
      → built (test_steps t more) (ts ∷ tss, css) ≡ built more (test t ts ∷ tss, css)
  test_built (compared which v) ts more tss css = refl
  test_built (differs v) ts more tss css = refl
  test_built (one_of vs) ts more tss css = refl
  test_built (none_of vs) ts more tss css = refl
  test_built (exists b) ts more tss css = refl
  test_built (remainder by left) ts more tss css = refl
  test_built (negated us) ts more tss css = tests_built us (inl 1 ∷ more) (ts ∷ tss) css

  -- those of tests build them
  tests_built : (ts : Tests) (more : List Step) (tss : List Tests) (css : List Clauses)
      → built (tests_steps ts more) (tss, css) ≡ built more (ts ∷ tss, css)
  tests_built no_tests more tss css = refl
  tests_built (test t ts) more tss css =
      tests_built ts (test_steps t more) tss css ∙ test_built t ts more tss css

mutual
  -- a clause's steps put it in front of the clauses built last
  clause_built : (c : Clause) (cs : Clauses) (more : List Step) (tss : List Tests)
      (css : List Clauses)
      → built (clause_steps c more) (tss, cs ∷ css) ≡ built more (tss, clause c cs ∷ css)
  clause_built (all ds) cs more tss css = clauses_built ds (inl 3 ∷ more) tss (cs ∷ css)
  clause_built (any ds) cs more tss css = clauses_built ds (inl 4 ∷ more) tss (cs ∷ css)
  clause_built (nor ds) cs more tss css = clauses_built ds (inl 5 ∷ more) tss (cs ∷ css)
  clause_built (on_field name ts) cs more tss css =
      tests_built ts (inr (inr name) ∷ more) tss (cs ∷ css)

  -- those of clauses build them
  pub clauses_built : (cs : Clauses) (more : List Step) (tss : List Tests) (css : List Clauses)
      → built (clauses_steps cs more) (tss, css) ≡ built more (tss, cs ∷ css)
  clauses_built no_clauses more tss css = refl
  clauses_built (clause c cs) more tss css =
      clauses_built cs (clause_steps c more) tss css ∙ clause_built c cs more tss css

-- ---- the codes

-- of such a test
abbrev leaf_code : Coded Leaf
leaf_code =
    coded⊎ (coded× compare.the_row.coded value.the_row.coded)
    (coded⊎ value.the_row.coded (coded⊎ (coded_list value.the_row.coded)
    (coded⊎ (coded_list value.the_row.coded) (coded⊎ coded_bool (coded× coded_ℤ coded_ℤ)))))

-- of a step
abbrev step_code : Coded Step
step_code = coded⊎ coded_ℕ (coded⊎ leaf_code (coded_list coded_ℕ))

-- of clauses, by their steps
abbrev clauses_code : Coded Clauses
clauses_code =
    code_by (List Step) (coded_list step_code) (λ cs. clauses_steps cs [])
    (λ steps. last_clauses (built steps ([], [])).1)
    (λ cs. ap (λ (b : Built). last_clauses b.1) (clauses_built cs [] [] []))

-- of the fields to sort by
abbrev sorts_code : Coded Sorts
sorts_code = coded_list (coded× (coded_list coded_ℕ) coded_bool)

-- what is asked for, as the tuple of its parts
abbrev pub asked_code : Coded QuerySpec
asked_code =
    code_by (Clauses × (Sorts × (ℕ × (Option ℕ × List ℕ))))
    (coded× clauses_code
    (coded× sorts_code (coded× coded_ℕ (coded× (coded_option coded_ℕ) (coded_list coded_ℕ)))))
    (λ q. (q.clauses, (q.sorts, (q.skip, (q.limit, q.primary)))))
    (λ p. record {
      clauses = p.0;
      sorts = p.1.0;
      skip = p.1.1.0;
      limit = p.1.1.1.0;
      primary = p.1.1.1.1;
    })
    (λ _. refl)
