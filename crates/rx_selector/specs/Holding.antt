-- Where a selector holds.
use Rattle.std.specs.Prelude.{ℤ, pos, int_rem, List, Bool, true, false, not, ◌&&◌, ◌||◌, Option, Some, None, is_some}
use Rattle.std.specs.Bool.{beq}
use Rattle.std.specs.List.{list_any}
use Rattle.std.specs.Ordering.{is_eq, is_gt, is_ge, is_lt, is_le, int_eq}
use Rattle.std.specs.declared.cmp.Ordering.{Ordering}
use Rattle.rx_value.specs.Fields.{Pairs}
use Rattle.rx_value.specs.Named.{named}
use Rattle.rx_value.specs.Order.{value_cmp}
use Rattle.rx_value.specs.declared.value.Value.{Value}
use Rattle.rx_value.specs.declared.value.Value.TheVariants.{Flag, Int, Text}
use Rattle.rx_selector.specs.Tree.{Test, compared, differs, one_of, none_of, exists, remainder, negated, Tests, no_tests, test, Clause, all, any, nor, on_field, Clauses, no_clauses, clause}
use Rattle.rx_selector.specs.declared.tree.Compare.{Compare}
use Rattle.rx_selector.specs.declared.tree.Compare.TheVariants.{Eq, Gt, Gte, Lt, Lte}

-- two flags, two numbers or two texts
abbrev pub same_kind : Value → Value → Bool
same_kind (Flag a) (Flag b) = true
same_kind (Int a) (Int b) = true
same_kind (Text a) (Text b) = true
same_kind a b = false

-- the operator, by how the field stands to its operand
abbrev pub stands : Compare → Ordering → Bool
stands Eq o = is_eq o
stands Gt o = is_gt o
stands Gte o = is_ge o
stands Lt o = is_lt o
stands Lte o = is_le o

-- the field is there, of the operand's kind, and stands so
abbrev pub compares : Compare → Option Value → Value → Bool
compares which None operand = false
compares which (Some v) operand = same_kind v operand && stands which (value_cmp v operand)

-- the field is there, and equal to one of these
abbrev pub equals_one : Option Value → List Value → Bool
equals_one v operands = list_any (λ operand. compares Eq v operand) operands

-- the field is a number whose remainder, with the sign of the field, is that one
abbrev pub leaves : ℤ → ℤ → Option Value → Bool
leaves by left (Some (Int n)) = not (int_eq by (pos 0)) && int_eq (int_rem n by) left
leaves by left v = false

-- a test of a field, which may be missing
abbrev mutual
  pub test_holds : Test → Option Value → Bool
  test_holds (compared which operand) v = compares which v operand
  test_holds (differs operand) v = not (compares Eq v operand)
  test_holds (one_of operands) v = equals_one v operands
  test_holds (none_of operands) v = not (equals_one v operands)
  test_holds (exists b) v = beq (is_some v) b
  test_holds (remainder by left) v = leaves by left v
  test_holds (negated ts) v = not (tests_hold ts v)

  -- all of these
  pub tests_hold : Tests → Option Value → Bool
  tests_hold no_tests v = true
  tests_hold (test t ts) v = test_holds t v && tests_hold ts v

-- a clause of the fields
abbrev mutual
  pub clause_holds : Clause → Pairs → Bool
  clause_holds (all cs) fields = all_hold cs fields
  clause_holds (any cs) fields = one_holds cs fields
  clause_holds (nor cs) fields = not (one_holds cs fields)
  clause_holds (on_field name ts) fields = tests_hold ts (named fields name)

  -- all of these
  pub all_hold : Clauses → Pairs → Bool
  all_hold no_clauses fields = true
  all_hold (clause c cs) fields = clause_holds c fields && all_hold cs fields

  -- one of these
  pub one_holds : Clauses → Pairs → Bool
  one_holds no_clauses fields = false
  one_holds (clause c cs) fields = clause_holds c fields || one_holds cs fields
