-- The operands of the outermost members.
use Rattle.std.specs.Prelude.{ℕ, List, Option, Some, None, if◌then◌else◌}
use Rattle.std.specs.Option.{option_or}
use Rattle.std.specs.Str.{bytes_eq}
use Rattle.rx_value.specs.Due.{◌>>=◌}
use Rattle.rx_value.specs.declared.value.Value.{Value}
use Rattle.rx_selector.specs.Tree.{Test, compared, Tests, no_tests, test, on_field, Clauses, no_clauses, clause}
use Rattle.rx_selector.specs.declared.tree.Compare.{Compare}
use Rattle.rx_selector.specs.declared.tree.Compare.TheVariants.{Eq, Gt, Gte, Lt, Lte}

-- the operand of that operator, if the test is of that operator
abbrev pub operand_of : Compare → Test → Option Value
operand_of Eq (compared Eq v) = Some v
operand_of Gt (compared Gt v) = Some v
operand_of Gte (compared Gte v) = Some v
operand_of Lt (compared Lt v) = Some v
operand_of Lte (compared Lte v) = Some v
operand_of which t = None

-- the first among tests
abbrev pub operand_among : Compare → Tests → Option Value
operand_among which no_tests = None
operand_among which (test t ts) = option_or (operand_of which t) (operand_among which ts)

-- the tests of the member of that name
abbrev pub tests_on : List ℕ → Clauses → Option Tests
tests_on name no_clauses = None
tests_on name (clause (on_field n ts) cs) = if bytes_eq n name then Some ts else tests_on name cs
tests_on name (clause c cs) = tests_on name cs

-- the operand of that operator in the member of that name
abbrev pub operand_in : List ℕ → Compare → Clauses → Option Value
operand_in name which cs = tests_on name cs >>= operand_among which
