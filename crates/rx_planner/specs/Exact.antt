-- Where a selector says no more of a document than that its key stands between bounds.
use Rattle.std.specs.Prelude.{ℕ, Bool, true, false, not, ◌&&◌, List, [], ◌∷◌, Option, Some, None, is_some, if◌then◌else◌}
use Rattle.std.specs.Ordering.{is_eq}
use Rattle.std.specs.Str.{bytes_eq}
use Rattle.rx_value.specs.Order.{value_cmp}
use Rattle.rx_value.specs.declared.value.Value.{Value}
use Rattle.rx_selector.specs.Holding.{same_kind}
use Rattle.rx_selector.specs.Tree.{compared, Tests, no_tests, test, on_field, Clauses, no_clauses, clause}
use Rattle.rx_selector.specs.declared.tree.Compare.{Compare}
use Rattle.rx_selector.specs.declared.tree.Compare.TheVariants.{Eq, Gt, Gte, Lt, Lte}
use Rattle.rx_query.specs.QuerySpec.{QuerySpec}
use Rattle.rx_planner.specs.Plan.{Names, operand, is_fixed}

-- there is an operand, and it is that value
abbrev pub is_value : Option Value → Value → Bool
is_value None v = false
is_value (Some w) v = is_eq (value_cmp w v)

-- an operand, if there is one, is of that value's kind
abbrev pub has_kind : Option Value → Value → Bool
has_kind None v = true
has_kind (Some w) v = same_kind w v

-- all bounds of the field are of that value's kind
abbrev pub have_kind : QuerySpec → List ℕ → Value → Bool
have_kind q field v =
    has_kind (operand q field Gt) v && has_kind (operand q field Gte) v
    && has_kind (operand q field Lt) v && has_kind (operand q field Lte) v

-- a fixed field has that value
abbrev pub fixes : QuerySpec → List ℕ → Compare → Value → Bool
fixes q field Eq v = is_value (operand q field Eq) v
fixes q field which v = false

-- that is a bound of the field, which a bound that leaves its operand out isn't placed before
abbrev pub bounds : QuerySpec → List ℕ → Compare → Value → Bool
bounds q field Gt v = is_value (operand q field Gt) v
bounds q field Gte v = not (is_some (operand q field Gt)) && is_value (operand q field Gte) v
bounds q field Lt v = is_value (operand q field Lt) v
bounds q field Lte v = not (is_some (operand q field Lt)) && is_value (operand q field Lte) v
bounds q field Eq v = false

-- the bounds of the path say that the field of that name compares so with the value: it is one of
-- the first fields, which are fixed, or the next one
abbrev pub is_told : QuerySpec → Names → List ℕ → Compare → Value → Bool
is_told q [] name which v = false
is_told q (f ∷ fs) name which v =
    if is_fixed q f then (if bytes_eq f name then fixes q f which v else is_told q fs name which v)
    else bytes_eq f name && bounds q f which v && have_kind q f v

-- they say each test of the field
abbrev pub are_told : QuerySpec → Names → List ℕ → Tests → Bool
are_told q path name no_tests = true
are_told q path name (test (compared which v) ts) =
    is_told q path name which v && are_told q path name ts
are_told q path name (test t ts) = false

-- they say each clause
abbrev pub all_told : QuerySpec → Names → Clauses → Bool
all_told q path no_clauses = true
all_told q path (clause (on_field name ts) cs) = are_told q path name ts && all_told q path cs
all_told q path (clause c cs) = false

-- the due documents are exactly those whose keys stand between the bounds of the path
abbrev pub is_exact : QuerySpec → Names → Bool
is_exact q path = all_told q path q.clauses
