-- The operators under a property, or the first fault.
use Rattle.std.specs.Prelude.{ℕ, ◌+◌, List, [], ◌∷◌, codes, Bool, true, false, nat_lt, Option, Some, None, Result, Ok, Err, if◌then◌else◌}
use Rattle.std.specs.Str.{bytes_eq}
use Rattle.serde_json.specs.Data.{Data, object, Members, no_members, member}
use Rattle.rx_value.specs.Due.{◌>>◌}
use Rattle.rx_selector.specs.Tree.{Test, compared, differs, one_of, none_of, negated, tests_of}
use Rattle.rx_selector.specs.Values.{value_of, values_of, exists_of, remainder_of}
use Rattle.rx_selector.specs.declared.fault.SelectorFault.{SelectorFault}
use Rattle.rx_selector.specs.declared.fault.SelectorFault.TheVariants.{Operator, Operand, Depth}
use Rattle.rx_selector.specs.declared.tree.Compare.{Compare}
use Rattle.rx_selector.specs.declared.tree.Compare.TheVariants.{Eq, Gt, Gte, Lt, Lte}

-- the greatest depth
abbrev pub deepest : ℕ
deepest = 32

-- what is read at a depth, which may be too great
abbrev pub within_depth : {X : Type 0} → ℕ → Result X SelectorFault → Result X SelectorFault
within_depth depth r = if nat_lt deepest depth then Err Depth else r

-- an object without members
abbrev pub is_empty : Members → Bool
is_empty no_members = true
is_empty (member name d ms) = false

-- an operator that compares with one value
abbrev pub comparison : List ℕ → Option Compare
comparison name =
    if bytes_eq name (codes "$eq") then Some Eq
    else if bytes_eq name (codes "$gt") then Some Gt
    else if bytes_eq name (codes "$gte") then Some Gte
    else if bytes_eq name (codes "$lt") then Some Lt
    else if bytes_eq name (codes "$lte") then Some Lte
    else None

-- the test of an operator, where `inner` is what its operand says as that of `$not`
abbrev pub test_by : Option Compare → List ℕ → Data → Result (List Test) SelectorFault
    → Result Test SelectorFault
test_by (Some which) name d inner = value_of name d >> λ v. Ok (compared which v)
test_by None name d inner =
    if bytes_eq name (codes "$ne") then (value_of name d >> λ v. Ok (differs v))
    else if bytes_eq name (codes "$in") then (values_of name d >> λ vs. Ok (one_of vs))
    else if bytes_eq name (codes "$nin") then (values_of name d >> λ vs. Ok (none_of vs))
    else if bytes_eq name (codes "$exists") then exists_of name d
    else if bytes_eq name (codes "$mod") then remainder_of name d
    else if bytes_eq name (codes "$not") then (inner >> λ ts. Ok (negated (tests_of ts)))
    else Err (Operator name)

-- the operators of an object, by rising name
abbrev mutual
  pub members_tests : ℕ → Members → Result (List Test) SelectorFault
  members_tests depth no_members = Ok []
  members_tests depth (member name d ms) =
      test_by (comparison name) name d (tests_read (depth + 1) name d)
      >> λ t. members_tests depth ms >> λ ts. Ok (t ∷ ts)

  -- an object of operators that isn't empty, at that name and depth
  pub tests_read : ℕ → List ℕ → Data → Result (List Test) SelectorFault
  tests_read depth name (object ms) =
      if is_empty ms then Err (Operand name) else within_depth depth (members_tests depth ms)
  tests_read depth name d = Err (Operand name)
