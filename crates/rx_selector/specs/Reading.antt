-- What a JSON value says as a selector, or the first fault: depth first, by rising name.
use Rattle.std.specs.Prelude.{ℕ, ◌+◌, List, [], ◌∷◌, codes, Bool, false, is_none, Result, Ok, Err, if◌then◌else◌}
use Rattle.std.specs.Str.{bytes_eq}
use Rattle.serde_json.specs.Data.{Data, array, object, Items, no_items, item, Members, no_members, member}
use Rattle.rx_value.specs.Due.{◌>>◌}
use Rattle.rx_value.specs.Named.{named}
use Rattle.rx_value.specs.declared.kinds.Kind.{Kind}
use Rattle.rx_selector.specs.Operators.{tests_read, within_depth}
use Rattle.rx_selector.specs.Tree.{Tests, no_tests, test, tests_of, compared, Clause, all, any, nor, on_field, Clauses, clauses_of}
use Rattle.rx_selector.specs.Values.{value_of}
use Rattle.rx_selector.specs.declared.fault.SelectorFault.{SelectorFault}
use Rattle.rx_selector.specs.declared.fault.SelectorFault.TheVariants.{Operator, Operand, Field, NotObject}
use Rattle.rx_selector.specs.declared.tree.Compare.TheVariants.{Eq}

-- the kinds of the properties
abbrev pub KindPairs : Type 0
KindPairs = List (List ℕ × Kind)

-- begins with `$`
abbrev pub has_dollar : List ℕ → Bool
has_dollar [] = false
has_dollar (b ∷ bs) = bytes_eq (b ∷ []) (codes "$")

-- a property's member: operators in an object, or a value to be equal to
abbrev pub field_tests : ℕ → List ℕ → Data → Result Tests SelectorFault
field_tests depth name (object ms) = tests_read depth name (object ms) >> λ ts. Ok (tests_of ts)
field_tests depth name d = value_of name d >> λ v. Ok (test (compared Eq v) no_tests)

-- a member of a selector, where `inner` is what it says as a list of selectors
abbrev pub clause_of : KindPairs → ℕ → List ℕ → Data → Result (List Clause) SelectorFault
    → Result Clause SelectorFault
clause_of kinds depth name d inner =
    if bytes_eq name (codes "$and") then (inner >> λ cs. Ok (all (clauses_of cs)))
    else if bytes_eq name (codes "$or") then (inner >> λ cs. Ok (any (clauses_of cs)))
    else if bytes_eq name (codes "$nor") then (inner >> λ cs. Ok (nor (clauses_of cs)))
    else if has_dollar name then Err (Operator name)
    else if is_none (named kinds name) then Err (Field name)
    else field_tests depth name d >> λ ts. Ok (on_field name ts)

-- what is read of a list, which may not be empty
abbrev pub unless_none : {X : Type 0} → List ℕ → Items → Result X SelectorFault
    → Result X SelectorFault
unless_none name no_items r = Err (Operand name)
unless_none name (item d ds) r = r

-- a selector at that depth
abbrev mutual
  pub selector_read : KindPairs → ℕ → Data → Result (List Clause) SelectorFault
  selector_read kinds depth (object ms) = within_depth depth (members_clauses kinds depth ms)
  selector_read kinds depth d = Err NotObject

  -- its members, by rising name
  pub members_clauses : KindPairs → ℕ → Members → Result (List Clause) SelectorFault
  members_clauses kinds depth no_members = Ok []
  members_clauses kinds depth (member name d ms) =
      clause_of kinds depth name d (list_read kinds (depth + 1) name d)
      >> λ c. members_clauses kinds depth ms >> λ cs. Ok (c ∷ cs)

  -- a list of selectors at that depth that isn't empty
  pub list_read : KindPairs → ℕ → List ℕ → Data → Result (List Clause) SelectorFault
  list_read kinds depth name (array ds) = unless_none name ds (items_clauses kinds depth ds)
  list_read kinds depth name d = Err (Operand name)

  -- each of them
  pub items_clauses : KindPairs → ℕ → Items → Result (List Clause) SelectorFault
  items_clauses kinds depth no_items = Ok []
  items_clauses kinds depth (item d ds) =
      (selector_read kinds depth d >> λ cs. Ok (all (clauses_of cs)))
      >> λ c. items_clauses kinds depth ds >> λ cs. Ok (c ∷ cs)

-- the selector that a JSON value says, or the first fault
abbrev pub selector_of : KindPairs → Data → Result Clauses SelectorFault
selector_of kinds d = selector_read kinds 1 d >> λ cs. Ok (clauses_of cs)
