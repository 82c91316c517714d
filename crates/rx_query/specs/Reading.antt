-- What a JSON value says as a query, or the first fault.
use Rattle.std.specs.Prelude.{ℕ, nat_lt, ◌&&◌, Bool, true, false, List, [], ◌∷◌, ◌++◌, codes, Option, Some, None, is_some, is_none, Result, Ok, Err, if◌then◌else◌}
use Rattle.std.specs.Str.{bytes_eq}
use Rattle.serde_json.specs.Data.{Data, Items, no_items, item, Members, no_members, member}
use Rattle.serde_json.specs.Find.{get, as_str, as_object, as_array}
use Rattle.rx_value.specs.Due.{◌>>◌, ◌>>=◌, only_if, or_fault, unless, lifted}
use Rattle.rx_value.specs.Form.{unexpected, whole_within}
use Rattle.rx_value.specs.Named.{named}
use Rattle.rx_selector.specs.Reading.{KindPairs, selector_of}
use Rattle.rx_selector.specs.Tree.{Clauses, no_clauses}
use Rattle.rx_selector.specs.declared.fault.SelectorFault.{SelectorFault}
use Rattle.rx_query.specs.QuerySpec.{Sorts, QuerySpec}
use Rattle.rx_query.specs.Faults.{of_selector}
use Rattle.rx_query.specs.declared.fault.QueryFault.{QueryFault}
use Rattle.rx_query.specs.declared.fault.QueryFault.TheVariants.{NotObject, Member, Sort, Skip, Limit}

-- the names of its members
abbrev pub query_members : List (List ℕ)
query_members = codes "selector" ∷ codes "sort" ∷ codes "skip" ∷ codes "limit" ∷ []

-- the most rows that may be skipped or left
abbrev pub most_rows : ℕ
most_rows = 1000000000

-- the selector, which may be missing
abbrev pub selector_in : KindPairs → Option Data → Result Clauses QueryFault
selector_in kinds None = Ok no_clauses
selector_in kinds (Some d) = lifted of_selector (selector_of kinds d)

-- whether the order is reversed
abbrev pub is_desc : Data → Option Bool
is_desc d =
    as_str d >>= λ s. if bytes_eq s (codes "asc") then Some false
    else if bytes_eq s (codes "desc") then Some true
    else None

-- the member of an object of one member
abbrev pub single : Members → Option (List ℕ × Data)
single (member name d no_members) = Some (name, d)
single ms = None

-- the same of JSON
abbrev pub only_member : Data → Option (List ℕ × Data)
only_member d = as_object d >>= single

-- a field to sort by, after those: a property that isn't among them
abbrev pub sort_of : KindPairs → Sorts → Data → Result (List ℕ × Bool) QueryFault
sort_of kinds done d =
    or_fault (Sort (codes "sort")) (only_member d)
    >> λ m. or_fault (Sort m.0)
    (only_if (is_some (named kinds m.0) && is_none (named done m.0)) (is_desc m.1))
    >> λ desc. Ok (m.0, desc)

-- those, and each of these
abbrev pub items_sorts : KindPairs → Sorts → Items → Result Sorts QueryFault
items_sorts kinds done no_items = Ok done
items_sorts kinds done (item d ds) =
    sort_of kinds done d >> λ s. items_sorts kinds (done ++ s ∷ []) ds

-- the fields to sort by, which may be missing
abbrev pub sorts_in : KindPairs → Option Data → Result Sorts QueryFault
sorts_in kinds None = Ok []
sorts_in kinds (Some d) = or_fault (Sort (codes "sort")) (as_array d) >> items_sorts kinds []

-- a count of rows, which may be missing
abbrev pub count_at : List ℕ → Data → Option ℕ
count_at name d = if is_none (get name d) then Some 0 else whole_within name 0 most_rows d

-- a limit of 0 is none
abbrev pub limit_of : ℕ → Option ℕ
limit_of limit = only_if (nat_lt 0 limit) (Some limit)

-- the query that a JSON value says, or the first fault
abbrev pub query_of : KindPairs → List ℕ → Data → Result QuerySpec QueryFault
query_of kinds primary d =
    or_fault NotObject (as_object d)
    >> λ _. unless Member (unexpected [] query_members d)
    (selector_in kinds (get (codes "selector") d)
    >> λ clauses. sorts_in kinds (get (codes "sort") d)
    >> λ sorts. or_fault Skip (count_at (codes "skip") d)
    >> λ skip. or_fault Limit (count_at (codes "limit") d)
    >> λ limit. Ok (record {
      clauses = clauses;
      sorts = sorts;
      skip = skip;
      limit = limit_of limit;
      primary = primary;
    }))
