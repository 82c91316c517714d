-- The order of a query.
use Rattle.std.specs.Prelude.{◌≡◌, ◌≢◌, ℕ, Bool, List, [], ◌∷◌, if◌then◌else◌, Some, is_some}
use Rattle.std.specs.Cmp.{IsTotalOrder}
use Rattle.std.specs.Ordering.{ordering_then, ordering_reverse}
use Rattle.std.specs.declared.cmp.Ordering.{Ordering}
use Rattle.std.specs.declared.cmp.Ordering.TheVariants.{Equal}
use Rattle.rx_value.specs.Fields.{Pairs}
use Rattle.rx_value.specs.Named.{named}
use Rattle.rx_value.specs.Order.{order_of}
use Rattle.rx_value.specs.declared.value.Value.TheVariants.{Text}
use Rattle.rx_query.specs.QuerySpec.{Sorts, QuerySpec}

-- by the field of that name
abbrev pub field_cmp : List ℕ → Pairs → Pairs → Ordering
field_cmp name x y = order_of (named x name) (named y name)

-- by it, perhaps reversed
abbrev pub sort_cmp : List ℕ → Bool → Pairs → Pairs → Ordering
sort_cmp name desc x y =
    if desc then ordering_reverse (field_cmp name x y) else field_cmp name x y

-- by fields in turn
abbrev pub sorts_cmp : Sorts → Pairs → Pairs → Ordering
sorts_cmp [] x y = Equal
sorts_cmp (s ∷ ss) x y = ordering_then (sort_cmp s.0 s.1 x y) (sorts_cmp ss x y)

-- by the sort's fields in turn, and then by the primary key where the sort lacks it
abbrev pub query_cmp : QuerySpec → Pairs → Pairs → Ordering
query_cmp q x y =
    if is_some (named q.sorts q.primary) then sorts_cmp q.sorts x y
    else ordering_then (sorts_cmp q.sorts x y) (field_cmp q.primary x y)

-- it is a total order
abbrev pub QueriesOrder : Type 0
QueriesOrder = (q : QuerySpec) → IsTotalOrder (query_cmp q)

-- and decides between documents that carry different keys
abbrev pub KeysDecide : Type 0
KeysDecide = (q : QuerySpec) (x y : Pairs) (k l : List ℕ) → named x q.primary ≡ Some (Text k)
    → named y q.primary ≡ Some (Text l) → k ≢ l → query_cmp q x y ≢ Equal
