-- What a query that was read goes by.
use Rattle.std.proofs.Common.{◌≡◌, ℕ, List, [], Option, Some, None, Result, Ok, Err, codes, sym, ap}
use Rattle.serde_json.specs.Data.{Data}
use Rattle.serde_json.specs.Find.{get, as_object}
use Rattle.rx_value.specs.Due.{◌>>◌, or_fault, unless}
use Rattle.rx_value.specs.Form.{unexpected}
use Rattle.rx_selector.specs.Reading.{KindPairs}
use Rattle.rx_selector.specs.Tree.{Clauses}
use Rattle.rx_query.specs.QuerySpec.{Sorts, QuerySpec}
use Rattle.rx_query.specs.Reading.{query_members, selector_in, sorts_in, count_at, limit_of, query_of}
use Rattle.rx_query.specs.declared.fault.QueryFault.{QueryFault}
use Rattle.rx_query.specs.declared.fault.QueryFault.TheVariants.{NotObject, Member, Skip, Limit}

-- what holds of whatever the second reading gives holds after both
after_both : {A B E : Type 0} (P : B → Type 0) (f : A → Result B E) (r : Result A E)
    → ((x : A) (y : B) → f x ≡ Ok y → P y) → (y : B) → (r >> f) ≡ Ok y → P y
after_both P f (Ok x) h y is = h x y is
after_both P f (Err e) h y is = absurd (cc)

-- and of whatever is read where no fault was found
after_none : {A B E : Type 0} (P : B → Type 0) (fault : A → E) (o : Option A) (r : Result B E)
    → ((y : B) → r ≡ Ok y → P y) → (y : B) → unless fault o r ≡ Ok y → P y
after_none P fault (Some x) r h y is = absurd (cc)
after_none P fault None r h y is = h y is

-- the primary key of a query, if there is one
primary_of : List ℕ → Result QuerySpec QueryFault → List ℕ
primary_of primary (Ok q) = q.primary
primary_of primary (Err e) = primary

-- a query that was read
abbrev read_of : QuerySpec → Result QuerySpec QueryFault
read_of q = Ok q

-- the query of those parts
made : (primary : List ℕ) (selector : Clauses) (sorts : Sorts) (skip : ℕ) (limit : Option ℕ)
    (q : QuerySpec)
    → read_of (record {
      clauses = selector;
      sorts = sorts;
      skip = skip;
      limit = limit;
      primary = primary;
    }) ≡ read_of q → q.primary ≡ primary
unfolding primary_of
made primary selector sorts skip limit q is = ap (primary_of primary) (sym is)

-- a query goes by the primary key that it was read for
pub query_primary : (kinds : KindPairs) (primary : List ℕ) (d : Data) (q : QuerySpec)
    → query_of kinds primary d ≡ Ok q → q.primary ≡ primary
query_primary kinds primary d q is =
    let P : QuerySpec → Type 0 = λ q. q.primary ≡ primary in
    after_both P _ (or_fault NotObject (as_object d)) (λ _ q is.
    after_none P Member (unexpected [] query_members d) _ (λ q is.
    after_both P _ (selector_in kinds (get (codes "selector") d)) (λ selector q is.
    after_both P _ (sorts_in kinds (get (codes "sort") d)) (λ sorts q is.
    after_both P _ (or_fault Skip (count_at (codes "skip") d)) (λ skip q is.
    after_both P _ (or_fault Limit (count_at (codes "limit") d)) (λ limit q is.
    made primary selector sorts skip (limit_of limit) q is) q is) q is) q is) q is) q is) q is
