-- Positions in the order of keys, and the keys of documents.
use Rattle.std.specs.Prelude.{◌≡◌, ◌↔◌, ℕ, ◌-◌, Bool, false, not, List, [], ◌∷◌, ◌++◌, map, length, slice_get, Option, Some, if◌then◌else◌}
use Rattle.std.specs.Cmp.{IsTotalOrder}
use Rattle.std.specs.Ordering.{bool_cmp, ordering_then, is_le}
use Rattle.std.specs.declared.cmp.Ordering.{Ordering}
use Rattle.std.specs.declared.cmp.Ordering.TheVariants.{Less, Equal, Greater}
use Rattle.rx_value.specs.Named.{named}
use Rattle.rx_value.specs.Order.{order_of}
use Rattle.rx_value.specs.declared.value.Value.{Value}
use Rattle.rx_value.specs.declared.value.Value.TheVariants.{Flag, Text}
use Rattle.rx_document.specs.declared.stored.Stored.{Stored}

-- before all keys that begin with these values, or after all of them
pub record Position : Type 0 where
  pub values : List (Option Value)
  pub after : Bool

-- with these values
abbrev pub position_with : List (Option Value) → Bool → Position
position_with values after = record { values = values; after = after }

-- value by value; one whose values are the first ones of the other stands before it or after it
abbrev pub values_cmp : List (Option Value) → Bool → List (Option Value) → Bool → Ordering
values_cmp [] after [] behind = bool_cmp after behind
values_cmp [] after (y ∷ ys) behind = if after then Greater else Less
values_cmp (x ∷ xs) after [] behind = if behind then Less else Greater
values_cmp (x ∷ xs) after (y ∷ ys) behind =
    ordering_then (order_of x y) (values_cmp xs after ys behind)

-- the order of positions
abbrev pub position_cmp : Position → Position → Ordering
position_cmp p q = values_cmp p.values p.after q.values q.after

-- it is a total order
abbrev pub PositionsAreOrdered : Type 0
PositionsAreOrdered = IsTotalOrder position_cmp

-- and exactly equal positions tie
abbrev pub TiesAreOnePosition : Type 0
TiesAreOnePosition = (p q : Position) → (position_cmp p q ≡ Equal) ↔ (p ≡ q)

-- the first stands at the second or before it
abbrev pub precedes : Position → Position → Bool
precedes p q = is_le (position_cmp p q)

-- a bound precedes the keys that begin with its values where it isn't after them
abbrev pub BoundsEnclose : Type 0
BoundsEnclose = (p : Position) (rest : List (Option Value))
    → precedes p (position_with (p.values ++ rest) false) ≡ not p.after

-- ---- keys

-- the values of a document's key: its deletion mark, the fields, its primary key
abbrev pub key_values : List (List ℕ) → Stored → List (Option Value)
key_values fields d =
    Some (Flag d.state.deleted)
    ∷ (map (λ field. named d.state.fields field) fields ++ Some (Text d.state.key) ∷ [])

-- the position before that key
abbrev pub key_of : List (List ℕ) → Stored → Position
key_of fields d = position_with (key_values fields d) false

-- the text of a value that is one
abbrev pub text_in : Option (Option Value) → List ℕ
text_in (Some (Some (Text text))) = text
text_in _ = []

-- the primary key of the document whose key it is: the text at the end
abbrev pub id_of : Position → List ℕ
id_of p = text_in (slice_get p.values (length p.values - 1))
