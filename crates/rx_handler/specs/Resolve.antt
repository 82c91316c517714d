-- What a handler makes of the master's real state of a document and of the fork's new one.
use Rattle.std.specs.Prelude.{◌≡◌, ℕ, ℤ, int_lt, Bool, false, ◌&&◌, List, [], ◌∷◌, if◌then◌else◌, Option, Some, None}
use Rattle.std.specs.Map.{keys_of}
use Rattle.std.specs.Ordering.{is_lt}
use Rattle.rx_value.specs.Fields.{Pairs, AreFields}
use Rattle.rx_value.specs.Named.{named, put_in_order}
use Rattle.rx_value.specs.Order.{order_of}
use Rattle.rx_value.specs.declared.state.State.{State}
use Rattle.rx_value.specs.declared.value.Value.{Value}
use Rattle.rx_value.specs.declared.value.Value.TheVariants.{Int}
use Rattle.rx_handler.specs.declared.kind.HandlerKind.{HandlerKind}
use Rattle.rx_handler.specs.declared.kind.HandlerKind.TheVariants.{MasterWins, ForkWins, Greater, Join}

-- the number that there is
abbrev pub number_of : Option Value → Option ℤ
number_of (Some (Int n)) = Some n
number_of _ = None

-- both are there, and the second is greater
abbrev pub is_greater : Option ℤ → Option ℤ → Bool
is_greater (Some m) (Some n) = int_lt m n
is_greater _ _ = false

-- the greater of two values in the order of values, in which a missing one comes first
abbrev pub greater_of : Option Value → Option Value → Option Value
greater_of a b = if is_lt (order_of a b) then b else a

-- fields with a value at a name, where it is greater than the one there
abbrev pub raised_to : Pairs → List ℕ → Option Value → Pairs
raised_to ps name None = ps
raised_to ps name (Some v) =
    if is_lt (order_of (named ps name) (Some v)) then put_in_order ps name v else ps

-- the same with each of some names, at the value that other fields have there
abbrev pub joined_at : Pairs → List (List ℕ) → Pairs → Pairs
joined_at qs [] ps = ps
joined_at qs (name ∷ names) ps = joined_at qs names (raised_to ps name (named qs name))

-- two fields together, with the greater value at each name
abbrev pub joined : Pairs → Pairs → Pairs
joined ps qs = joined_at qs (keys_of qs) ps

-- The master's real state; the fork's new one; the one with the greater number in the field, which
-- is the real one on a tie or where one has no number there; or both together, each field with the
-- greater value, and deleted where both are.
abbrev pub resolve : HandlerKind → List ℕ → State → State → State
resolve MasterWins field real new = real
resolve ForkWins field real new = new
resolve Greater field real new =
    if is_greater (number_of (named real.fields field)) (number_of (named new.fields field))
    then new else real
resolve Join field real new = record {
  key = real.key;
  fields = joined real.fields new.fields;
  deleted = real.deleted && new.deleted;
}

-- joined fields have the greater of two values at each name
abbrev pub JoinsFieldByField : Type 0
JoinsFieldByField = (ps qs : Pairs) (name : List ℕ)
    → named (joined ps qs) name ≡ greater_of (named ps name) (named qs name)

-- and are fields
abbrev pub JoinsToFields : Type 0
JoinsToFields = (ps qs : Pairs) → AreFields ps → AreFields qs → AreFields (joined ps qs)

-- of two states of one key the answer has that key
abbrev pub KeepsTheKey : Type 0
KeepsTheKey = (kind : HandlerKind) (field : List ℕ) (real new : State) → real.key ≡ new.key
    → (resolve kind field real new).key ≡ new.key
