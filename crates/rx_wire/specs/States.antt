-- The states in a message, and the rows of a push.
use Rattle.std.specs.Prelude.{ℕ, List, [], ◌∷◌, ◌++◌, length, map, codes, Bool, true, ◌&&◌, nat_le, if◌then◌else◌, is_some, is_none, Option, Some, None, Result, Ok}
use Rattle.std.specs.List.{list_any}
use Rattle.std.specs.Result.{result_ok}
use Rattle.std.specs.Str.{bytes_eq}
use Rattle.serde_json.specs.Data.{Data, Items, no_items, item}
use Rattle.serde_json.specs.Events.{items_len}
use Rattle.serde_json.specs.Find.{get, as_bool, as_array}
use Rattle.rx_value.specs.Due.{◌>>◌, ◌>>=◌, only_if, or_fault}
use Rattle.rx_value.specs.Fields.{Pairs}
use Rattle.rx_value.specs.Form.{unexpected}
use Rattle.rx_value.specs.Named.{named}
use Rattle.rx_value.specs.Reading.{fields_beside}
use Rattle.rx_value.specs.State.{mark}
use Rattle.rx_value.specs.Value.{text_of}
use Rattle.rx_value.specs.declared.state.State.{State}
use Rattle.rx_schema.specs.Validity.{first_fault}
use Rattle.rx_schema.specs.declared.shape.Shape.{Shape}
use Rattle.rx_wire.specs.Limits.{most_states}
use Rattle.rx_wire.specs.declared.message.PushRow.{PushRow}
use Rattle.rx_wire.specs.declared.fault.WireFault.{WireFault}
use Rattle.rx_wire.specs.declared.fault.WireFault.TheVariants.{Invalid}

-- ---- their form

-- the deletion mark of an object
abbrev pub mark_at : Data → Option Bool
mark_at d = get mark d >>= as_bool

-- an object with a deletion mark has the form of a state
abbrev pub is_state : Data → Bool
is_state d = is_some (mark_at d)

-- what is given has the form of a state
abbrev pub is_state_if : Option Data → Bool
is_state_if None = true
is_state_if (Some d) = is_state d

-- a row is an object of a new state and perhaps an assumed one
abbrev pub is_row : Data → Bool
is_row d =
    is_some (get (codes "new") d >>= mark_at) && is_state_if (get (codes "assumed") d)
    && is_none (unexpected (codes "new" ∷ []) (codes "assumed" ∷ []) d)

-- each item passes the test
abbrev pub all_items : (Data → Bool) → Items → Bool
all_items test no_items = true
all_items test (item d ds) = test d && all_items test ds

-- a list of at most so many items that pass the test
abbrev pub list_of : (Data → Bool) → ℕ → Data → Option Items
list_of test least d =
    as_array d >>= λ ds.
    only_if (nat_le least (items_len ds) && nat_le (items_len ds) most_states && all_items test ds)
    (Some ds)

-- the states at a name
abbrev pub states_at : List ℕ → Data → Option Items
states_at name d = get name d >>= list_of is_state 0

-- the rows of a push, of which there is at least one
abbrev pub rows_at : Data → Option Items
rows_at d = get (codes "rows") d >>= list_of is_row 1

-- ---- what they are

-- the state of fields and mark, if the fields are valid
abbrev pub valid_state : Shape → Bool → Pairs → Option State
valid_state s deleted fields =
    only_if (is_none (first_fault s fields))
    (text_of (named fields s.primary) >>= λ key.
    Some (record { key = key; fields = fields; deleted = deleted }))

-- the state that an object is, if it is a valid one
abbrev pub state_of : Shape → Data → Option State
state_of s d =
    mark_at d >>= λ deleted. result_ok (fields_beside mark d) >>= valid_state s deleted

-- the state that is given, if it is a valid one
abbrev pub maybe_state : Shape → Option Data → Option (Option State)
maybe_state s None = Some None
maybe_state s (Some d) = state_of s d >>= λ state. Some (Some state)

-- the state that is given has the key
abbrev pub has_key : List ℕ → Option State → Bool
has_key key None = true
has_key key (Some state) = bytes_eq state.key key

-- the row that an object is, if its states are valid and have one key
abbrev pub row_of : Shape → Data → Option PushRow
row_of s d =
    get (codes "new") d >>= state_of s >>= λ new.
    maybe_state s (get (codes "assumed") d) >>= λ assumed.
    only_if (has_key new.key assumed) (Some (record { assumed = assumed; new = new }))

-- the key of a row
abbrev pub row_key : PushRow → List ℕ
row_key row = row.new.key

-- the key of a state
abbrev pub state_key : State → List ℕ
state_key state = state.key

-- what there is, unless its key is that of one before it
abbrev pub unless_twice : {X : Type 0} → (X → List ℕ) → List X → X → Option X
unless_twice key before x =
    if list_any (bytes_eq (key x)) (map key before) then None else Some x

-- the items after those that were read; the first that isn't valid, or whose key stood before, is
-- at fault
abbrev pub read_after : {X : Type 0} → (Data → Option X) → (X → List ℕ) → List X → Items
    → Result (List X) WireFault
read_after read key before no_items = Ok before
read_after read key before (item d ds) =
    or_fault (Invalid (length before)) (read d >>= unless_twice key before) >> λ x.
    read_after read key (before ++ x ∷ []) ds

-- the rows of items
abbrev pub rows_of : Shape → Items → Result (List PushRow) WireFault
rows_of s = read_after (row_of s) row_key []

-- the states of items
abbrev pub states_of : Shape → Items → Result (List State) WireFault
states_of s = read_after (state_of s) state_key []
