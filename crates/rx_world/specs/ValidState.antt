-- Where a state is valid by a schema.
use Rattle.std.specs.Prelude.{◌≡◌, Bool, true, ◌&&◌, is_none}
use Rattle.rx_value.specs.Named.{named}
use Rattle.rx_value.specs.Value.{is_text}
use Rattle.rx_value.specs.declared.state.State.{State}
use Rattle.rx_schema.specs.Validity.{first_fault}
use Rattle.rx_schema.specs.declared.shape.Shape.{Shape}

-- the state's fields are valid, and hold its key as their primary key
abbrev pub is_valid_state : Shape → State → Bool
is_valid_state s state =
    is_none (first_fault s state.fields) && is_text state.key (named state.fields s.primary)

-- the same as a fact
abbrev pub IsValidState : Shape → State → Type 0
IsValidState s state = is_valid_state s state ≡ true
