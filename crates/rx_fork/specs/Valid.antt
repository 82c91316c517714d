-- States that are valid, and what a handler makes of two of them.
use Rattle.std.specs.Prelude.{ℕ, Bool, ◌&&◌, List, is_none}
use Rattle.rx_value.specs.Named.{named}
use Rattle.rx_value.specs.Value.{is_text}
use Rattle.rx_value.specs.declared.state.State.{State}
use Rattle.rx_schema.specs.Validity.{first_fault}
use Rattle.rx_schema.specs.declared.shape.Shape.{Shape}
use Rattle.rx_handler.specs.Resolve.{resolve}
use Rattle.rx_handler.specs.declared.kind.HandlerKind.{HandlerKind}
use Rattle.rx_replication.specs.Taking.{KeepsKey}
use Rattle.rx_replication.specs.Throughout.{KeepsPassing}

-- the fields are valid, and hold the key as their primary key
abbrev pub is_valid : Shape → State → Bool
is_valid schema s =
    is_none (first_fault schema s.fields) && is_text s.key (named s.fields schema.primary)

-- of two states of one key every kind gives one of that key
abbrev pub ResolvesKeys : Type 0
ResolvesKeys = (kind : HandlerKind) (field : List ℕ) → KeepsKey (resolve kind field)

-- and of valid ones a valid one
abbrev pub ResolvesValid : Type 0
ResolvesValid =
    (schema : Shape) (kind : HandlerKind) (field : List ℕ)
    → KeepsPassing (is_valid schema) (resolve kind field)
