-- What fields hold before a change and after it.
use Rattle.std.specs.Prelude.{◌≡◌, ℕ, List, Option, Some, None, option_map}
use Rattle.std.specs.Option.{ForSome}
use Rattle.rx_value.specs.Fields.{Pairs}
use Rattle.rx_value.specs.Named.{named}
use Rattle.rx_value.specs.declared.value.Value.{Value}
use Rattle.rx_document.specs.declared.change.Change.{Change}
use Rattle.rx_query.specs.States.{live_before}
use Rattle.rx_states.specs.declared.sides.Both.{Both}
use Rattle.rx_states.specs.declared.sides.Looked.{Looked}
use Rattle.rx_states.specs.declared.sides.Sides.TheInside.{Inside}

-- the value of a name, where there are fields
abbrev pub value_in : List ℕ → Option Pairs → Option Value
value_in name None = None
value_in name (Some x) = named x name

-- the values are those of that field
pub record TellBoth (c : Change) (name : List ℕ) (both : Both) : Type 0 where
  pub before : option_map (λ v. v.now) both.before ≡ value_in name (live_before c.before)
  pub after : option_map (λ v. v.now) both.after ≡ value_in name c.after

-- so they are of the field that was looked up
abbrev pub IsLooked : Change → Looked → Type 0
IsLooked c l = TellBoth c l.name.now l.both

-- each look-up that is kept is one of the change
pub record AreLooked (s : Inside) : Type 0 where
  pub selected : ForSome s.selected (IsLooked s.change.now)
  pub sorted : ForSome s.sorted (IsLooked s.change.now)
