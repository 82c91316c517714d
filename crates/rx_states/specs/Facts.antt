-- The answers of `Facts`.
use Rattle.std.specs.Prelude.{ℕ, Bool}
use Rattle.rx_query.specs.QuerySpec.{asked}
use Rattle.rx_query.specs.States.{state_of, number_of}
use Rattle.rx_states.specs.declared.facts.Facts.{Facts}
use Rattle.rx_table.specs.declared.states.StateName.{StateName}

-- the states
abbrev pub states_in : Facts → StateName → Bool
states_in f = state_of (asked f.query.now) f.change.now f.results.now

-- the number whose bits they are
abbrev pub bits_in : Facts → ℕ
bits_in f = number_of (states_in f)
