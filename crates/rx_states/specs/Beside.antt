-- The answers of `Beside`.
use Rattle.std.specs.Prelude.{ℕ, Bool, false, get_or}
use Rattle.rx_query.specs.States.{number_of}
use Rattle.rx_states.specs.declared.beside.Beside.{Beside}
use Rattle.rx_table.specs.States.{index_of}
use Rattle.rx_table.specs.declared.states.StateName.{StateName}

-- each question's
abbrev pub answer_in : Beside → StateName → Bool
answer_in b which = get_or b.answers (index_of which) false

-- the number whose bits they are
abbrev pub bits_in : Beside → ℕ
bits_in b = number_of (answer_in b)
