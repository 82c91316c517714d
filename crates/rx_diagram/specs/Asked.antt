-- Which questions the table still depends on, once those before them are answered.
use Rattle.std.specs.Prelude.{◌≡◌, ◌≢◌, ℕ, zero, suc, ◌+◌, ◌*◌, ◌%◌, ◌<◌, ◌^◌, ◌==◌, ◌&&◌, ◌||◌, ◌↔◌, not, Bool, true, false, List, filter, if◌then◌else◌, count_ones}
use Rattle.std.specs.Int.Bits.{bit_xor}
use Rattle.rx_table.specs.Counts.{action_number}
use Rattle.rx_table.specs.Rows.{table_of}
use Rattle.rx_table.specs.States.{state_count, all_states, index_of, is_set}
use Rattle.rx_table.specs.declared.action.Action.{Action}
use Rattle.rx_table.specs.declared.states.StateName.{StateName}

-- Question i is asked: two numbers agree with these bits on every question before it, differ from
-- each other at it and nowhere else, and have different actions.
pub record Matters (bits i : ℕ) : Type 0 where
  pub one : ℕ
  pub two : ℕ
  pub one_in : one < 2 ^ state_count
  pub two_in : two < 2 ^ state_count
  pub one_before : (j : ℕ) → j < i → is_set one j ≡ is_set bits j
  pub two_before : (j : ℕ) → j < i → is_set two j ≡ is_set bits j
  pub here : is_set one i ≢ is_set two i
  pub others : (j : ℕ) → j ≢ i → is_set one j ≡ is_set two j
  pub apart : table_of one ≢ table_of two

-- a number whose bits are exactly the asked questions
pub record IsAsked (bits asked : ℕ) : Type 0 where
  pub in_range : asked < 2 ^ state_count
  pub exact : (i : ℕ) → i < state_count → is_set asked i ≡ true ↔ Matters bits i

-- the questions of a number's bits, rising
unfoldable pub questions_in : ℕ → List StateName
questions_in asked = filter (λ s. is_set asked (index_of s)) all_states

-- ---- the same as a function

-- one of the numbers below n passes the test
unfoldable pub any_below : ℕ → (ℕ → Bool) → Bool
any_below zero p = false
any_below (suc n) p = p n || any_below n p

-- two actions are one
abbrev pub same_action : Action → Action → Bool
same_action a b = action_number a == action_number b

-- a number agrees with the bits before question i, and has another action where that question is
-- answered the other way
abbrev pub tells : ℕ → ℕ → ℕ → Bool
tells bits i m = (m % 2 ^ i == bits % 2 ^ i)
    && not (same_action (table_of m) (table_of (bit_xor m (2 ^ i))))

-- there is such a number
unfoldable pub is_asked : ℕ → ℕ → Bool
is_asked bits i = any_below (2 ^ state_count) (tells bits i)

-- the number of the first t answers, the first one the lowest bit
unfoldable pub number : ℕ → (ℕ → Bool) → ℕ
number zero answers = 0
number (suc t) answers = (if answers 0 then 1 else 0) + 2 * number t (λ j. answers (suc j))

-- the asked questions as the bits of a number
unfoldable pub asked_of : ℕ → ℕ
asked_of bits = number state_count (is_asked bits)

-- how many they are
abbrev pub asked_count : ℕ → ℕ
asked_count bits = count_ones (asked_of bits)
