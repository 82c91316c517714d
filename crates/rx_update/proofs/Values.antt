-- What an operation makes of a value is one that a field holds.
use Rattle.std.proofs.Common.{◌≡◌, ℤ, ◌+ℤ◌, Bool, true, false, Option, Some, None, option_map, Bor, IfSome, if◌then◌else◌, refl, sym, subst}
use Rattle.std.specs.Ordering.{is_lt}
use Rattle.rx_value.specs.Due.{only_if}
use Rattle.rx_value.specs.Order.{order_of}
use Rattle.rx_value.specs.Value.{is_number, is_value}
use Rattle.rx_value.specs.declared.value.Value.{Value}
use Rattle.rx_value.specs.declared.value.Value.TheVariants.{Int}
use Rattle.rx_value.proofs.Outcomes.{some_same, some_then}
use Rattle.rx_update.specs.Updated.{has_value, made, number_in, sum_of}
use Rattle.rx_update.specs.declared.operation.Operation.{Operation}
use Rattle.rx_update.specs.declared.operation.Operation.TheVariants.{Add, Raise, Lower, Set, Unset}

-- where there is a value, a field holds it
abbrev pub IsHeld : Option Value → Type 0
IsHeld o = (v : Value) → o ≡ Some v → is_value v ≡ true

one_held : (v : Value) → is_value v ≡ true → IsHeld (Some v)
one_held v is u at = subst (λ (w : Value). is_value w ≡ true) (some_same at) is

either_held : (b : Bool) (a c : Option Value) → IsHeld a → IsHeld c
    → IsHeld (if b then a else c)
either_held true a c f g = f
either_held false a c f g = g

sum_held : (m n : ℤ) → IsHeld (sum_of m n)
sum_held m n v at =
    elim (is_number (m +ℤ n))
    as (λ b. is_number (m +ℤ n) ≡ b → only_if b (Some (Int (m +ℤ n))) ≡ Some v
    → is_value v ≡ true) [
      | true ↦ (λ is here. one_held (Int (m +ℤ n)) is v here)
      | false ↦ (λ is here. absurd (cc))
    ] refl at

pub made_held : (o : Operation) (held : Option Value) → has_value o ≡ true → IsHeld held
    → IsHeld (made o held)
made_held (Add n) held has is v at =
    let found = some_then (number_in held) (λ m. sum_of m n) v at in
    sum_held found.0 n v found.2
made_held (Raise w) held has is v at =
    either_held (is_lt (order_of held (Some w))) (Some w) held (one_held w has) is v at
made_held (Lower w) None has is v at = one_held w has v at
made_held (Lower w) (Some h) has is v at =
    either_held (is_lt (order_of (Some w) (Some h))) (Some w) (Some h) (one_held w has) is v at
made_held (Set w) held has is v at = one_held w has v at
made_held Unset held has is v at = absurd (cc)

-- what was found is held
pub found_held : (r : Option (Bor Value)) (o : Option Value) → option_map (λ v. v.now) r ≡ o
    → IsHeld o → IfSome r (λ v. is_value v.now ≡ true)
found_held None o is held = tt
found_held (Some v) o is held = held v.now (sym is)
