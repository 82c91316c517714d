-- What two things in turn are ordered by, and what tests of an order tell.
use Rattle.std.proofs.Common.{◌≡◌, true, false, refl}
use Rattle.std.specs.Ordering.{is_eq, is_lt, is_ne, ordering_reverse, ordering_then}
use Rattle.std.specs.declared.cmp.Ordering.{Ordering}
use Rattle.std.specs.declared.cmp.Ordering.TheVariants.{Less, Equal, Greater}

-- both of two orders in turn tie
pub both_tie : (a b : Ordering) → ordering_then a b ≡ Equal → (a ≡ Equal) × (b ≡ Equal)
both_tie Equal b h = (refl, h)
both_tie Less b h = cc
both_tie Greater b h = cc

-- an order that doesn't tie decides alone
pub then_first : (a b : Ordering) → is_ne a ≡ true → ordering_then a b ≡ a
then_first Less b h = refl
then_first Equal b h = cc
then_first Greater b h = refl

-- what is below
pub less_is : (o : Ordering) → is_lt o ≡ true → o ≡ Less
less_is Less h = refl
less_is Equal h = cc
less_is Greater h = cc

-- what neither falls nor ties
pub rises : (o : Ordering) → is_lt (ordering_reverse o) ≡ false → is_eq o ≡ false → o ≡ Less
rises Less h k = refl
rises Equal h k = cc
rises Greater h k = cc
