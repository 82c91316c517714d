-- Answers as the bits of a number.
use Rattle.std.proofs.Common.{◌≡◌, ℕ, zero, suc, ◌*◌, ◌^◌, ◌<◌, Bool, false, eqb, List, [], ◌∷◌, get_or, length, map, refl, sym, ap, ◌∙◌, arith}
use Rattle.std.proofs.lemmas.Nat.Bits.{bit_at-suc, bit_at_lowest, bit_at-zero}
use Rattle.rx_query.specs.States.{number, number_of}
use Rattle.rx_table.specs.States.{all_states, holds, is_set, index_of, state_count}
use Rattle.rx_table.specs.Rows.{action_of, table_of}
use Rattle.rx_table.specs.declared.states.StateName.{StateName}
use Rattle.rx_table.specs.declared.states.StateName.TheVariants.{IsInsert, IsUpdate, IsDelete, HasLimit, IsFindOne, HasSkip, WasResultsEmpty, PreviousUnknown, WasLimitReached, SortParamsChanged, WasInResult, WasFirst, WasLast, WasSortedBeforeFirst, WasSortedAfterLast, IsSortedBeforeFirst, IsSortedAfterLast, WasMatching, DoesMatchNow}
use Rattle.rx_table.proofs.Bits.{half, odd, small_step}

-- each bit by its place
set-number : (i : ℕ) (bs : List Bool) → is_set (number bs) i ≡ get_or bs i false
set-number i [] = ap (λ k. eqb k 1) (bit_at-zero i)
set-number zero (b ∷ bs) = ap (λ k. eqb k 1) (bit_at_lowest (number (b ∷ bs))) ∙ odd b (number bs)
set-number (suc i) (b ∷ bs) = ap (λ k. eqb k 1) (bit_at-suc (number (b ∷ bs)) i)
    ∙ ap (λ n. is_set n i) (half b (number bs)) ∙ set-number i bs

-- a state is at its number
at : (is : StateName → Bool) (s : StateName) → get_or (map is all_states) (index_of s) false ≡ is s
at is IsInsert = refl
at is IsUpdate = refl
at is IsDelete = refl
at is HasLimit = refl
at is IsFindOne = refl
at is HasSkip = refl
at is WasResultsEmpty = refl
at is PreviousUnknown = refl
at is WasLimitReached = refl
at is SortParamsChanged = refl
at is WasInResult = refl
at is WasFirst = refl
at is WasLast = refl
at is WasSortedBeforeFirst = refl
at is WasSortedAfterLast = refl
at is IsSortedBeforeFirst = refl
at is IsSortedAfterLast = refl
at is WasMatching = refl
at is DoesMatchNow = refl

-- each state holds in the number of the answers as they answer it
pub holds-number_of : (is : StateName → Bool) (s : StateName) → holds (number_of is) s ≡ is s
unfolding number_of
holds-number_of is s = set-number (index_of s) (map is all_states) ∙ at is s

-- the same the other way round
pub state_held : (is : StateName → Bool) (s : StateName) → is s ≡ holds (number_of is) s
state_held is s = sym (holds-number_of is s)

-- the table of the number of the answers
pub table_of-number_of : (is : StateName → Bool) → table_of (number_of is) ≡ action_of is
table_of-number_of is = ap action_of (λ i s. holds-number_of is s i)

-- so many bits stay below that power
number-small : (bs : List Bool) → number bs < 2 ^ length bs
number-small [] = omega arith
number-small (b ∷ bs) = let e : 2 ^ suc (length bs) ≡ 2 * 2 ^ length bs = omega arith in
    rw e (small_step b (number bs) (2 ^ length bs) (number-small bs))

-- the number of the answers is in range
pub number_of_in_range : (is : StateName → Bool) → number_of is < 2 ^ state_count
unfolding number_of
number_of_in_range is = number-small (map is all_states)
