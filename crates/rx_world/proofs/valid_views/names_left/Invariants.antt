use Rattle.std.proofs.Common.{◌≡◌, ℕ, List, true, is_some, length}
use Rattle.std.specs.List.{list_all}
use Rattle.rx_record.specs.Views.{pairs_left, state_in}
use Rattle.rx_schema.specs.Lent.{takes}
use Rattle.rx_schema.specs.Validity.{first_missing}
use Rattle.rx_value.specs.Named.{named}
use Rattle.rx_world.proofs.valid_views.names_left.Given as goal

-- the fields that are left decide, each of them is a field of the state, and of the names that are
-- left the same is missing as of all
abbrev pub invariant-loop-pair : goal.invariant-loop-pair
invariant-loop-pair l =
    (list_all (λ p. takes l.schema p.0 p.1) (pairs_left l.pairs)
    ≡ list_all (λ p. takes l.schema p.0 p.1) (state_in l.state).fields)
    × ((k : List ℕ) → is_some (named (pairs_left l.pairs) k) ≡ true
    → is_some (named (state_in l.state).fields k) ≡ true)
    × (first_missing l.names (state_in l.state).fields
    ≡ first_missing l.schema.required (state_in l.state).fields)

abbrev pub decreases-loop-pair : goal.decreases-loop-pair
decreases-loop-pair l = length (pairs_left l.pairs)
