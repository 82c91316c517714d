use Rattle.std.proofs.Common.{◌≡◌, drop}
use Rattle.rx_record.specs.Views.{state_in}
use Rattle.rx_schema.specs.Validity.{first_missing}
use Rattle.rx_world.proofs.valid_views.has_each.Given as goal

-- the names that are left decide
abbrev pub invariant-loop-name : goal.invariant-loop-name
invariant-loop-name l =
    first_missing (drop l.name-index l.names) (state_in l.state).fields
    ≡ first_missing l.names (state_in l.state).fields
