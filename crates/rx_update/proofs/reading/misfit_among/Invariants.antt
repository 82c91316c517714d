use Rattle.std.proofs.Common.{◌≡◌}
use Rattle.serde_json.specs.View.{members_view}
use Rattle.rx_update.specs.Reading.{misfit_among}
use Rattle.rx_update.proofs.reading.misfit_among.Given as goal

-- the fields that are left decide
abbrev pub invariant-loop-name : goal.invariant-loop-name
invariant-loop-name l =
    misfit_among l.operator (members_view l.fields.entries)
    ≡ misfit_among l.operator (members_view l.name-iterator)
