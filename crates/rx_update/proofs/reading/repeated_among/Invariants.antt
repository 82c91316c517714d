use Rattle.std.proofs.Common.{◌≡◌}
use Rattle.serde_json.specs.View.{members_view}
use Rattle.rx_update.specs.Operands.{seen}
use Rattle.rx_update.specs.Reading.{repeated_among}
use Rattle.rx_update.proofs.reading.repeated_among.Given as goal

-- the fields that are left decide
abbrev pub invariant-loop-name : goal.invariant-loop-name
invariant-loop-name l =
    repeated_among (seen l.operands) (members_view l.fields.entries)
    ≡ repeated_among (seen l.operands) (members_view l.name-iterator)
