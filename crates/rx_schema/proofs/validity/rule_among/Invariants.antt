use Rattle.std.proofs.Common.{◌≡◌, drop}
use Rattle.rx_value.specs.Named.{named}
use Rattle.rx_schema.proofs.validity.rule_among.Given as goal

-- the rule is among those of the properties that are left, if at all
abbrev pub invariant-loop-rule : goal.invariant-loop-rule
invariant-loop-rule l =
    named (drop l.rule-index l.rules) l.name ≡ named l.rules l.name
