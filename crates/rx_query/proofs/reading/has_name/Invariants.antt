use Rattle.std.proofs.Common.{◌≡◌, is_some, drop}
use Rattle.rx_value.specs.Named.{named}
use Rattle.rx_query.proofs.reading.has_name.Given as goal

-- the name is among those that are left, if at all
abbrev pub invariant-loop-known : goal.invariant-loop-known
invariant-loop-known l =
    is_some (named (drop l.known-index l.sorts) l.name) ≡ is_some (named l.sorts l.name)
