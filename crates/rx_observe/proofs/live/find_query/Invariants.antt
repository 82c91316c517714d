use Rattle.std.proofs.Common.{◌≡◌, drop}
use Rattle.rx_value.specs.Named.{named}
use Rattle.rx_observe.proofs.live.find_query.Given as goal

-- the query is among those that are left, if at all
abbrev pub invariant-loop-known : goal.invariant-loop-known
invariant-loop-known l =
    named (drop l.known-index l.queries) l.name ≡ named l.queries l.name
