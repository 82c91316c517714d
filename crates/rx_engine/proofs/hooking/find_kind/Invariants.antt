use Rattle.std.proofs.Common.{◌≡◌, drop}
use Rattle.rx_value.specs.Named.{named}
use Rattle.rx_engine.proofs.hooking.find_kind.Given as goal

-- the hooks that are left decide
abbrev pub invariant-loop-hook : goal.invariant-loop-hook
invariant-loop-hook l = named (drop l.hook-index l.known) l.name ≡ named l.known l.name
