use Rattle.std.proofs.Common.{◌≡◌, ◌+◌, drop}
use Rattle.std.specs.List.{common_prefix_len}
use Rattle.std.specs.Prelude.{nat_eq}
use Rattle.rx_wire.proofs.spelling.common_prefix_len.Given as goal

-- so far the texts are alike
abbrev pub invariant-loop-i : goal.invariant-loop-i
invariant-loop-i l =
    common_prefix_len nat_eq l.text l.line
    ≡ l.i + common_prefix_len nat_eq (drop l.i l.text) (drop l.i l.line)
