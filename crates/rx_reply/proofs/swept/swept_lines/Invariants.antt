use Rattle.std.proofs.Common.{◌≡◌, ◌++◌, drop, string_bytes}
use Rattle.rx_reply.specs.Swept.{swept_lines}
use Rattle.rx_reply.proofs.swept.swept_lines.Given as goal

-- the lines so far, before those of the turns that are left, are those that are due
abbrev pub invariant-loop-turn : goal.invariant-loop-turn
invariant-loop-turn l =
    swept_lines l.turns ≡ string_bytes l.text ++ swept_lines (drop l.turn-index l.turns)
