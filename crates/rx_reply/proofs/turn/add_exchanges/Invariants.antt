use Rattle.std.proofs.Common.{◌≡◌, ◌+◌, ◌++◌, drop, string_bytes}
use Rattle.rx_reply.specs.Turn.{exchange_lines}
use Rattle.rx_reply.proofs.turn.add_exchanges.Given as goal

-- the lines so far, before those of the exchanges that are left, are those that are due
abbrev pub invariant-loop-i : goal.invariant-loop-i
invariant-loop-i l =
    string_bytes l.initial.text ++ exchange_lines 1 l.exchanges
    ≡ string_bytes l.text ++ exchange_lines (l.i + 1) (drop l.i l.exchanges)
