use Rattle.std.proofs.Common.{◌≡◌, ◌++◌, drop, string_bytes}
use Rattle.rx_reply.specs.Given.{given_lines}
use Rattle.rx_reply.proofs.given.given_lines.Given as goal

-- the lines so far, before those of the events that are left, are those that are due
abbrev pub invariant-loop-event : goal.invariant-loop-event
invariant-loop-event l =
    given_lines l.given ≡ string_bytes l.text ++ given_lines (drop l.event-index l.given)
