use Rattle.std.proofs.Common.{◌≡◌, ◌++◌, drop}
use Rattle.rx_session.specs.Playing.{in_places}
use Rattle.rx_session.proofs.playing.in_places.Given as goal

-- those of the first places, and those of the others
abbrev pub invariant-loop-place : goal.invariant-loop-place
invariant-loop-place l =
    l.ordered.items ++ in_places (drop l.place-index l.places) l.due.items
    ≡ in_places l.places l.initial.due.items
