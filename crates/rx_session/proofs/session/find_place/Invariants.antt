use Rattle.std.proofs.Common.{◌≡◌, drop}
use Rattle.rx_session.specs.Placed.{place_named}
use Rattle.rx_session.proofs.session.find_place.Given as goal

-- the places to come decide
abbrev pub invariant-loop-place : goal.invariant-loop-place
invariant-loop-place l =
    place_named l.name (drop l.place-index l.places) ≡ place_named l.name l.places
