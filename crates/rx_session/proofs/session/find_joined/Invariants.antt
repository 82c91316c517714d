use Rattle.std.proofs.Common.{◌≡◌, Bool, drop}
use Rattle.std.specs.List.{find}
use Rattle.rx_world.specs.Migrating.{is_in_group}
use Rattle.rx_session.specs.Placed.{world_of}
use Rattle.rx_session.specs.declared.query_place.QueryPlace.{QueryPlace}
use Rattle.rx_session.proofs.session.find_joined.Given as goal

-- the places to come decide
abbrev pub invariant-loop-place : goal.invariant-loop-place
invariant-loop-place l =
    let joined : QueryPlace → Bool =
    λ p. is_in_group (world_of l.world).replications l.name p.coll in
    find joined (drop l.place-index l.places) ≡ find joined l.places
