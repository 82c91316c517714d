-- The world that the records of a journal make.
use Rattle.std.specs.Prelude.{ℕ, List, [], ◌∷◌, Option, Some, None, Result, Ok, Err}
use Rattle.rx_record.specs.Content.{Content, record_of}
use Rattle.rx_record.specs.declared.at.At.{At}
use Rattle.rx_world.specs.Step.{step_where_legal}
use Rattle.rx_world.specs.World.{World, empty}

-- the world after a body, where it is a record and legal
abbrev pub after_body : Result Content At → World → Option World
after_body (Ok c) w = step_where_legal c w
after_body (Err place) w = None

-- the world after bodies, where each is a record and legal on the world before it
unfoldable pub replay_from : Option World → List (List ℕ) → Option World
replay_from None bodies = None
replay_from (Some w) [] = Some w
replay_from (Some w) (body ∷ bodies) = replay_from (after_body (record_of body) w) bodies

-- from the empty world
abbrev pub replay : List (List ℕ) → Option World
replay bodies = replay_from (Some empty) bodies
