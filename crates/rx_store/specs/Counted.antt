-- The records of a journal, counted.
use Rattle.std.specs.Prelude.{◌≡◌, ℕ, List, length, Some}
use Rattle.rx_frame.specs.File.{records}
use Rattle.rx_world.specs.World.{World}
use Rattle.rx_store.specs.Versions.{replay_in}

-- bodies of a file of that version make a world, are so many,
-- and have so many bytes with their gates and lengths
pub record AreCounted (version : ℕ) (bodies : List (List ℕ)) (w : World)
    (count size : ℕ) : Type 0 where
  pub plays : replay_in version bodies ≡ Some w
  pub counted : count ≡ length bodies
  pub sized : size ≡ length (records bodies)
