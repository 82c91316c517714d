-- What a disk holds of commits.
use Rattle.std.specs.Prelude.{◌≡◌, ◌≤◌, ◌⊎◌, ℕ, List, [], ◌++◌, Option, Some}
use Rattle.rx_disk.specs.declared.disk.Disk.{Ghosts}
use Rattle.rx_frame.specs.File.{end_of}
use Rattle.rx_outside.specs.declared.stop.Stop.{Stop}
use Rattle.rx_outside.specs.declared.stop.Stop.TheVariants.{Full}
use Rattle.rx_serve.specs.Answered.{Commits}
use Rattle.rx_store.specs.Holds.{GrowsLegally, Leaves}
use Rattle.rx_store.specs.Safe.{IsFull}
use Rattle.rx_host.specs.Records.{bodies_of}

-- From one moment to a later one commits to the collection of a name were kept behind the bodies
-- that were there; of more behind them there may be a front, where work on them stopped.
pub record Keeps
    {D : Type 0}
    (d : Ghosts D)
    (old new : D)
    (bodies : List (List ℕ))
    (name : List ℕ)
    (limit : ℕ)
    (sure more : Commits)
    (stop : Option Stop) : Type 0 where
  -- at each moment each image is a legal file of the bodies and a front of these
  pub moments : GrowsLegally d old new bodies (bodies_of name sure ++ bodies_of name more)
  -- and now each image has all that are sure
  pub now : Leaves d new (bodies ++ bodies_of name sure) (bodies_of name more)
  -- the limit: the record that would end past it was left out
  pub fits : (sure ≡ []) ⊎ (end_of (bodies ++ bodies_of name sure) ≤ limit)
  pub full : (would most : ℕ) → stop ≡ Some (Full would most)
      → (most ≡ limit)
      × IsFull d new (bodies ++ bodies_of name sure) (bodies_of name more) would most
