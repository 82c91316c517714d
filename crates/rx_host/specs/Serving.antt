-- What a connection leaves.
use Rattle.std.specs.Prelude.{◌≡◌, ◌≤◌, ℕ, List, [], ◌++◌, Option, None}
use Rattle.rx_disk.specs.declared.disk.Disk.{Ghosts}
use Rattle.rx_outside.specs.declared.stop.Stop.{Stop}
use Rattle.rx_outside.specs.declared.wire.Wire.{Ghosts as WireGhosts}
use Rattle.rx_serve.specs.Answered.{Commits}
use Rattle.rx_serve.specs.Ends.{joined_since}
use Rattle.rx_host.specs.Engine.{IsAt, limit_of, name_of}
use Rattle.rx_host.specs.Keeping.{Keeps}
use Rattle.rx_host.specs.Records.{bodies_of}
use Rattle.rx_host.specs.declared.engine.MasterEngine.{MasterEngine}

-- the disk holds the records of these commits behind those that were there, and they are the
-- master's world
pub record IsKept
    {D : Type 0}
    (d : Ghosts D)
    (old new : D)
    (m m' : MasterEngine)
    (commits : Commits)
    (bodies : List (List ℕ)) : Type 0 where
  pub keeps : Keeps d old new bodies (name_of m) (limit_of m) commits [] None
  pub at : IsAt d new m' (bodies ++ bodies_of (name_of m) commits)

-- so it is, whatever bodies there were
abbrev pub HasKept
    : {D : Type 0} → Ghosts D → D → D → MasterEngine → MasterEngine → Commits → Type 0
HasKept d old new m m' commits =
    d.tells → (bodies : List (List ℕ)) → IsAt d old m bodies → IsKept d old new m m' commits bodies

-- a stop came: the disk holds the sure ones, and a front of the others
abbrev pub HasStopped
    : {D : Type 0} → Ghosts D → D → D → MasterEngine → Option Stop → Commits → Commits → Type 0
HasStopped d old new m stop sure more =
    d.tells → (bodies : List (List ℕ)) → IsAt d old m bodies
    → Keeps d old new bodies (name_of m) (limit_of m) sure more stop

-- Over a wire bytes were sent behind those sent before, what its peer sends stayed what it was, and
-- its count of failed calls didn't fall.
pub record TalksOn {W : Type 0} (w : WireGhosts W) (old new : W) : Type 0 where
  pub sent : w.tells → w.sent new ≡ w.sent old ++ joined_since (w.sent old) (w.sent new)
  pub whole : w.tells → w.given new ++ w.left new ≡ w.given old ++ w.left old
  pub count : w.faults old ≤ w.faults new
