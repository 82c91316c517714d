-- What serving a collection of a journal told outside and left, wherever it ended.
use Rattle.std.specs.Prelude.{◌≡◌, ◌⊎◌, ⊤, ℕ, List, [], length, codes, true, false, Option, None, Some, Result, Ok, Err}
use Rattle.rx_collection.specs.Held.{Held}
use Rattle.rx_host.specs.Connections.{ServedConnection}
use Rattle.rx_host.specs.Outside.{HaltsAfter, HaveServed, Outside, opened_at}
use Rattle.rx_host.specs.Worlds.{collection_at, is_served}
use Rattle.rx_host.specs.declared.connections.ServeFault.TheVariants as fault
use Rattle.rx_outside.specs.declared.stop.Stop.{Stop}
use Rattle.rx_outside.specs.declared.stop.Stop.TheVariants.{Disk, NotJournal, Full, Memory}
use Rattle.rx_serve.specs.Answered.{Commits}
use Rattle.rx_world.specs.World.{World}
use Rattle.rx_top.specs.Stops.{EndsWith, stop_line, stop_status, stop_words}
use Rattle.rx_top.specs.declared.serve.Halt.{Halt}
use Rattle.rx_top.specs.declared.serve.Halt.TheVariants.{NoCollection, Fault}

-- ---- how it ends

-- the status: of all connections served, or of what halted them
abbrev pub served_status : Result ⊤ Halt → ℕ
served_status (Ok done) = 0
served_status (Err (Fault (fault.Stopped why))) = stop_status why
served_status (Err (Fault fault.Door)) = 4
served_status (Err (Fault fault.Sink)) = 5
served_status (Err NoCollection) = 10

-- the last line, which there is none of where all were served, or the sink failed
abbrev pub served_words : Result ⊤ Halt → List ℕ
served_words (Ok done) = []
served_words (Err (Fault (fault.Stopped why))) = stop_words why
served_words (Err (Fault fault.Door)) = stop_line (codes "read")
served_words (Err (Fault fault.Sink)) = []
served_words (Err NoCollection) = stop_line (codes "no_collection")

-- only over a journal does it end so: it was opened
abbrev pub IsOpened : Result ⊤ Halt → Type 0
IsOpened (Ok done) = ⊤
IsOpened (Err (Fault (fault.Stopped (Full would limit)))) = ⊤
IsOpened (Err (Fault (fault.Stopped Disk))) = ⊥
IsOpened (Err (Fault (fault.Stopped NotJournal))) = ⊥
IsOpened (Err (Fault (fault.Stopped Memory))) = ⊥
IsOpened (Err (Fault fault.Door)) = ⊤
IsOpened (Err (Fault fault.Sink)) = ⊤
IsOpened (Err NoCollection) = ⊤

-- before it was known what is served: the disk failed or memory was wanting, or that nothing is
abbrev pub IsEarly : Result ⊤ Halt → Type 0
IsEarly (Err NoCollection) = ⊤
IsEarly (Err (Fault (fault.Stopped Disk))) = ⊤
IsEarly (Err (Fault (fault.Stopped Memory))) = ⊤
IsEarly other = ⊥

-- ---- what was served

-- nothing was: the door wasn't opened and gave no wire, no wire was handed back, nothing was
-- written, and no moment was given
pub record IsIdle (wires sink : Type 0) (old new : Outside) (Gives : List ℕ → Type 0) : Type 0 where
  pub opened : wires → new.opened ≡ old.opened
  pub accepted : wires → new.accepted ≡ old.accepted
  pub talks : wires → new.talks ≡ old.talks
  pub written : sink → new.written ≡ old.written
  pub moments : Gives []

-- A collection of a world was served at a port until it ended so: all connections were, in turn, at
-- a door that was opened there; or the world holds no such collection, or it is a fork; or the
-- journal wasn't opened, or some connections were served, and then it halted.
abbrev pub ServesTo
    : Result ⊤ Halt → Type 0 → Type 0 → List ℕ → ℕ → ℕ → World → Outside → Outside
    → (List ℕ → Type 0) → (Option Stop → Commits → Commits → Type 0) → Type 0
ServesTo (Ok done) wires sink name port connections w old new Gives Leaves =
    (is_served name w ≡ true) × (conns : List ServedConnection) × (length conns ≡ connections)
    × (c : Held)
    × HaveServed wires sink 1 (collection_at name w) c conns (opened_at port old) new Gives
    (λ commits. Leaves None commits [])
ServesTo (Err NoCollection) wires sink name port connections w old new Gives Leaves =
    (is_served name w ≡ false) × IsIdle wires sink old new Gives × Leaves None [] []
ServesTo (Err (Fault f)) wires sink name port connections w old new Gives Leaves =
    ((why : Stop) × (f ≡ fault.Stopped why) × IsIdle wires sink old new Gives
    × Leaves (Some why) [] [])
    ⊎ ((is_served name w ≡ true)
    × HaltsAfter f port connections wires sink 1 (collection_at name w) old new Gives Leaves)

-- ---- both, and the end

-- Serving ended so, and its last line, or a front of it where the sink failed, stands behind the
-- lines of the connections.
pub record HasServed
    (wires sink : Type 0)
    (faults faults' : ℕ)
    (name : List ℕ)
    (port connections : ℕ)
    (w : World)
    (old new : Outside)
    (ended : Result ⊤ Halt)
    (Gives : List ℕ → Type 0)
    (Leaves : Option Stop → Commits → Commits → Type 0) : Type 0 where
  -- what the sink had before the last line
  pub before : List ℕ
  pub served : ServesTo ended wires sink name port connections w old
      (record new { written = before }) Gives Leaves
  pub line : EndsWith sink faults faults' before new.written (served_words ended)
