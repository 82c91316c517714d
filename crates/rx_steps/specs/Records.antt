-- The steps of a record.
use Rattle.std.specs.Prelude.{◌≡◌, ◌≢◌, ℕ, true, List, [], ◌∷◌, map, if◌then◌else◌, Option, Some}
use Rattle.std.specs.Str.{bytes_eq}
use Rattle.rx_value.specs.Named.{named}
use Rattle.rx_value.specs.declared.state.State.{State}
use Rattle.rx_collection.specs.Held.{Held}
use Rattle.rx_collection.specs.Migrated.{state_after}
use Rattle.rx_record.specs.Content.{Content, replication, exchange, epoch, migration}
use Rattle.rx_record.specs.Writable.{IsOrdered}
use Rattle.rx_record.specs.declared.record.MasterName.TheVariants.{Local}
use Rattle.rx_record.specs.declared.record.RowOut.{RowOut}
use Rattle.rx_replication.specs.Steps.{Step, System, AreLawfulSteps, run, start}
use Rattle.rx_replication.specs.Steps.Step.{CommitFork, CommitMaster, Migrate, Restart}
use Rattle.rx_replication.specs.Taking.{Resolve}
use Rattle.rx_sync.specs.Asks.{Asks, forgotten, no_asks}
use Rattle.rx_world.specs.Made.{IsMadeWorld}
use Rattle.rx_world.specs.Migrating.{is_in_group}
use Rattle.rx_world.specs.Step.{legal, step}
use Rattle.rx_world.specs.Touch.{Touch, new_collection, new_rows, no_collection, remade, touch}
use Rattle.rx_world.specs.World.{World}
use Rattle.rx_world.specs.declared.replication.Replication.{Replication}
use Rattle.rx_steps.specs.Shows.{Shows}

-- ---- which steps

-- the states of rows
abbrev pub states_of : List RowOut → List State
states_of written = map (λ row. row.state) written

-- rows that were written to a collection at that time are a commit of the fork, of the master, or
-- of neither
abbrev pub commit_steps : List ℕ → List ℕ → List ℕ → ℕ → List RowOut → List Step
commit_steps fork master name lwt written =
    if bytes_eq name fork then CommitFork (states_of written) lwt ∷ []
    else if bytes_eq name master then CommitMaster (states_of written) lwt ∷ [] else []

-- those of what is touched: a migration of the fork changes each state by its steps
abbrev pub touch_steps : List ℕ → List ℕ → Touch → List Step
touch_steps fork master no_collection = []
touch_steps fork master (new_collection name schema) = []
touch_steps fork master (new_rows name lwt written) = commit_steps fork master name lwt written
touch_steps fork master (remade in_group schema steps) =
    if in_group fork then Migrate (state_after steps) ∷ [] else []

-- those of a record beside a fork and a master of these names; an epoch touches no collection
abbrev pub record_steps : List ℕ → List ℕ → World → Content → List Step
record_steps fork master w (epoch number) = Restart ∷ []
record_steps fork master w other = touch_steps fork master (touch other w)

-- ---- records beside a replication

-- it is no exchange of the replication of that name
abbrev pub IsBeside : List ℕ → Content → Type 0
IsBeside name (exchange other lwt written known up down) = other ≢ name
IsBeside name other = Unit {0}

-- what is remembered of the requests of a fork behind a record: nothing behind an epoch, and no
-- request behind a migration of the fork
abbrev pub asks_behind : List ℕ → World → Content → Asks → Asks
asks_behind fork w (epoch number) a = no_asks
asks_behind fork w (migration name text steps) a =
    if is_in_group w.replications name fork then forgotten a else a
asks_behind fork w other a = a

-- it may come next beside that replication
pub record MayComeBeside (w : World) (name : List ℕ) (c : Content) : Type 0 where
  pub lawful : legal c w ≡ true
  pub ordered : IsOrdered c
  pub beside : IsBeside name c

-- every such record is its steps
abbrev pub RecordsAreSteps : Type 0
RecordsAreSteps =
    (w : World) (a : Asks) (name : List ℕ) (r : Replication) (master : List ℕ) (by : Resolve)
    (s : System) (c : Content) → IsMadeWorld w → named w.replications name ≡ Some r
    → r.master ≡ Local master → MayComeBeside w name c → Shows a w name s
    → AreLawfulSteps (record_steps r.fork master w c)
    × Shows (asks_behind r.fork w c a) (step c w) name (run by (record_steps r.fork master w c) s)

-- ---- a new replication

-- behind the record of a replication the world shows a system in which nothing is known
abbrev pub ReplicationsBegin : Type 0
ReplicationsBegin =
    (w : World) (name fork master handler : List ℕ) (field : Option (List ℕ))
    (fork_held master_held : Held) → IsMadeWorld w
    → legal (replication name fork (Local master) handler field) w ≡ true
    → named w.collections fork ≡ Some fork_held → named w.collections master ≡ Some master_held
    → Shows no_asks (step (replication name fork (Local master) handler field) w) name
    (start fork_held master_held w.epoch)
