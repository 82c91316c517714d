-- What is outside of a master while it serves connections, and how they end there.
use Rattle.std.specs.Prelude.{◌≡◌, ◌⊎◌, ◌≤◌, ℕ, ◌+◌, List, [], ◌∷◌, ◌++◌, length, min, Option, None, Some}
use Rattle.rx_collection.specs.Held.{Held}
use Rattle.rx_outside.specs.Failed.{last_count, many_more, one_more}
use Rattle.rx_outside.specs.Sink.{WritesFront}
use Rattle.rx_outside.specs.Talk.{Talk}
use Rattle.rx_outside.specs.declared.listen.Listen.{Ghosts as DoorGhosts}
use Rattle.rx_outside.specs.declared.sink.Sink.{Ghosts as SinkGhosts}
use Rattle.rx_outside.specs.declared.stop.Stop.{Stop}
use Rattle.rx_outside.specs.declared.stop.Stop.TheVariants.{Memory}
use Rattle.rx_outside.specs.declared.wire.Wire.{Ghosts as WireGhosts}
use Rattle.rx_serve.specs.Answered.{Commits}
use Rattle.rx_serve.specs.Ends.{IsStopped}
use Rattle.rx_serve.specs.declared.ended.Ended.{Ended}
use Rattle.rx_host.specs.Connections.{AreServedOn, IsServedOn, ServedConnection, collection_after, commits_through, connection_line, connection_of, lines_from, moments_of, served_on, talks_of}
use Rattle.rx_host.specs.declared.connections.ServeFault.{ServeFault}
use Rattle.rx_host.specs.declared.connections.ServeFault.TheVariants as fault

-- what is told outside: the ports at which the door was opened, how many wires it gave, the talks
-- at it, and the bytes in the sink
pub record Outside : Type 0 where
  pub opened : List ℕ
  pub accepted : ℕ
  pub talks : List Talk
  pub written : List ℕ

-- by a door and a sink
abbrev pub told_by : {L W K : Type 0} → DoorGhosts L W → SinkGhosts K → L → K → Outside
told_by l k door out = record {
  opened = l.opened door;
  accepted = l.accepted door;
  talks = l.talks door;
  written = k.written out;
}

-- a wire over which nothing went yet
pub record IsNewWire {W : Type 0} (w : WireGhosts W) (wire : W) : Type 0 where
  pub faults : w.faults wire ≡ 0
  pub given : w.tells → w.given wire ≡ []
  pub sent : w.tells → w.sent wire ≡ []

-- a door gave wires at most: it wasn't opened again, and no wire was handed back
pub record OnlyGives {L W : Type 0} (l : DoorGhosts L W) (old new : L) : Type 0 where
  pub opened : l.opened new ≡ l.opened old
  pub broken : l.broken new ≡ l.broken old
  pub talks : l.talks new ≡ l.talks old

-- with the door opened at a port
abbrev pub opened_at : ℕ → Outside → Outside
opened_at port old = record old { opened = old.opened ++ port ∷ [] }

-- with a wire of each connection, their talks, and their lines from a number on
abbrev pub outside_after : ℕ → List ServedConnection → Outside → Outside
outside_after i conns old = record {
  opened = old.opened;
  accepted = many_more (length conns) old.accepted;
  talks = old.talks ++ talks_of conns;
  written = old.written ++ lines_from i conns;
}

-- Connections were served, from one collection to another, and each is told of: its wire and its
-- talk by the door, where wires tell, and its line, by number from i on, by the sink. The door gave
-- no other wire, and wasn't opened again. Of the moments that a clock gave and of the commits that
-- a disk keeps the rest is said.
pub record HaveServed
    (wires sink : Type 0)
    (i : ℕ)
    (c c' : Held)
    (conns : List ServedConnection)
    (old new : Outside)
    (Gives : List ℕ → Type 0)
    (Keeps : Commits → Type 0) : Type 0 where
  pub each : wires → AreServedOn c conns
  pub after : wires → c' ≡ collection_after c conns
  pub opened : wires → new.opened ≡ old.opened
  pub accepted : wires → new.accepted ≡ (outside_after i conns old).accepted
  pub talks : wires → new.talks ≡ (outside_after i conns old).talks
  pub written : sink → new.written ≡ (outside_after i conns old).written
  pub moments : Gives (moments_of conns)
  pub kept : wires → Keeps (commits_through c conns)

-- ---- where it halts

-- how many calls for a connection may fail, one after another
abbrev pub accept_tries : ℕ
accept_tries = 64

-- So many calls of a door failed, as far as counts go.
abbrev pub HasGivenUp : ℕ → ℕ → Type 0
HasGivenUp old new = min (old + accept_tries) last_count ≤ new

-- between two connections: nothing more came, and no wire was given
pub record HaltsBetween
    (wires sink : Type 0)
    (old new : Outside)
    (Gives : List ℕ → Type 0)
    (Leaves : Option Stop → Commits → Commits → Type 0) : Type 0 where
  pub opened : wires → new.opened ≡ old.opened
  pub accepted : wires → new.accepted ≡ old.accepted
  pub talks : wires → new.talks ≡ old.talks
  pub written : sink → new.written ≡ old.written
  pub moments : Gives []
  pub kept : wires → Leaves None [] []

-- at the line of one more: it ended, and a front of its line was written
pub record HaltsAtLine
    (wires sink : Type 0)
    (i : ℕ)
    (c : Held)
    (old new : Outside)
    (Gives : List ℕ → Type 0)
    (Leaves : Option Stop → Commits → Commits → Type 0) : Type 0 where
  pub last : ServedConnection
  pub each : wires → IsServedOn c last
  pub opened : wires → new.opened ≡ old.opened
  pub accepted : wires → new.accepted ≡ one_more old.accepted
  pub talks : wires → new.talks ≡ old.talks ++ last.talk ∷ []
  pub written : sink → WritesFront old.written new.written (connection_line i last.ended)
  pub moments : Gives last.moments
  pub kept : wires → Leaves None (served_on c last).commits []

abbrev pub ended_by : Talk → List ℕ → Ended → ServedConnection
ended_by talk moments ended = record { talk = talk; moments = moments; ended = ended }

-- it ended, and memory was wanting after it; or a stop came within it
abbrev pub BreaksOff
    : Stop → Held → Talk → List ℕ → (Option Stop → Commits → Commits → Type 0) → Type 0
BreaksOff why c talk moments Leaves =
    ((ended : Ended) × (why ≡ Memory) × IsServedOn c (ended_by talk moments ended)
    × Leaves None (served_on c (ended_by talk moments ended)).commits [])
    ⊎ ((stop : Option Stop) × ((stop ≡ Some why) ⊎ (why ≡ Memory))
    × (after : Held) × IsStopped (Leaves stop) (connection_of talk moments c after))

-- Within one more: none of its line was written. Its wire was handed back, unless memory is
-- wanting.
pub record HaltsWithin
    (wires sink : Type 0)
    (why : Stop)
    (c : Held)
    (old new : Outside)
    (Gives : List ℕ → Type 0)
    (Leaves : Option Stop → Commits → Commits → Type 0) : Type 0 where
  pub talk : Talk
  pub moments : List ℕ
  pub breaks : wires → BreaksOff why c talk moments Leaves
  pub opened : wires → new.opened ≡ old.opened
  pub accepted : wires → new.accepted ≡ one_more old.accepted
  pub talks : wires → (new.talks ≡ old.talks ++ talk ∷ [])
      ⊎ ((why ≡ Memory) × (new.talks ≡ old.talks))
  pub written : sink → new.written ≡ old.written
  pub given : Gives moments

-- by its fault
abbrev pub HaltsBy
    : ServeFault → Type 0 → Type 0 → ℕ → Held → Outside → Outside → (List ℕ → Type 0)
    → (Option Stop → Commits → Commits → Type 0) → Type 0
HaltsBy fault.Door wires sink i c old new Gives Leaves = HaltsBetween wires sink old new Gives
    Leaves
HaltsBy fault.Sink wires sink i c old new Gives Leaves =
    HaltsAtLine wires sink i c old new Gives Leaves
HaltsBy (fault.Stopped why) wires sink i c old new Gives Leaves =
    HaltsWithin wires sink why c old new Gives Leaves

-- The door was opened at a port, or it halted there, which may not be noted.
abbrev pub OpensAt : ℕ → ServeFault → List ServedConnection → Outside → Outside → Type 0
OpensAt port halt conns old begun =
    (begun ≡ opened_at port old) ⊎ ((halt ≡ fault.Door) × (conns ≡ []) × (begun ≡ old))

-- it did so after connections that were served, at a door at a port
pub record HaltsAfter
    (fault : ServeFault)
    (port most : ℕ)
    (wires sink : Type 0)
    (i : ℕ)
    (c : Held)
    (old new : Outside)
    (Gives : List ℕ → Type 0)
    (Leaves : Option Stop → Commits → Commits → Type 0) : Type 0 where
  pub conns : List ServedConnection
  pub few : length conns ≤ most
  pub each : wires → AreServedOn c conns
  -- as it was before the first of them
  pub begun : Outside
  pub opened : OpensAt port fault conns old begun
  pub last : HaltsBy fault wires sink (i + length conns) (collection_after c conns)
      (outside_after i conns begun) new
      (λ moments. Gives (moments_of conns ++ moments))
      (λ stop sure more. Leaves stop (commits_through c conns ++ sure) more)

-- why the work stopped, if it did; where memory is wanting it may have stopped for another reason
-- before
abbrev pub IsStopBy : ServeFault → Option Stop → Type 0
IsStopBy fault.Door stop = stop ≡ None
IsStopBy fault.Sink stop = stop ≡ None
IsStopBy (fault.Stopped why) stop = (stop ≡ Some why) ⊎ (why ≡ Memory)
