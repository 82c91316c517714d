-- What the end of serving tells.
use Rattle.std.specs.Prelude.{◌≡◌, ◌≤◌, ◌⊎◌, ⊤, ℕ, List, [], ◌∷◌, ◌++◌, length, true, false, Result, Ok, Err}
use Rattle.rx_disk.specs.declared.disk.Disk.{Ghosts}
use Rattle.rx_frame.specs.File.{end_of}
use Rattle.rx_host.specs.Connections.{ServedConnection, commits_through, lines_from, moments_of, talks_of}
use Rattle.rx_host.specs.Moments.{GivesMoments}
use Rattle.rx_host.specs.Records.{bodies_of}
use Rattle.rx_host.specs.Worlds.{collection_at, is_served}
use Rattle.rx_outside.specs.Failed.{Rises, many_more}
use Rattle.rx_outside.specs.declared.clock.Clock.{Ghosts as ClockGhosts}
use Rattle.rx_outside.specs.declared.listen.Listen.{Ghosts as DoorGhosts}
use Rattle.rx_outside.specs.declared.sink.Sink.{Ghosts as SinkGhosts}
use Rattle.rx_world.specs.World.{World}
use Rattle.rx_top.specs.ServesCollection.{ServesCollection}
use Rattle.rx_top.specs.Start.{FromStart}
use Rattle.rx_top.specs.declared.serve.Halt.{Halt}
use Rattle.rx_top.specs.declared.serve.Halt.TheVariants.{NoCollection, Fault}

-- serving, from one state of what it reaches to a later one
pub record Served
    {K D L W C : Type 0}
    (k : SinkGhosts K)
    (d : Ghosts D)
    (l : DoorGhosts L W)
    (wires : Type 0)
    (c : ClockGhosts C) : Type 0 where
  pub name : List ℕ
  pub port : ℕ
  pub connections : ℕ
  pub limit : ℕ
  pub status : ℕ
  pub out : K
  pub out' : K
  pub disk : D
  pub disk' : D
  pub door : L
  pub door' : L
  pub clock : C
  pub clock' : C
  pub serves : ServesCollection k d l wires c name port connections limit status out out' disk disk'
      door door' clock clock'

module _
    {K D L W C : Type 0}
    (k : SinkGhosts K)
    (d : Ghosts D)
    (l : DoorGhosts L W)
    (wires : Type 0)
    (c : ClockGhosts C)
    (r : Served k d l wires c)
  where
    -- Exactly so many connections were served: the door was opened and gave a wire of each, which
    -- is told of by the door and by a line, and no other is.
    pub record AreAllServed : Type 0 where
      pub status : r.status ≡ 0
      pub conns : List ServedConnection
      pub all : length conns ≡ r.connections
      pub opened : wires → l.opened r.door' ≡ l.opened r.door ++ r.port ∷ []
      pub accepted : wires → l.accepted r.door' ≡ many_more (length conns) (l.accepted r.door)
      pub talks : wires → l.talks r.door' ≡ l.talks r.door ++ talks_of conns
      pub told : k.tells → k.written r.out' ≡ k.written r.out ++ lines_from 1 conns

    -- what holds by its end; of the faults the record tells (`cause` and `full`)
    abbrev pub EndsSo : Result ⊤ Halt → Type 0
    EndsSo (Ok done) = AreAllServed
    -- the journal doesn't hold the collection, or it is a fork
    EndsSo (Err NoCollection) = FromStart d r.disk (λ bodies w. is_served r.name w ≡ false)
    EndsSo (Err (Fault fault)) = ⊤

    -- nothing outside failed
    pub record IsWellServed : Type 0 where
      pub door : Rises (l.faults r.door) (l.faults r.door') → ⊥
      pub sink : Rises (k.faults r.out) (k.faults r.out') → ⊥
      pub disk : Rises (d.faults r.disk) (d.faults r.disk') → ⊥

    -- All records fit, whatever connections of the talks that the door tells asked for them, at
    -- moments that the clock gave, and however many of their requests were answered.
    abbrev pub AllFit : List (List ℕ) → World → Type 0
    AllFit bodies w =
        (conns : List ServedConnection) → l.talks r.door' ≡ l.talks r.door ++ talks_of conns
        → (c.tells → GivesMoments (c.given r.clock) (c.given r.clock') (moments_of conns))
        → end_of (bodies ++ bodies_of r.name (commits_through (collection_at r.name w) conns))
        ≤ r.limit

-- serving holds to what its end tells
abbrev pub ServingEndsSo
    : {K D L W C : Type 0} → SinkGhosts K → Ghosts D → DoorGhosts L W → Type 0 → ClockGhosts C
    → Type 0
ServingEndsSo k d l wires c =
    (r : Served k d l wires c) → EndsSo k d l wires c r r.serves.ended

-- Completeness: where nothing outside fails, a collection that the journal holds and that is no
-- fork is served to all connections, unless a record has no room or memory is wanting.
abbrev pub ServingIsComplete
    : {K D L W C : Type 0} → SinkGhosts K → Ghosts D → DoorGhosts L W → Type 0 → ClockGhosts C
    → Type 0
ServingIsComplete k d l wires c =
    (r : Served k d l wires c) → FromStart d r.disk (λ bodies w. is_served r.name w ≡ true
    → IsWellServed k d l wires c r
    → AreAllServed k d l wires c r ⊎ (r.status ≡ 8) ⊎ (r.status ≡ 6))

-- And where all records fit, unless memory is wanting.
abbrev pub ServingHasRoom
    : {K D L W C : Type 0} → SinkGhosts K → Ghosts D → DoorGhosts L W → Type 0 → ClockGhosts C
    → Type 0
ServingHasRoom k d l wires c =
    (r : Served k d l wires c) → wires → FromStart d r.disk (λ bodies w.
    is_served r.name w ≡ true → IsWellServed k d l wires c r → AllFit k d l wires c r bodies w
    → AreAllServed k d l wires c r ⊎ (r.status ≡ 6))
