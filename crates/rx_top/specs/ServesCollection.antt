-- The command `serve`: what it promises, wherever it ends.
use Rattle.std.specs.Prelude.{◌≡◌, ◌⊎◌, ⊤, ℕ, List, [], ◌∷◌, ◌++◌, false, Result, Ok, Err}
use Rattle.rx_disk.specs.declared.disk.Disk.{Ghosts}
use Rattle.rx_host.specs.Causes.{AreNoLess, failed_calls}
use Rattle.rx_host.specs.Keeping.{Keeps}
use Rattle.rx_host.specs.Moments.{GivesMoments}
use Rattle.rx_host.specs.Outside.{HasGivenUp, told_by}
use Rattle.rx_host.specs.Records.{bodies_of}
use Rattle.rx_host.specs.Worlds.{is_served}
use Rattle.rx_host.specs.declared.connections.ServeFault.TheVariants as fault
use Rattle.rx_journal.specs.Reading.{IsUntouched}
use Rattle.rx_outside.specs.Failed.{Rises}
use Rattle.rx_outside.specs.declared.clock.Clock.{Ghosts as ClockGhosts}
use Rattle.rx_outside.specs.declared.listen.Listen.{Ghosts as DoorGhosts}
use Rattle.rx_outside.specs.declared.sink.Sink.{Ghosts as SinkGhosts}
use Rattle.rx_outside.specs.declared.stop.Stop.TheVariants.{Disk, NotJournal, Full, Memory}
use Rattle.rx_serve.specs.Answered.{Commits}
use Rattle.rx_store.specs.Holds.{IsIllegalFile, IsJournalOfSome}
use Rattle.rx_store.specs.Safe.{IsFull}
use Rattle.rx_world.specs.World.{World}
use Rattle.rx_top.specs.Serve.{HasServed, IsEarly, IsOpened, served_status}
use Rattle.rx_top.specs.Start.{FromStart, StaysLegal}
use Rattle.rx_top.specs.declared.serve.Halt.{Halt}
use Rattle.rx_top.specs.declared.serve.Halt.TheVariants.{NoCollection, Fault}

-- Why serving ends so. Want of memory is free, and of a record that has no room `full` tells.
abbrev pub HasServeCause
    : {K D L W C : Type 0} → SinkGhosts K → Ghosts D → DoorGhosts L W → K → K → D → D → L → L → C
    → C → Result ⊤ Halt → Type 0
HasServeCause k d l out out' disk disk' door door' clock clock' (Ok done) = ⊤
-- of the collection the headline tells; the door isn't opened, nor the clock asked
HasServeCause k d l out out' disk disk' door door' clock clock' (Err NoCollection) =
    (door' ≡ door) × (clock' ≡ clock)
-- the door failed; once the clock was asked, for a connection, it is given up only where so many of
-- its calls failed
HasServeCause k d l out out' disk disk' door door' clock clock' (Err (Fault fault.Door)) =
    Rises (l.faults door) (l.faults door')
    × ((clock' ≡ clock) ⊎ HasGivenUp (l.faults door) (l.faults door'))
HasServeCause k d l out out' disk disk' door door' clock clock' (Err (Fault fault.Sink)) =
    Rises (k.faults out) (k.faults out')
HasServeCause k d l out out' disk disk' door door' clock clock' (Err (Fault (fault.Stopped Disk))) =
    Rises (d.faults disk) (d.faults disk')
HasServeCause k d l out out' disk disk' door door' clock clock'
    (Err (Fault (fault.Stopped NotJournal))) =
    (d.tells → IsIllegalFile (d.content disk)) × (door' ≡ door) × (clock' ≡ clock)
HasServeCause k d l out out' disk disk' door door' clock clock'
    (Err (Fault (fault.Stopped (Full would limit)))) = ⊤
HasServeCause k d l out out' disk disk' door door' clock clock'
    (Err (Fault (fault.Stopped Memory))) = ⊤

-- Serving a collection of that name at a port to so many connections ended with a status, from one
-- state of its sink, disk, door and clock to a later one. The wires of the door tell what went over
-- them, or don't.
pub record ServesCollection
    {K D L W C : Type 0}
    (k : SinkGhosts K)
    (d : Ghosts D)
    (l : DoorGhosts L W)
    (wires : Type 0)
    (c : ClockGhosts C)
    (name : List ℕ)
    (port connections limit status : ℕ)
    (out out' : K)
    (disk disk' : D)
    (door door' : L)
    (clock clock' : C) : Type 0 where
  -- how it ended, which its status tells
  pub ended : Result ⊤ Halt
  pub is_status : status ≡ served_status ended
  -- What is due was served at the moments that the clock gave, of the connection at which it halted
  -- a front, then comes the stop line. At each moment each image of the disk is a legal file of the
  -- old records and a front of those due, and at its end it has all those of each request of whose
  -- reply a byte was sent.
  pub headline : FromStart d disk (λ bodies w.
      HasServed wires k.tells (k.faults out) (k.faults out') name port connections w
      (told_by l k door out) (told_by l k door' out') ended
      (λ moments. c.tells → GivesMoments (c.given clock) (c.given clock') moments)
      (λ stop sure more. Keeps d disk disk' bodies name limit sure more stop))
  -- Over any disk: the same of all but the disk, in some world.
  pub over_any_disk : (w : World)
      × HasServed wires k.tells (k.faults out) (k.faults out') name port connections w
      (told_by l k door out) (told_by l k door' out') ended
      (λ moments. c.tells → GivesMoments (c.given clock) (c.given clock') moments)
      (λ stop sure more. ⊤)
  -- Also where wires don't tell what they give, each image is a legal file that goes on from the
  -- old records, at each moment of the call and at its end.
  pub legal : FromStart d disk (λ bodies w. StaysLegal d disk disk' bodies)
  -- A file that isn't legal stays as it was, and nothing that a crash leaves is new.
  pub illegal : d.tells → IsIllegalFile (d.content disk) → IsUntouched d disk disk'
  -- The door is opened at most once, and at no other port.
  pub opened : wires → (l.opened door' ≡ l.opened door ++ port ∷ [])
      ⊎ (l.opened door' ≡ l.opened door)
  -- It ended so for that cause, and only over a journal where it needs one.
  pub cause : HasServeCause k d l out out' disk disk' door door' clock clock' ended
  pub stood : d.tells → IsOpened ended → IsJournalOfSome (d.content disk)
  -- A record that is due would end past the limit: only then, the stop line says where, and the
  -- record isn't there.
  pub full : (would most : ℕ) → ended ≡ Err (Fault (fault.Stopped (Full would most)))
      → FromStart d disk (λ bodies w. (sure : Commits) × (more : Commits) × (most ≡ limit)
      × IsFull d disk' (bodies ++ bodies_of name sure) (bodies_of name more) would limit)
  -- Where the journal doesn't hold the collection, or it is a fork, that is told, unless the disk
  -- failed or memory was wanting before that was known.
  pub not_served : FromStart d disk (λ bodies w. is_served name w ≡ false → IsEarly ended)
  -- the counts of calls that failed don't fall
  pub counts : AreNoLess (failed_calls l d k door disk out) (failed_calls l d k door' disk' out')
