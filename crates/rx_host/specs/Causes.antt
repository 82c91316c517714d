-- Why serving halts, by the counts of calls that failed.
use Rattle.std.specs.Prelude.{⊤, ℕ, ◌≤◌}
use Rattle.rx_disk.specs.declared.disk.Disk.{Ghosts}
use Rattle.rx_outside.specs.Failed.{Rises}
use Rattle.rx_outside.specs.declared.listen.Listen.{Ghosts as DoorGhosts}
use Rattle.rx_outside.specs.declared.sink.Sink.{Ghosts as SinkGhosts}
use Rattle.rx_outside.specs.declared.stop.Stop.TheVariants.{Disk, NotJournal, Full, Memory}
use Rattle.rx_host.specs.declared.connections.ServeFault.{ServeFault}
use Rattle.rx_host.specs.declared.connections.ServeFault.TheVariants as fault

-- how many calls of a door, a disk and a sink failed
pub record FailedCalls : Type 0 where
  pub door : ℕ
  pub disk : ℕ
  pub sink : ℕ

abbrev pub failed_calls
    : {L W D K : Type 0} → DoorGhosts L W → Ghosts D → SinkGhosts K → L → D → K → FailedCalls
failed_calls l d k door disk out = record {
  door = l.faults door;
  disk = d.faults disk;
  sink = k.faults out;
}

-- none of the counts fell
pub record AreNoLess (old new : FailedCalls) : Type 0 where
  pub door : old.door ≤ new.door
  pub disk : old.disk ≤ new.disk
  pub sink : old.sink ≤ new.sink

-- What failed shows in its count. That the file is no journal never comes, and want of memory and a
-- record without room show in none.
abbrev pub HasHaltCause : ServeFault → FailedCalls → FailedCalls → Type 0
HasHaltCause fault.Door old new = Rises old.door new.door
HasHaltCause fault.Sink old new = Rises old.sink new.sink
HasHaltCause (fault.Stopped Disk) old new = Rises old.disk new.disk
HasHaltCause (fault.Stopped NotJournal) old new = ⊥
HasHaltCause (fault.Stopped (Full would limit)) old new = ⊤
HasHaltCause (fault.Stopped Memory) old new = ⊤
