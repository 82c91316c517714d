-- Why serving ended so, part by part.
use Rattle.std.proofs.Common.{◌≡◌, ◌≤◌, ◌⊎◌, inl, inr, refl, Result, Ok, Err, IfErr, IsErrOf}
use Rattle.rx_disk.specs.declared.disk.Disk.{Ghosts}
use Rattle.rx_host.specs.Causes.{HasHaltCause, failed_calls}
use Rattle.rx_host.specs.Outside.{HasGivenUp}
use Rattle.rx_host.specs.declared.connections.ServeFault.{ServeFault}
use Rattle.rx_host.specs.declared.connections.ServeFault.TheVariants as fault
use Rattle.rx_host.specs.declared.engine.MasterEngine.{MasterEngine}
use Rattle.rx_outside.proofs.Counts.{rises_later}
use Rattle.rx_outside.specs.declared.listen.Listen.{Ghosts as DoorGhosts}
use Rattle.rx_outside.specs.declared.sink.Sink.{Ghosts as SinkGhosts}
use Rattle.rx_outside.specs.declared.stop.Stop.{Stop}
use Rattle.rx_outside.specs.declared.stop.Stop.TheVariants.{Disk, NotJournal, Full, Memory}
use Rattle.rx_store.specs.Holds.{IsIllegalFile}
use Rattle.rx_store.specs.Safe.{HasDiskCause}
use Rattle.rx_top.specs.ServesCollection.{HasServeCause}
use Rattle.rx_top.specs.declared.serve.Halt.TheVariants.{NoCollection, Fault}
use Rattle.rx_top.proofs.ServedHeads.{ended_of}
use Rattle.rx_top.proofs.ServeEnds.{Ended, stopped}
use Rattle.rx_top.proofs.Stopping.{rises_still}

module _
    {K D L W C : Type 0} (k : SinkGhosts K) (d : Ghosts D) (l : DoorGhosts L W)
    (disk disk' : D) (door door' : L) (clock clock' : C)
  where
    -- connections were served, over the disk as an opening left it, until it halted
    pub halt_cause : (opened : D) → d.faults disk ≤ d.faults opened → (out out' : K)
        (r : Result MasterEngine ServeFault)
        → IfErr r (λ f. HasHaltCause f (failed_calls l d k door opened out)
        (failed_calls l d k door' disk' out'))
        → (IsErrOf r fault.Door → (clock' ≡ clock) ⊎ HasGivenUp (l.faults door) (l.faults door'))
        → HasServeCause k d l out out' disk disk' door door' clock clock' (ended_of r)
    halt_cause opened low out out' (Ok m) cause given_up = tt
    halt_cause opened low out out' (Err fault.Door) cause given_up = (cause, given_up refl)
    halt_cause opened low out out' (Err fault.Sink) cause given_up = cause
    halt_cause opened low out out' (Err (fault.Stopped Disk)) cause given_up =
        rises_later (d.faults disk) (d.faults opened) (d.faults disk') low cause
    halt_cause opened low out out' (Err (fault.Stopped NotJournal)) cause given_up = absurd cause
    halt_cause opened low out out' (Err (fault.Stopped (Full would limit))) cause given_up = tt
    halt_cause opened low out out' (Err (fault.Stopped Memory)) cause given_up = tt

    -- the sink's last line changes none but its own count
    pub cause_then : (f0 f1 f2 : K) → k.faults f0 ≤ k.faults f1 → k.faults f1 ≤ k.faults f2
        → (e : Ended) → HasServeCause k d l f0 f1 disk disk' door door' clock clock' e
        → HasServeCause k d l f0 f2 disk disk' door door' clock clock' e
    cause_then f0 f1 f2 low on (Ok done) cause = tt
    cause_then f0 f1 f2 low on (Err NoCollection) cause = cause
    cause_then f0 f1 f2 low on (Err (Fault fault.Door)) cause = cause
    cause_then f0 f1 f2 low on (Err (Fault fault.Sink)) cause =
        rises_still (k.faults f0) (k.faults f1) (k.faults f2) low on cause
    cause_then f0 f1 f2 low on (Err (Fault (fault.Stopped Disk))) cause = cause
    cause_then f0 f1 f2 low on (Err (Fault (fault.Stopped NotJournal))) cause = cause
    cause_then f0 f1 f2 low on (Err (Fault (fault.Stopped (Full would limit)))) cause = tt
    cause_then f0 f1 f2 low on (Err (Fault (fault.Stopped Memory))) cause = tt

-- the journal wasn't opened
pub unopened_cause : {K D L W C A : Type 0} (k : SinkGhosts K) (d : Ghosts D) (l : DoorGhosts L W)
    (disk disk' : D) (door : L) (clock : C) (out : K) (why : Stop)
    → HasDiskCause {A = A} (d.faults disk) (d.faults disk') (Err why)
    → (d.tells → why ≡ NotJournal → IsIllegalFile (d.content disk))
    → HasServeCause k d l out out disk disk' door door clock clock (stopped why)
unopened_cause k d l disk disk' door clock out Disk cause illegal = cause.failed refl
unopened_cause k d l disk disk' door clock out NotJournal cause illegal =
    (λ told. illegal told refl, refl, refl)
unopened_cause k d l disk disk' door clock out (Full would limit) cause illegal = tt
unopened_cause k d l disk disk' door clock out Memory cause illegal = tt

-- where the door halts it nothing was done, or it was given up
pub given_up_or : (A B C : Type 0) {N : Type 0} → (A × B × C) ⊎ N → C ⊎ N
given_up_or A B C (inl same) = inl same.2
given_up_or A B C (inr given_up) = inr given_up
