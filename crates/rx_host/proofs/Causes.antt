-- Why serving halts, part by part.
use Rattle.std.proofs.Common.{◌≡◌, refl, sym, subst, Err, IsErrOf, arith}
use Rattle.rx_outside.proofs.Counts.{rises_later}
use Rattle.rx_outside.specs.Failed.{Rises}
use Rattle.rx_outside.specs.declared.stop.Stop.{Stop}
use Rattle.rx_outside.specs.declared.stop.Stop.TheVariants.{Disk, NotJournal, Full, Memory}
use Rattle.rx_store.specs.Safe.{HasDiskCause}
use Rattle.rx_host.specs.Causes.{AreNoLess, FailedCalls, HasHaltCause}
use Rattle.rx_host.specs.declared.connections.ServeFault.{ServeFault}
use Rattle.rx_host.specs.declared.connections.ServeFault.TheVariants as fault

-- counts that didn't fall, and then didn't
pub no_less_on : (a b c : FailedCalls) → AreNoLess a b → AreNoLess b c → AreNoLess a c
no_less_on a b c first second = record {
  door = omega (arith, first.door, second.door);
  disk = omega (arith, first.disk, second.disk);
  sink = omega (arith, first.sink, second.sink);
}

-- the cause of a later part is one of the whole
pub cause_later : (f : ServeFault) (a b c : FailedCalls) → AreNoLess a b → HasHaltCause f b c
    → HasHaltCause f a c
cause_later fault.Door a b c none cause = rises_later a.door b.door c.door none.door cause
cause_later fault.Sink a b c none cause = rises_later a.sink b.sink c.sink none.sink cause
cause_later (fault.Stopped Disk) a b c none cause =
    rises_later a.disk b.disk c.disk none.disk cause
cause_later (fault.Stopped NotJournal) a b c none cause = cause
cause_later (fault.Stopped (Full would limit)) a b c none cause = tt
cause_later (fault.Stopped Memory) a b c none cause = tt

-- a stop of the master
pub stop_cause : {A : Type 0} (why : Stop) (a b : FailedCalls)
    → HasDiskCause {A = A} a.disk b.disk (Err why) → (IsErrOf {T = A} (Err why) NotJournal → ⊥)
    → HasHaltCause (fault.Stopped why) a b
stop_cause Disk a b cause lawful = cause.failed refl
stop_cause NotJournal a b cause lawful = lawful refl
stop_cause (Full would limit) a b cause lawful = tt
stop_cause Memory a b cause lawful = tt

-- a line that wasn't written
pub line_cause : {T : Type 0} (f : ServeFault) (a b : FailedCalls)
    → (IsErrOf {T = T} (Err f) fault.Door → ⊥)
    → ((why : Stop) → IsErrOf {T = T} (Err f) (fault.Stopped why) → why ≡ Memory)
    → (IsErrOf {T = T} (Err f) fault.Sink → Rises a.sink b.sink) → HasHaltCause f a b
line_cause fault.Door a b no_door memory failed = absurd (no_door refl)
line_cause fault.Sink a b no_door memory failed = failed refl
line_cause (fault.Stopped why) a b no_door memory failed =
    subst (λ (s : Stop). HasHaltCause (fault.Stopped s) a b) (sym (memory why refl)) tt
