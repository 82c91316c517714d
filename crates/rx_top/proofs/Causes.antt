-- Early ends that are handed on, and their causes.
use Rattle.std.proofs.Common.{◌≡◌, ◌≤◌, Result, Ok, Err, IsErrOf, refl, ap, subst, arith}
use Rattle.rx_disk.specs.declared.disk.Disk.{Ghosts}
use Rattle.rx_outside.proofs.Counts.{rises_later}
use Rattle.rx_outside.specs.Failed.{Rises}
use Rattle.rx_outside.specs.declared.sink.Sink.{Ghosts as SinkGhosts}
use Rattle.rx_outside.specs.declared.source.Source.{Ghosts as SourceGhosts}
use Rattle.rx_outside.specs.declared.stop.Stop.{Stop}
use Rattle.rx_outside.specs.declared.stop.Stop.TheVariants.{Disk, NotJournal, Full, Memory}
use Rattle.rx_top.specs.Causes.{HasCause, HasReadCause, by_any, by_disk, by_disk_or_memory, never_read, source_failed}
use Rattle.rx_top.specs.declared.early_end.EarlyEnd.{EarlyEnd}
use Rattle.rx_top.specs.declared.early_end.EarlyEnd.TheVariants.{Read, Sink, Work}
use Rattle.rx_top.specs.declared.early_end.ReadFault.{ReadFault}
use Rattle.rx_top.specs.declared.early_end.ReadFault.TheVariants as fault

-- ---- what of them may come

-- a source's cause, read at the fault
pub read_so : {S A : Type 0} (s : SourceGhosts S) (source mid last : S) (why : ReadFault)
    → s.faults source ≤ s.faults mid
    → HasReadCause {A = A} (s.faults mid) (s.faults last) (Err why)
    → source_failed s source last why
read_so s source mid last fault.Failed before cause =
    rises_later (s.faults source) (s.faults mid) (s.faults last) before (cause.failed refl)
read_so s source mid last fault.TooLong before cause = tt
read_so s source mid last fault.Memory before cause = tt

-- an end that never comes may come
pub unread : (OnRead : ReadFault → Type 0) (why : ReadFault) → never_read why → OnRead why
unread OnRead why none = absurd none

pub or_memory : (why : Stop) → by_disk why → by_disk_or_memory why
or_memory Disk so = tt
or_memory NotJournal so = so
or_memory (Full would most) so = so
or_memory Memory so = tt

pub or_any : (NoJournal : Type 0) (why : Stop) → by_disk_or_memory why → by_any NoJournal why
or_any NoJournal Disk so = tt
or_any NoJournal NotJournal so = absurd so
or_any NoJournal (Full would most) so = tt
or_any NoJournal Memory so = tt

pub any_so : (NoJournal : Type 0) (why : Stop) → (why ≡ NotJournal → NoJournal)
    → by_any NoJournal why
any_so NoJournal Disk so = tt
any_so NoJournal NotJournal so = so refl
any_so NoJournal (Full would most) so = tt
any_so NoJournal Memory so = tt

pub other_journal : (P Q : Type 0) → (P → Q) → (why : Stop) → by_any P why → by_any Q why
other_journal P Q f Disk so = tt
other_journal P Q f NotJournal so = f so
other_journal P Q f (Full would most) so = tt
other_journal P Q f Memory so = tt

pub disk_so : (why : Stop) → why ≡ Disk → by_disk why
disk_so Disk is = tt
disk_so NotJournal is = cc
disk_so (Full would most) is = cc
disk_so Memory is = cc

-- ---- one end

module _
    {K D A : Type 0} (k : SinkGhosts K) (d : Ghosts D) (OnRead : ReadFault → Type 0)
    (OnStop : Stop → Type 0) (out out' : K) (disk disk' : D)
    (sink_faults : k.faults out ≤ k.faults out') (disk_faults : d.faults disk ≤ d.faults disk')
  where
    -- none
    pub ok_cause : (x : A) → HasCause k d OnRead OnStop out out' disk disk' (Ok x)
    ok_cause x = record {
      sink = λ is. cc;
      disk = λ is. cc;
      read = λ why is. absurd (cc);
      stop = λ why is. absurd (cc);
      sink_faults = sink_faults;
      disk_faults = disk_faults;
    }

    -- the sink failed
    pub sunk_cause : Rises (k.faults out) (k.faults out')
        → HasCause {A = A} k d OnRead OnStop out out' disk disk' (Err Sink)
    sunk_cause failed = record {
      sink = λ is. failed;
      disk = λ is. cc;
      read = λ why is. absurd (cc);
      stop = λ why is. absurd (cc);
      sink_faults = sink_faults;
      disk_faults = disk_faults;
    }

    -- work stopped
    pub stop_cause : (why : Stop) → OnStop why
        → (why ≡ Disk → Rises (d.faults disk) (d.faults disk'))
        → HasCause {A = A} k d OnRead OnStop out out' disk disk' (Err (Work why))
    stop_cause why so failed = record {
      sink = λ is. cc;
      disk = λ is. let same : why ≡ Disk = cc in failed same;
      read = λ other is. absurd (cc);
      stop = λ other is. let same : why ≡ other = cc in subst OnStop same so;
      sink_faults = sink_faults;
      disk_faults = disk_faults;
    }

    -- reading failed
    pub read_cause : (why : ReadFault) → OnRead why
        → HasCause {A = A} k d OnRead OnStop out out' disk disk' (Err (Read why))
    read_cause why so = record {
      sink = λ is. cc;
      disk = λ is. cc;
      read = λ other is. let same : why ≡ other = cc in subst OnRead same so;
      stop = λ other is. absurd (cc);
      sink_faults = sink_faults;
      disk_faults = disk_faults;
    }

-- ---- an end that is handed on

-- work was done before, and may end otherwise too
pub later_cause : {K D A : Type 0} (k : SinkGhosts K) (d : Ghosts D) (P Q : ReadFault → Type 0)
    (R S : Stop → Type 0) (out0 out1 out2 : K) (disk0 disk1 disk2 : D) (r : Result A EarlyEnd)
    → k.faults out0 ≤ k.faults out1 → d.faults disk0 ≤ d.faults disk1
    → ((why : ReadFault) → P why → Q why) → ((why : Stop) → R why → S why)
    → HasCause k d P R out1 out2 disk1 disk2 r → HasCause k d Q S out0 out2 disk0 disk2 r
later_cause k d P Q R S out0 out1 out2 disk0 disk1 disk2 r sinks disks reads stops cause = record {
  sink = λ is.
      rises_later (k.faults out0) (k.faults out1) (k.faults out2) sinks (cause.sink is);
  disk = λ is.
      rises_later (d.faults disk0) (d.faults disk1) (d.faults disk2) disks (cause.disk is);
  read = λ why is. reads why (cause.read why is);
  stop = λ why is. stops why (cause.stop why is);
  sink_faults = omega (arith, sinks, cause.sink_faults);
  disk_faults = omega (arith, disks, cause.disk_faults);
}

same_end : {A B : Type 0} (why e : EarlyEnd) → IsErrOf {T = B} (Err why) e
    → IsErrOf {T = A} (Err why) e
same_end why e is = let same : why ≡ e = cc in ap Err same

-- it is the same, whatever would have been answered
pub same_cause : {K D A B : Type 0} (k : SinkGhosts K) (d : Ghosts D) (P : ReadFault → Type 0)
    (R : Stop → Type 0) (out out' : K) (disk disk' : D) (why : EarlyEnd)
    → HasCause {A = A} k d P R out out' disk disk' (Err why)
    → HasCause {A = B} k d P R out out' disk disk' (Err why)
same_cause k d P R out out' disk disk' why cause = record {
  sink = λ is. cause.sink (same_end why Sink is);
  disk = λ is. cause.disk (same_end why (Work Disk) is);
  read = λ other is. cause.read other (same_end why (Read other) is);
  stop = λ other is. cause.stop other (same_end why (Work other) is);
  sink_faults = cause.sink_faults;
  disk_faults = cause.disk_faults;
}
