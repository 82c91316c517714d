-- An end of a run and its status.
use Rattle.std.proofs.Common.{◌≡◌, ◌≤◌, ◌⊎◌, inl, inr, refl, sym, subst, arith, ℕ, Bool, Result, Ok, Err}
use Rattle.rx_outside.specs.declared.stop.Stop.TheVariants.{Disk, NotJournal, Full, Memory}
use Rattle.rx_top.specs.Stops.{status_of}
use Rattle.rx_top.specs.declared.early_end.EarlyEnd.{EarlyEnd}
use Rattle.rx_top.specs.declared.early_end.EarlyEnd.TheVariants.{Read, Sink, Work}
use Rattle.rx_top.specs.declared.early_end.ReadFault.TheVariants as fault

-- an end that isn't that of the script has a status of its own
least : (why : EarlyEnd) → 2 ≤ status_of (Err why)
least (Work Disk) = omega arith
least (Read fault.Failed) = omega arith
least Sink = omega arith
least (Work Memory) = omega arith
least (Read fault.Memory) = omega arith
least (Work NotJournal) = omega arith
least (Work (Full would limit)) = omega arith
least (Read fault.TooLong) = omega arith

-- a run was played to its end, or its status tells of a stop
pub played_or_stopped : (ended : Result Bool EarlyEnd) (status : ℕ) → status ≡ status_of ended
    → ((refused : Bool) × (ended ≡ Ok refused)) ⊎ (2 ≤ status)
played_or_stopped (Ok refused) status is = inl (refused, refl)
played_or_stopped (Err why) status is = inr (subst (λ (n : ℕ). 2 ≤ n) (sym is) (least why))
