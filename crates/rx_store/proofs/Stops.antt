-- Stops that are handed on, and whether the disk is their cause.
use Rattle.std.proofs.Common.{◌≡◌, ◌≤◌, ◌∙◌, ap, sym, subst, ℕ, Result, Ok, Err}
use Rattle.std.specs.Result.{IsErrAnd}
use Rattle.std.proofs.lemmas.Result.{err_from_is_err_and}
use Rattle.rx_outside.specs.declared.stop.Stop.{Stop}
use Rattle.rx_outside.specs.declared.stop.Stop.TheVariants.{Disk, Memory, NotJournal}
use Rattle.rx_store.specs.Safe.{HasDiskCause}
use Rattle.rx_store.proofs.Crashes.{other_stop}

-- a fault that is handed on
pub handed_on : {A E : Type 0} (r : Result A E) (e : E) → IsErrAnd r (λ x. x ≡ e) → r ≡ Err e
handed_on {E = E} r e is =
    let err = err_from_is_err_and r is in err.1 ∙ ap (λ (x : E). Err x) err.2

-- where memory ran out, that is the stop
pub memory_stop : {A : Type 0} (r : Result A Stop) → IsErrAnd r (λ e. e ≡ Memory) → r ≡ Err Memory
memory_stop r is = handed_on r Memory is

-- a stop by the disk shows in its count
pub same_cause : {A B : Type 0} (before now : ℕ) (stop : Stop) (r : Result B Stop) → r ≡ Err stop
    → HasDiskCause {A = A} before now (Err stop) → HasDiskCause {A = B} before now r
same_cause {A} {B} before now stop r is cause =
    let moved : HasDiskCause {A = B} before now (Err stop) = record {
      later = cause.later;
      failed = λ h. cause.failed (other_stop {A = B} {B = A} stop Disk h);
    } in
    subst (λ (r : Result B Stop). HasDiskCause before now r) (sym is) moved

-- the disk is no cause of what was answered, nor of a file that is no journal
module _ {A : Type 0} (before now : ℕ) (later : before ≤ now) where
  pub ok_cause : (x : A) → HasDiskCause {A = A} before now (Ok x)
  ok_cause x = record { later = later; failed = λ is. absurd (cc) }

  pub refused_cause : HasDiskCause {A = A} before now (Err NotJournal)
  refused_cause = record { later = later; failed = λ is. absurd (cc) }

pub done_cause : {A B : Type 0} (before now : ℕ) (x : A) (y : B) → HasDiskCause before now (Ok x)
    → HasDiskCause before now (Ok y)
done_cause before now x y cause = ok_cause before now cause.later y

-- nor of a want of memory behind it
pub memory_cause : {A B : Type 0} (before now : ℕ) (x : A) (r : Result B Stop) → r ≡ Err Memory
    → HasDiskCause before now (Ok x) → HasDiskCause before now r
memory_cause {A} {B} before now x r is cause =
    let here : HasDiskCause {A = B} before now (Err Memory) = record {
      later = cause.later;
      failed = λ h. absurd (cc);
    } in
    subst (λ (r : Result B Stop). HasDiskCause before now r) (sym is) here
