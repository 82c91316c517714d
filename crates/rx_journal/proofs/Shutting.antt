-- A gate whose opening failed is shut again.
use Rattle.std.proofs.Common.{◌≡◌, ◌⊎◌, inl, inr, ℕ, ◌+◌, ◌≤◌, List, [], ◌∷◌, ◌++◌, length, take, drop, refl, ◌∙◌, ap, Result, Ok, Err, OnOk, arith}
use Rattle.rx_disk.specs.declared.disk.Disk.{Ghosts}
use Rattle.rx_disk.specs.Bytes.{overwritten}
use Rattle.rx_disk.specs.Disk.{Elapses, Follows, HasCause, Torn}
use Rattle.rx_disk.specs.Moments.{LeavesOnly}
use Rattle.rx_disk.proofs.Moments.{goes_on, leaves_now}
use Rattle.rx_journal.specs.Shutting.{RisesTwice}
use Rattle.rx_outside.specs.Failed.{Rises}

-- a range that is torn twice is torn
torn_again : (at n : ℕ) (old mid new : List ℕ) → Torn at n old mid → Torn at n mid new
    → Torn at n old new
torn_again at n old mid new torn again = record {
  before = again.before ∙ torn.before;
  after = again.after ∙ torn.after;
  no_shorter = omega (arith, torn.no_shorter, again.no_shorter);
  no_longer = omega (arith, torn.no_longer, again.no_longer);
}

-- a byte over one that was torn
over_torn : (at byte : ℕ) (old mid : List ℕ) → Torn at 1 old mid
    → overwritten mid at (byte ∷ []) ≡ overwritten old at (byte ∷ [])
over_torn at byte old mid torn =
    ap (λ (l : List ℕ). l ++ (byte ∷ []) ++ drop (at + 1) mid) torn.before
    ∙ ap (λ (l : List ℕ). take at old ++ (byte ∷ []) ++ l) torn.after

module _ {D : Type 0} (d : Ghosts D) (old mid : D) (at : ℕ)
    (failed : LeavesOnly d old mid (Torn at 1 (d.content old)))
    (counts_now : (t : ℕ) (c : List ℕ) → t ≤ d.moment mid → d.image mid c → d.image_since mid t c)
    (reads_as : d.image mid (d.content mid)) where
  -- what is read after a try that failed
  torn_now : Torn at 1 (d.content old) (d.content mid)
  torn_now = leaves_now d old mid _ failed counts_now (d.content mid) reads_as

  pub still_within : at ≤ length (d.content old) → at ≤ length (d.content mid)
  still_within within = omega (arith, within, torn_now.no_shorter)

  module _ (new : D) where
    pub leaves_shut : Follows (Torn at 1) (d.image mid) (d.image new)
        → Elapses (d.moment mid) (d.moment new) (d.image_since mid) (d.image_since new)
        (d.image new)
        → LeavesOnly d old new (Torn at 1 (d.content old))
    leaves_shut crash time =
        goes_on d old mid new _ failed time
        (λ c now.
        let from = crash c now in
        torn_again at 1 (d.content old) from.0 c
        (leaves_now d old mid _ failed counts_now from.0 from.1) from.2)

    pub shut_or_failed : {T E : Type 0} (shutting : Result T E)
        → Rises (d.faults old) (d.faults mid)
        → OnOk shutting (d.content new ≡ overwritten (d.content mid) at (0 ∷ []))
        → HasCause (d.faults mid) (d.faults new) shutting
        → (d.content new ≡ overwritten (d.content old) at (0 ∷ []))
        ⊎ RisesTwice (d.faults old) (d.faults new)
    shut_or_failed (Ok done) rises written cause =
        inl (written ∙ over_torn at 0 (d.content old) (d.content mid) torn_now)
    shut_or_failed (Err fault) rises written cause =
        inr (d.faults mid, rises, cause.failed refl)
