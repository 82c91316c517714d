-- A copy of a world that was seen, into a file that is to be empty.
use Rattle.std.proofs.Common.{inl, ◌≡◌, ◌∙◌, ◌≤◌, ◌<◌, ap, sym, subst, ℕ, List, [], Result, Err, IfOk, IsErrOf, arith}
use Rattle.rx_value.proofs.Outcomes.{if_ok}
use Rattle.rx_disk.specs.declared.disk.Disk.{Ghosts}
use Rattle.rx_disk.specs.Moments.{LeavesOnly}
use Rattle.rx_disk.proofs.Moments.{joined}
use Rattle.rx_frame.specs.File.{end_of}
use Rattle.rx_journal.specs.Reading.{IsUntouched}
use Rattle.rx_outside.proofs.Counts.{rises_later}
use Rattle.rx_outside.specs.declared.stop.Stop.{Stop}
use Rattle.rx_outside.specs.declared.stop.Stop.TheVariants.{Disk, Full, NotJournal}
use Rattle.rx_store.specs.Holds.{IsLegalFile}
use Rattle.rx_store.specs.Versions.{file_version}
use Rattle.rx_world.specs.Copy.{most_copied_epoch}
use Rattle.rx_world.specs.Sound.{IsSoundWorld}
use Rattle.rx_world.specs.World.{World}
use Rattle.rx_compact.specs.Compacting.{Fills, IsEmptyDisk}
use Rattle.rx_compact.specs.Laws.{AreTokened}
use Rattle.rx_compact.specs.Plan.{plan}
use Rattle.rx_compact.specs.Writing.{IsCopied, IsPast, IsSafeCopy, WritesCopy}
use Rattle.rx_compact.specs.declared.compacting.CompactFault.{CompactFault}
use Rattle.rx_compact.specs.declared.compacting.CompactFault.TheVariants.{Epoch, Stopped}
use Rattle.rx_compact.specs.declared.compacting.Compacted.{Compacted}
use Rattle.rx_compact.proofs.Tokens.{revisions_are_tokened}

-- ---- a copy that stopped

module _ {D : Type 0} (d : Ghosts D) (old mid new : D) (w : World) (bytes limit : ℕ)
    (result : Result Compacted CompactFault) where
  -- a file that was empty may hold some of it
  pub not_written : (d.tells → IsUntouched d old mid) → d.faults old ≤ d.faults mid
      → (d.tells → d.content old ≡ []) → IsSoundWorld w → w.epoch ≤ most_copied_epoch
      → (stop : Stop) → WritesCopy d mid new w limit (Err stop) → result ≡ Err (Stopped stop)
      → Fills d old new w bytes limit result
  not_written same later none sound low stop writes is =
      subst (λ (r : Result Compacted CompactFault). Fills d old new w bytes limit r) (sym is)
      (record {
        copied = λ told tokened. tt;
        moments = λ told empty tokened.
            joined d old mid new (d.image old) (IsSafeCopy w) (IsSafeCopy w) (same told).moments
            (writes.moments told sound tokened low) (λ c now. inl (empty.images c now))
            (λ c safe. safe);
        epoch = λ e. absurd (cc);
        exists = λ told e. absurd (cc);
        unmade = λ e. absurd (cc);
        kept = λ told some. absurd (some (none told));
        not_journal = λ e.
            let cause : stop ≡ NotJournal = cc in
            writes.not_journal (ap (λ (s : Stop). Err s) cause);
        full = λ told would most e.
            let cause : stop ≡ Full would most = cc in
            writes.full told would most (ap (λ (s : Stop). Err s) cause);
        later = omega (arith, later, writes.cause.later);
        failed = λ e.
            let cause : stop ≡ Disk = cc in
            rises_later (d.faults old) (d.faults mid) (d.faults new) later
            (writes.cause.failed (ap (λ (s : Stop). Err s) cause));
      })

-- ---- the journal that was seen

-- the revisions of a legal file's world name their collections
tokened_file : (file : List ℕ) (bodies : List (List ℕ)) (w : World) → IsLegalFile file bodies w
    → AreTokened w
tokened_file file bodies w lawful =
    revisions_are_tokened (file_version file) bodies w lawful.plays

-- a file is filled with the world of a legal one
module _ {D : Type 0} (d : Ghosts D) (old new : D) (file : List ℕ) (seen : World) (bytes limit : ℕ)
    (result : Result Compacted CompactFault) (fills : Fills d old new seen bytes limit result)
    (bodies : List (List ℕ)) (w : World) (lawful : IsLegalFile file bodies w)
    (same : seen ≡ w) (long : bytes ≡ end_of bodies) where
  tokened : AreTokened seen
  tokened = subst AreTokened (sym same) (tokened_file file bodies w lawful)

  pub copied_seen : d.tells
      → IfOk result (λ made. IsCopied d new w made.copied × (made.from ≡ end_of bodies))
  copied_seen told =
      if_ok result (λ made. IsCopied d new seen made.copied × (made.from ≡ bytes))
      (λ made. IsCopied d new w made.copied × (made.from ≡ end_of bodies))
      (fills.copied told tokened)
      (λ made is.
      (subst (λ (v : World). IsCopied d new v made.copied) same is.0, is.1 ∙ long))

  pub moments_seen : d.tells → IsEmptyDisk d old → LeavesOnly d old new (IsSafeCopy w)
  moments_seen told empty =
      subst (λ (v : World). LeavesOnly d old new (IsSafeCopy v)) same
      (fills.moments told empty tokened)

  pub epoch_seen : IsErrOf result Epoch → most_copied_epoch < w.epoch
  epoch_seen is = subst (λ (v : World). most_copied_epoch < v.epoch) same (fills.epoch is)

  pub full_seen : d.tells → (would most : ℕ) → IsErrOf result (Stopped (Full would most))
      → (most ≡ limit) × IsPast (plan w) would most
  full_seen told would most is =
      let full = fills.full told would most is in
      (full.0, subst (λ (v : World). IsPast (plan v) would most) same full.1)
