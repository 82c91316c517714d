-- A journal that is opened for a run, in its next epoch.
use Rattle.std.proofs.Common.{◌≡◌, ℕ, ◌+◌, ◌≤◌, inl, inr, arith, true, List, [], ◌∷◌, ◌++◌, Result, Ok, Err, refl, sym, ◌∙◌, ap, subst}
use Rattle.rx_disk.specs.declared.disk.Disk.{Ghosts}
use Rattle.rx_disk.proofs.Moments.{started}
use Rattle.rx_collection.specs.Held.{Held}
use Rattle.rx_journal.specs.Reading.{IsUntouched}
use Rattle.rx_journal.specs.declared.journal.Journal.{Journal}
use Rattle.rx_observe.specs.Observing.{Observing}
use Rattle.rx_outside.specs.Failed.{Rises}
use Rattle.rx_outside.specs.declared.stop.Stop.{Stop}
use Rattle.rx_outside.specs.declared.stop.Stop.TheVariants.{Memory}
use Rattle.rx_record.specs.Content.{epoch, content_bytes}
use Rattle.rx_session.specs.Placed.{AreUnwatched, IsUnwatched}
use Rattle.rx_store.specs.Holds.{Holds, IsLegalFile, StandsLegally}
use Rattle.rx_store.specs.Safe.{HasDiskCause, IsCrashSafe}
use Rattle.rx_store.proofs.Crashes.{ran_out, then}
use Rattle.rx_store.proofs.Growing.{held_alike, none_yet}
use Rattle.rx_store.proofs.Stops.{same_cause}
use Rattle.rx_world.specs.Holders.{AreMadeFor}
use Rattle.rx_world.specs.Step.{step, legal}
use Rattle.rx_world.specs.World.{World}
use Rattle.rx_world.proofs.Steps.{epoch_legal}
use Rattle.rx_engine.specs.Opening.{epoch_body, next_epoch}

-- no query is observed in what was made without one
pub unwatched_all : (Makes : Held → Observing → Type 0) (ls : List (List ℕ × Observing))
    → ((c : Held) (l : Observing) → Makes c l → IsUnwatched l)
    → AreMadeFor Makes ls → AreUnwatched ls
unwatched_all Makes [] new made = tt
unwatched_all Makes (l ∷ ls) new made =
    (new made.0.0 l.1 made.0.1, unwatched_all Makes ls new made.1)

-- a journal was opened, and the record of the next epoch was kept, or wasn't
pub begun_safely : {D A : Type 0} (d : Ghosts D) (old mid new : D) (journal : Journal)
    (bodies : List (List ℕ)) (w : World) (n limit : ℕ) (P : A → List (List ℕ) → Type 0) (x : A)
    (r : Result Journal Stop) → IsCrashSafe d old mid bodies [] limit P (Ok x)
    → Holds d mid journal (bodies ++ []) w → journal.limit ≡ limit → n ≡ w.epoch + 1
    → (legal (epoch n) w ≡ true
    → IsCrashSafe d mid new (bodies ++ []) (content_bytes (epoch n) ∷ [])
    journal.limit (λ kept all. Holds d new kept all (step (epoch n) w)) r)
    → IsCrashSafe d old new bodies (epoch_body w ∷ []) limit
    (λ kept all. Holds d new kept all (next_epoch w)) r
begun_safely d old mid new journal bodies w n limit P x r opened holds limits is kept =
    let fits : legal (epoch n) w ≡ true = ap (λ (k : ℕ). legal (epoch k) w) is ∙ epoch_legal w in
    let here =
    subst (λ (l : ℕ). IsCrashSafe d mid new (bodies ++ []) (content_bytes (epoch n) ∷ []) l
    (λ kept all. Holds d new kept all (step (epoch n) w)) r) limits (kept fits) in
    let next =
    subst (λ (k : ℕ). IsCrashSafe d mid new (bodies ++ []) (content_bytes (epoch k) ∷ []) limit
    (λ kept all. Holds d new kept all (step (epoch k) w)) r) is here in
    then d old mid new bodies [] (epoch_body w ∷ []) limit P
    (λ kept all. Holds d new kept all (next_epoch w))
    x r opened (held_alike d mid journal (bodies ++ []) w holds) next

-- the record of the next epoch, by any number that is the next one
pub by_number : {D A : Type 0} (d : Ghosts D) (old new : D) (bodies : List (List ℕ)) (w : World)
    (n limit : ℕ) → n ≡ w.epoch + 1 → (P : A → List (List ℕ) → Type 0) (r : Result A Stop)
    → IsCrashSafe d old new bodies (epoch_body w ∷ []) limit P r
    → IsCrashSafe d old new bodies (content_bytes (epoch n) ∷ []) limit P r
by_number d old new bodies w n limit is P r safe =
    subst (λ (k : ℕ). IsCrashSafe d old new bodies (content_bytes (epoch k) ∷ []) limit P r)
    (sym is) safe

-- ---- nothing was done yet

module _ {D : Type 0} (d : Ghosts D) (disk : D)
    (only_now : (c : List ℕ) → d.image_since disk (d.moment disk) c → d.image disk c) where
  pub untouched : IsUntouched d disk disk
  untouched = record {
    same = refl;
    crash = λ c now. now;
    moments = started d disk (d.image disk) only_now;
  }

  pub not_begun : {A : Type 0} (bodies more : List (List ℕ)) (w : World) (limit : ℕ)
      (P : A → List (List ℕ) → Type 0) (r : Result A Stop) → r ≡ Err Memory
      → IsLegalFile (d.content disk) bodies w → IsCrashSafe d disk disk bodies more limit P r
  not_begun bodies more w limit P r is lawful =
      ran_out d disk disk bodies more limit P r is
      (λ alike. started d disk (StandsLegally bodies more)
      (λ c left. none_yet bodies more w c lawful (alike c (only_now c left))))

-- a stop behind what went well shows in the disk's count from the beginning on
rises_before : (x y z : ℕ) → x ≤ y → Rises y z → Rises x z
rises_before x y z low (inl rises) = inl (omega (low, rises, arith))
rises_before x y z low (inr most) = inr most

pub cause_behind : {A B : Type 0} (first mid last : ℕ) (stop : Stop) (r : Result B Stop)
    → r ≡ Err stop → first ≤ mid → HasDiskCause {A = A} mid last (Err stop)
    → HasDiskCause {A = B} first last r
cause_behind {A} {B} first mid last stop r is begun cause =
    same_cause {A = A} first last stop r is (record {
      later = omega (begun, cause.later, arith);
      failed = λ h. rises_before first mid last begun (cause.failed h);
    })
