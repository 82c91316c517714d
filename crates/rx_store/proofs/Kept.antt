-- A record that was to be kept, and wasn't staged.
use Rattle.std.proofs.Common.{◌≡◌, inr, ℕ, ◌+◌, ◌<◌, List, [], ◌∷◌, ◌++◌, length, Err, refl, sym, ◌∙◌, ap, subst, arith, append-nil}
use Rattle.rx_disk.specs.declared.disk.Disk.{Ghosts}
use Rattle.rx_frame.specs.File.{StandsFor, end_of}
use Rattle.rx_frame.proofs.Records.{end_of-push}
use Rattle.rx_journal.specs.Ready.{due_end}
use Rattle.rx_journal.specs.declared.journal.Journal.{Journal}
use Rattle.rx_journal.proofs.Commit.{ready_end}
use Rattle.rx_outside.specs.declared.stop.Stop.{Stop}
use Rattle.rx_outside.specs.declared.stop.Stop.TheVariants.{NotJournal, Full}
use Rattle.rx_record.specs.Content.{Content, content_bytes}
use Rattle.rx_world.specs.World.{World}
use Rattle.rx_store.specs.Holds.{Holds, ImagesStandFor}
use Rattle.rx_store.specs.Safe.{IsCrashSafe, IsFull}
use Rattle.rx_store.specs.Staged.{Stages}
use Rattle.rx_store.proofs.Crashes.{other_stop}
use Rattle.rx_store.proofs.Growing.{held_alike, stays}

-- one body more ends where it ends
end_with : (bodies : List (List ℕ)) (body : List ℕ) (end : ℕ) → end ≡ end_of bodies
    → end + 5 + length body ≡ end_of (bodies ++ body ∷ [])
end_with bodies body end is = omega (arith, is, end_of-push bodies body)

-- the only record that is due would end past the limit, and isn't there
is_full : {D : Type 0} (d : Ghosts D) (disk : D) (bodies : List (List ℕ)) (body : List ℕ)
    (end would limit : ℕ) → end ≡ end_of bodies → would ≡ end + 5 + length body → limit < would
    → StandsFor (d.content disk) bodies → ImagesStandFor d disk bodies
    → IsFull d disk bodies (body ∷ []) would limit
is_full d disk bodies body end would limit is grown past content images =
    let same : bodies ≡ bodies ++ [] = sym (append-nil bodies) in
    record {
      before = [];
      body = body;
      behind = [];
      whole = refl;
      would_end = grown ∙ end_with bodies body end is
          ∙ ap (λ (bs : List (List ℕ)). end_of (bs ++ body ∷ [])) same;
      past = past;
      content = subst (λ (bs : List (List ℕ)). StandsFor (d.content disk) bs) same content;
      images = subst (λ (bs : List (List ℕ)). ImagesStandFor d disk bs) same images;
    }

-- the disk is as it was
pub not_staged : {D A B : Type 0} (d : Ghosts D) (disk : D) (journal new : Journal)
    (bodies : List (List ℕ)) (w : World) (c : Content) (P : B → List (List ℕ) → Type 0)
    (stop : Stop) → Holds d disk journal bodies w
    → ((c : List ℕ) → d.image_since disk (d.moment disk) c → d.image disk c)
    → Stages {A = A} journal new c (Err stop)
    → IsCrashSafe d disk disk bodies (content_bytes c ∷ []) journal.limit P (Err stop)
not_staged {A = A} {B = B} d disk journal new bodies w c P stop holds only_now s = record {
  moments = λ alike. stays d disk journal bodies (content_bytes c ∷ []) w holds only_now;
  at = tt;
  fits = tt;
  full = λ would most e.
      let f = s.full would most (other_stop {A = B} {B = A} stop (Full would most) e) in (
        f.1,
        is_full d disk bodies (content_bytes c) (due_end journal) would most
            (ready_end d disk journal bodies holds.ready) f.0 f.2 (inr holds.ready.whole)
            (held_alike d disk journal bodies w holds),
      );
  not_journal = λ e. s.no_journal (other_stop {A = B} {B = A} stop NotJournal e);
}
