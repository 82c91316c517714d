-- What an engine's disk has behind the bodies that it had, whatever the lines were.
use Rattle.std.proofs.Common.{ℕ, List, [], ◌++◌, Some, Result, Ok, sym, subst, append_assoc, append-nil}
use Rattle.rx_disk.specs.declared.disk.Disk.{Ghosts}
use Rattle.rx_engine.specs.Engine.{IsAt, session_of}
use Rattle.rx_store.specs.Holds.{GrowsLegally}
use Rattle.rx_engine.specs.declared.engine.Engine.{Engine}
use Rattle.rx_outside.specs.declared.stop.Stop.{Stop}
use Rattle.rx_store.specs.Safe.{IsCrashSafe}
use Rattle.rx_store.proofs.Growing.{behind, grows_on, held}
use Rattle.rx_top.specs.Start.{StaysLegal}
use Rattle.rx_top.specs.Work.{HasAll}
use Rattle.rx_top.proofs.Chunks.{CountsNow, OnlyNow, stays_legal, still}
use Rattle.rx_top.proofs.Done.{images_at}

-- each image was legal up to now, and the engine's disk has more bodies
pub record HasGrown
    {D : Type 0}
    (d : Ghosts D)
    (d0 d1 : D)
    (engine : Engine)
    (bodies : List (List ℕ)) : Type 0 where
  pub more : List (List ℕ)
  pub grows : GrowsLegally d d0 d1 bodies more
  pub at : IsAt d d1 engine (bodies ++ more)

module _ {D : Type 0} (d : Ghosts D) where
  pub not_grown : (disk : D) (engine : Engine) (bodies : List (List ℕ)) → OnlyNow d disk
      → IsAt d disk engine bodies → HasGrown d disk disk engine bodies
  not_grown disk engine bodies only_now at = record {
    more = [];
    grows = still d disk bodies only_now
        (held d disk engine.journal bodies [] (session_of engine).world at);
    at = subst (λ (bs : List (List ℕ)). IsAt d disk engine bs) (sym (append-nil bodies)) at;
  }

  pub grown_now : (d0 d1 : D) (engine : Engine) (bodies : List (List ℕ))
      → HasGrown d d0 d1 engine bodies → CountsNow d d1 → StaysLegal d d0 d1 bodies
  grown_now d0 d1 engine bodies had counts = stays_legal d d0 d1 bodies had.more had.grows counts

  -- legal from an earlier disk on
  pub legal_on : (d0 d1 d2 : D) (bodies first : List (List ℕ)) → GrowsLegally d d0 d1 bodies first
      → StaysLegal d d1 d2 (bodies ++ first) → StaysLegal d d0 d2 bodies
  legal_on d0 d1 d2 bodies first grows legal = record {
    more = first ++ legal.more;
    moments = grows_on d d0 d1 d2 bodies first legal.more grows legal.moments;
    now = λ c here. behind bodies first legal.more c (legal.now c here);
  }

module _
    {D : Type 0} {d : Ghosts D} {d0 d1 d2 : D} {engine : Engine} {bodies more : List (List ℕ)}
    {limit : ℕ} (had : HasGrown d d0 d1 engine bodies)
  where
    -- work was done
    pub grown_on : {e : Engine}
        → IsCrashSafe d d1 d2 (bodies ++ had.more) more limit (HasAll d d2) (Ok (Some e))
        → HasGrown d d0 d2 e bodies
    grown_on {e} safe = record {
      more = had.more ++ more;
      grows = grows_on d d0 d1 d2 bodies had.more more had.grows
          (safe.moments (images_at d d1 engine (bodies ++ had.more) had.at));
      at = subst (λ (bs : List (List ℕ)). IsAt d d2 e bs) (append_assoc bodies had.more more)
          safe.at;
    }

    -- it was, or it stopped, so some of its bodies may be there
    pub grown_end : {A : Type 0} {P : A → List (List ℕ) → Type 0} {r : Result A Stop}
        → IsCrashSafe d d1 d2 (bodies ++ had.more) more limit P r → CountsNow d d2
        → StaysLegal d d0 d2 bodies
    grown_end safe counts =
        stays_legal d d0 d2 bodies (had.more ++ more)
        (grows_on d d0 d1 d2 bodies had.more more had.grows
        (safe.moments (images_at d d1 engine (bodies ++ had.more) had.at))) counts
