-- What is said of a play that an opening began, over any play.
use Rattle.std.proofs.Common.{◌≡◌, ◌∙◌, ⊎_elim, subst, List, ℕ, [], ◌∷◌, Bool, Result, Ok}
use Rattle.std.specs.Prelude.{⊤}
use Rattle.rx_disk.specs.declared.disk.Disk.{Ghosts}
use Rattle.rx_engine.specs.Engine.{IsAt, limit_of, standing_of}
use Rattle.rx_engine.specs.Opening.{Host, epoch_body, opened}
use Rattle.rx_engine.specs.Standing.{Standing}
use Rattle.rx_engine.specs.declared.engine.Engine.{Engine}
use Rattle.rx_store.specs.Holds.{IsLegalFile}
use Rattle.rx_store.specs.Safe.{IsCrashSafe}
use Rattle.rx_sync.specs.Remote.{Heard}
use Rattle.rx_world.specs.World.{World, empty}
use Rattle.rx_top.specs.Chunks.{Grouping}
use Rattle.rx_top.specs.Run.{KeepsFrom, KeepsRun, FromOpening}
use Rattle.rx_top.specs.Start.{FromStart}
use Rattle.rx_top.specs.declared.early_end.EarlyEnd.{EarlyEnd}
use Rattle.rx_top.proofs.Heads.{played_keeps}
use Rattle.rx_top.proofs.Hears.{heard_at_first}

module _
    {by : Grouping} {host : Host} {heard : List Heard} {D : Type 0} {d : Ghosts D} {old new : D}
    {limit : ℕ} {ended : Result Bool EarlyEnd}
    {Says : Standing → (List (List ℕ) → List (List ℕ) → Type 0) → Type 0}
  where
    -- the journal was opened, and lines were played from there; what is said is said of less that
    -- is kept, too
    pub from_opened : (mid : D) (first : Engine)
        → ((s : Standing) (P Q : List (List ℕ) → List (List ℕ) → Type 0)
        → ((done rest : List (List ℕ)) → P done rest → Q done rest) → Says s P → Says s Q)
        → (d.tells → (bodies : List (List ℕ)) (w : World) → IsLegalFile (d.content old) bodies w
        → standing_of host.kinds heard first ≡ opened host heard w)
        → ((w : World) × (standing_of host.kinds heard first ≡ opened host heard w))
        → (d.tells → (bodies : List (List ℕ)) (w : World) → IsLegalFile (d.content old) bodies w
        → IsCrashSafe d old mid bodies (epoch_body w ∷ []) limit (IsAt d mid) (Ok first))
        → limit_of first ≡ limit
        → Says (standing_of host.kinds heard first)
        (KeepsFrom by (standing_of host.kinds heard first) d mid new first ended)
        → FromOpening by host heard d old new limit ended Says
    from_opened mid first weaker found begun safe same_limit said =
        let s = standing_of host.kinds heard first in
        let From = KeepsFrom by s d mid new first ended in
        record {
          found = λ t bodies w start.
              let Kept = KeepsRun by host heard d old new bodies w limit ended in
              let is = found t bodies w start.legal in
              let now = safe t bodies w start.legal in
              subst (λ (x : Standing). Says x Kept) is
              (weaker s From Kept
              (λ done rest kept. played_keeps by host heard d bodies w limit old mid new first ended
              done rest (now.moments start.alike) (⊎_elim (λ none. cc) (λ le. le) now.fits)
              same_limit s is now.at t kept)
              said);
          somewhere = (
            begun.0,
            subst (λ (x : Standing). Says x (λ done rest. ⊤)) begun.1
                (weaker s From (λ done rest. ⊤) (λ done rest kept. tt) said),
          );
        }

    -- it wasn't, so no line was played and nothing was heard
    pub from_unopened : (lines : List (List ℕ)) → heard ≡ []
        → ((s : Standing) (P : List (List ℕ) → List (List ℕ) → Type 0) → s.heard ≡ []
        → P [] lines → Says s P)
        → FromStart d old
        (λ bodies w. KeepsRun by host heard d old new bodies w limit ended [] lines)
        → FromOpening by host heard d old new limit ended Says
    from_unopened lines none unplayed keeps = record {
      found = λ t bodies w start.
          unplayed (opened host heard w)
          (KeepsRun by host heard d old new bodies w limit ended)
          (heard_at_first host heard w ∙ none) (keeps t bodies w start);
      somewhere = (
        empty,
        unplayed (opened host heard empty) (λ done rest. ⊤) (heard_at_first host heard empty ∙ none)
            tt,
      );
    }
