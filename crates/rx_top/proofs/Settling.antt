-- How a group's records are put on the disk, and its replies written.
use Rattle.std.proofs.Common.{◌≡◌, refl, ℕ, List, [], ◌++◌, None, Some, Result, Ok, Err, string_bytes}
use Rattle.rx_disk.specs.declared.disk.Disk.{Ghosts}
use Rattle.rx_engine.specs.Ahead.{IsAhead}
use Rattle.rx_engine.specs.Engine.{IsAt, limit_of, standing_of}
use Rattle.rx_engine.specs.declared.engine.Engine.{Engine}
use Rattle.rx_handler.specs.Handlers.{Kinds}
use Rattle.rx_outside.specs.Sink.{WritesFront}
use Rattle.rx_outside.specs.declared.stop.Stop.{Stop}
use Rattle.rx_store.specs.Safe.{IsCrashSafe}
use Rattle.rx_store.proofs.Crashes.{answered, same_stop}
use Rattle.rx_sync.specs.Remote.{Heard}
use Rattle.rx_top.specs.Group.{SettlesGroup}
use Rattle.rx_top.specs.Work.{HasAll}
use Rattle.rx_top.specs.declared.early_end.EarlyEnd.TheVariants.{Sink, Work}
use Rattle.rx_top.specs.declared.group.Group.{Group}
use Rattle.rx_top.proofs.Done.{leaves_at}

module _
    {D : Type 0} (d : Ghosts D) (k_tells : Type 0) (g : Group) (old new : D) (w : List ℕ)
  where
    -- what the commit did to a disk that the group's engine is ahead of
    abbrev IsCommitted : Result Engine Stop → Type 0
    IsCommitted r =
        d.tells → (bodies more : List (List ℕ)) → IsAhead d old g.engine bodies more
        → IsCrashSafe d old new bodies more (limit_of g.engine) (IsAt d new) r

    -- it stopped
    pub commit_stopped : (stop : Stop) → IsCommitted (Err stop)
        → SettlesGroup d k_tells g old new w w (Err (Work stop))
    commit_stopped stop safe = record {
      same = tt;
      limit = tt;
      told = λ k. tt;
      front = λ k is. absurd (cc);
      unsaid = λ k s is. refl;
      safe = λ told bodies more at.
          same_stop d old new bodies more (limit_of g.engine) (IsAt d new) (HasAll d new) stop
          (Err stop) refl (safe told bodies more at);
    }

    module _ (e : Engine) (w' : List ℕ) (safe : IsCommitted (Ok e)) where
      -- all was written
      pub group_settled : ((kinds : Kinds) (heard : List Heard)
          → standing_of kinds heard e ≡ standing_of kinds heard g.engine)
          → limit_of e ≡ limit_of g.engine → (k_tells → w' ≡ w ++ string_bytes g.text)
          → SettlesGroup d k_tells g old new w w' (Ok e)
      group_settled same limit had = record {
        same = same;
        limit = limit;
        told = had;
        front = λ k is. absurd (cc);
        unsaid = λ k s is. absurd (cc);
        safe = λ told bodies more at.
            answered d old new bodies more (limit_of g.engine) (IsAt d new) (HasAll d new) e
            (Some e) (safe told bodies more at) (λ held. held);
      }

      -- the sink failed
      pub group_sunk : (k_tells → WritesFront w w' (string_bytes g.text))
          → SettlesGroup d k_tells g old new w w' (Err Sink)
      group_sunk front = record {
        same = tt;
        limit = tt;
        told = λ k. tt;
        front = λ k is. front k;
        unsaid = λ k s is. absurd (cc);
        safe = λ told bodies more at.
            answered d old new bodies more (limit_of g.engine) (IsAt d new) (HasAll d new) e None
            (safe told bodies more at) (λ held. leaves_at d new e (bodies ++ more) [] held);
      }
