-- Calls that put records of an engine on the disk, and how they end.
use Rattle.std.proofs.Common.{◌≡◌, ◌∙◌, ℕ, List, [], ◌++◌, Result, Ok, Err, refl, sym, subst, arith}
use Rattle.rx_value.proofs.Outcomes.{if_ok}
use Rattle.rx_disk.specs.declared.disk.Disk.{Ghosts}
use Rattle.rx_journal.specs.Ready.{MayCommit}
use Rattle.rx_outside.specs.declared.stop.Stop.{Stop}
use Rattle.rx_outside.specs.declared.stop.Stop.TheVariants.{Memory}
use Rattle.rx_record.specs.Content.{Content}
use Rattle.rx_session.specs.Session.{Session}
use Rattle.rx_store.specs.Holds.{Holds}
use Rattle.rx_store.proofs.Crashes.{answered, idle, ran_out, same_stop}
use Rattle.rx_store.proofs.Growing.{stays}
use Rattle.rx_store.proofs.Stops.{done_cause, memory_cause, ok_cause, same_cause}
use Rattle.rx_world.specs.World.{World}
use Rattle.rx_engine.specs.Engine.{Commits, IsAt, limit_of, session_of}
use Rattle.rx_engine.specs.Meaning.{bodies_of}
use Rattle.rx_engine.specs.Play.{CommitsStaged, Follows, play_of}
use Rattle.rx_engine.specs.SoundSession.{with_asks}
use Rattle.rx_engine.specs.declared.engine.Engine.{Engine}
use Rattle.rx_engine.specs.declared.play.Play.{Play}
use Rattle.rx_engine.proofs.Remotely.{if_err}
use Rattle.rx_engine.proofs.Staging.{may_commit, so_far}

-- the engine that a line in play comes to, where it began with that one
abbrev pub engine_with : Engine → Play → Engine
engine_with e p = record e { journal = p.journal; session = with_asks p.playing e.session.asks }

module _ {D : Type 0} (d : Ghosts D) (old new : D) (e : Engine) (cs : List Content) where
  -- ---- one call after another

  -- a stop is handed on
  pub commits_stopped : {A B : Type 0} (f : A → Engine) (g : B → Engine) (stop : Stop)
      (r : Result B Stop) → r ≡ Err stop → Commits d old new e cs f (Err stop)
      → Commits d old new e cs g r
  commits_stopped f g stop r is was = record {
    safe = λ told bodies at.
        same_stop d old new bodies (bodies_of cs) (limit_of e) (λ x. IsAt d new (f x))
        (λ x. IsAt d new (g x)) stop r is (was.safe told bodies at);
    limit = if_err (λ x. limit_of (g x) ≡ limit_of e) r stop is;
    cause = same_cause (d.faults old) (d.faults new) stop r is was.cause;
  }

  -- memory ran out behind it
  pub commits_before : {A B : Type 0} (f : A → Engine) (g : B → Engine) (x : A)
      (r : Result B Stop) → r ≡ Err Memory → Commits d old new e cs f (Ok x)
      → Commits d old new e cs g r
  commits_before f g x r is was = record {
    safe = λ told bodies at.
        ran_out d old new bodies (bodies_of cs) (limit_of e) (λ x. IsAt d new (g x)) r is
        (was.safe told bodies at).moments;
    limit = if_err (λ x. limit_of (g x) ≡ limit_of e) r Memory is;
    cause = memory_cause (d.faults old) (d.faults new) x r is was.cause;
  }

  -- what was answered is answered as another thing, with an engine that is at the same bodies
  pub commits_so : {A B : Type 0} (f : A → Engine) (g : B → Engine) (x : A) (y : B)
      → ((bodies : List (List ℕ)) → IsAt d new (f x) bodies → IsAt d new (g y) bodies)
      → limit_of (g y) ≡ limit_of (f x) → Commits d old new e cs f (Ok x)
      → Commits d old new e cs g (Ok y)
  commits_so f g x y same limit was = record {
    safe = λ told bodies at.
        answered d old new bodies (bodies_of cs) (limit_of e) (λ x. IsAt d new (f x))
        (λ x. IsAt d new (g x)) x y (was.safe told bodies at) (same (bodies ++ bodies_of cs));
    limit = limit ∙ was.limit;
    cause = done_cause (d.faults old) (d.faults new) x y was.cause;
  }

  -- ---- a line in play that began with it

  module _ (session : Session) (same : session.world ≡ (session_of e).world) (q : Play)
      (follows : Follows (play_of e.journal session) cs q) where
    holds_here : (bodies : List (List ℕ)) → IsAt d old e bodies
        → Holds d old e.journal bodies session.world
    holds_here bodies at =
        subst (λ (w : World). Holds d old e.journal bodies w) (sym same) at

    pub play_may_commit : (bodies : List (List ℕ)) → IsAt d old e bodies
        → MayCommit d old q.journal
    play_may_commit bodies at =
        may_commit d old (play_of e.journal session) q cs follows bodies
        (holds_here bodies at, refl)

    -- its records are committed
    pub commits_play : (r : Result Play Stop) → CommitsStaged d old new q r
        → Commits d old new e cs (engine_with e) r
    unfolding session_of
    commits_play r made = record {
      safe = λ told bodies at.
          let holds = holds_here bodies at in
          let s = made.safe told bodies e.journal session.world cs holds
          (so_far d old (play_of e.journal session) q cs follows bodies (holds, refl)) in
          record {
            moments = s.moments;
            at = if_ok r _ _ s.at (λ p held. held.0);
            fits = s.fits;
            full = s.full;
            not_journal = s.not_journal;
          };
      limit = if_ok r _ _ made.limit (λ p is. is ∙ follows.limit);
      cause = made.cause;
    }

-- ---- nothing was done

module _ {D : Type 0} (d : Ghosts D) (disk : D) (e : Engine)
    (only_now : d.tells → (c : List ℕ) → d.image_since disk (d.moment disk) c → d.image disk c)
  where
    -- memory ran out
    pub none_committed : {A : Type 0} (cs : List Content) (f : A → Engine) (r : Result A Stop)
        → r ≡ Err Memory → Commits d disk disk e cs f r
    none_committed cs f r is = record {
      safe = λ told bodies at.
          ran_out d disk disk bodies (bodies_of cs) (limit_of e) (λ x. IsAt d disk (f x)) r is
          (λ alike. stays d disk e.journal bodies (bodies_of cs) (session_of e).world at
          (only_now told));
      limit = if_err (λ x. limit_of (f x) ≡ limit_of e) r Memory is;
      cause = memory_cause (d.faults disk) (d.faults disk) e r is
          (ok_cause (d.faults disk) (d.faults disk) (omega arith) e);
    }

    -- no record was to be written
    pub none_to_commit : {A : Type 0} (cs : List Content) → cs ≡ [] → (f : A → Engine) (x : A)
        → ((bodies : List (List ℕ)) → IsAt d disk e bodies → IsAt d disk (f x) bodies)
        → limit_of (f x) ≡ limit_of e → Commits d disk disk e cs f (Ok x)
    none_to_commit cs none f x same limit =
        let here : Commits d disk disk e [] f (Ok x) = record {
          safe = λ told bodies at.
              idle d disk bodies (limit_of e) (λ x. IsAt d disk (f x)) x
              (λ alike. stays d disk e.journal bodies [] (session_of e).world at (only_now told))
              (same bodies at);
          limit = limit;
          cause = ok_cause (d.faults disk) (d.faults disk) (omega arith) x;
        } in
        subst (λ (cs : List Content). Commits d disk disk e cs f (Ok x)) (sym none) here
