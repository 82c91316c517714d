use Rattle.std.proofs.Common.{◌≡◌, ◌∙◌, List, Result, [], ◌∷◌, true, refl, sym, ap, subst}
use Rattle.rx_disk.specs.declared.disk.Disk.{Ghosts}
use Rattle.rx_outside.specs.declared.stop.Stop.{Stop}
use Rattle.rx_record.specs.Content.{Content}
use Rattle.rx_record.specs.Shown.{content}
use Rattle.rx_value.specs.Named.{by_bytes}
use Rattle.rx_session.specs.Doing.{session_after, migrate, without_hooks, write, IsUnobserved}
use Rattle.rx_session.specs.Emissions.{emissions, settled_session}
use Rattle.rx_session.specs.Session.{Session}
use Rattle.rx_store.specs.Holds.{Holds}
use Rattle.rx_store.proofs.Stops.{handed_on, memory_stop}
use Rattle.rx_world.specs.Made.{IsMadeWorld}
use Rattle.rx_world.specs.Sound.{IsSoundWorld}
use Rattle.rx_world.specs.Step.{legal, step}
use Rattle.rx_world.specs.Touch.{touch}
use Rattle.rx_world.specs.World.{World}
use Rattle.rx_engine.specs.Engine.{Commits, asks_in, session_of}
use Rattle.rx_engine.specs.declared.engine.Engine.{Engine}
use Rattle.rx_engine.specs.Marks.{AreMarked}
use Rattle.rx_engine.specs.Remembered.{AreRemembered}
use Rattle.rx_engine.specs.SoundSession.{SessionWithAsks, with_asks}
use Rattle.rx_engine.specs.Standing.{asks_after}
use Rattle.rx_engine.proofs.Committing.{commits_before, commits_play, commits_so, commits_stopped, engine_with, none_committed, play_may_commit}
use Rattle.rx_engine.proofs.Forgetting.{remembered_migrated}
use Rattle.rx_engine.proofs.Keeping.{made_then, migration_ordered, migration_sound, sound_then}
use Rattle.rx_engine.proofs.Marking.{none_marked}
use Rattle.rx_engine.proofs.engine.Engine.migrate.Goals as goal

-- an engine with another session
abbrev with_session : Engine → Session → Engine
with_session e s = record e { session = with_asks s e.session.asks }

-- what is committed has nothing to do with hooks
commits_hookless : {D A : Type 0} (d : Ghosts D) (old new : D) (e : Engine) (cs : List Content)
    (said : Content) (f : A → Engine) (r : Result A Stop)
    → Commits d old new (with_session e (without_hooks said e.session.session)) cs f r
    → Commits d old new e cs f r
unfolding session_of
commits_hookless d old new e cs said f r was = record {
  safe = was.safe;
  limit = was.limit;
  cause = was.cause;
}

pub stage_record-requires-clause-legal : goal.stage_record-requires-clause-legal
unfolding session_of
stage_record-requires-clause-legal g c =
    subst (λ (s : Session). legal (content c.args.entry) s.world ≡ true)
    (sym (c.begin.ensures.same ∙ c.without_hooks-session.ensures
    ∙ ap (λ (x : Session). without_hooks (content c.args.entry) x) c.release-parts.ensures.same))
    c.requires.may.0

pub stage_record-requires-clause-ordered : goal.stage_record-requires-clause-ordered
stage_record-requires-clause-ordered g c = migration_ordered (content c.args.entry) c.requires.may.1

pub stage_record-requires-clause-sound : goal.stage_record-requires-clause-sound
unfolding session_of
stage_record-requires-clause-sound g c =
    let said = content c.args.entry in
    subst (λ (s : Session). IsSoundWorld (step said s.world))
    (sym (c.begin.ensures.same ∙ c.without_hooks-session.ensures
    ∙ ap (λ (x : Session). without_hooks (content c.args.entry) x) c.release-parts.ensures.same))
    (migration_sound said c.args.self.session.session.world c.requires.may.0 c.requires.may.1
    c.release-parts.ensures.sound)

pub stage_record-requires-clause-unobserved : goal.stage_record-requires-clause-unobserved
unfolding session_of
stage_record-requires-clause-unobserved g c =
    subst (λ (s : Session). IsUnobserved (touch (content c.args.entry) s.world) s.queries)
    (sym (c.begin.ensures.same ∙ c.without_hooks-session.ensures
    ∙ ap (λ (x : Session). without_hooks (content c.args.entry) x) c.release-parts.ensures.same))
    c.requires.may.2

pub returns-in_err-staged-clause-commits : goal.returns-in_err-staged-clause-commits
returns-in_err-staged-clause-commits g c =
    none_committed g.D.Disk c.args.disk.now c.args.self
    (λ told left e. g.met.D.Disk.only_now c.args.disk.now left told e) _ _ c.from_residual.result
    (memory_stop c.from_residual.result c.from_residual.ensures.1)

pub commit-requires : goal.commit-requires
unfolding session_of
commit-requires g c told =
    let at = c.requires.at told in
    play_may_commit g.D.Disk c.args.disk.now c.args.disk.now
    (with_session c.args.self (without_hooks (content c.args.entry) c.args.self.session.session))
    (content c.args.entry ∷ []) c.begin.result
    (ap (λ (x : Session). x.world) (c.begin.ensures.same ∙ c.without_hooks-session.ensures
    ∙ ap (λ (x : Session). without_hooks (content c.args.entry) x) c.release-parts.ensures.same))
    c.in_ok-staged.staged c.in_ok-staged.ensures at.0 at.1

pub returns-in_err-play-clause-commits : goal.returns-in_err-play-clause-commits
unfolding session_of
returns-in_err-play-clause-commits g c =
    let d = g.D.Disk in
    let old = c.args.disk.now in
    let new = c.commit.new.disk in
    let self =
    with_session c.args.self (without_hooks (content c.args.entry) c.args.self.session.session) in
    let cs = content c.args.entry ∷ [] in
    let stop = c.in_err-play.field-0.0 in
    commits_hookless d old new c.args.self cs (content c.args.entry) _ _
    (commits_stopped d old new self cs (engine_with self) _ stop c.from_residual-in_err-play.result
    (handed_on c.from_residual-in_err-play.result stop c.from_residual-in_err-play.ensures.1)
    (commits_play d old new self cs c.begin.result
    (ap (λ (x : Session). x.world) (c.begin.ensures.same ∙ c.without_hooks-session.ensures
    ∙ ap (λ (x : Session). without_hooks (content c.args.entry) x) c.release-parts.ensures.same))
    c.in_ok-staged.staged
    c.in_ok-staged.ensures _
    c.in_err-play.ensures))

pub returns-in_err-session-clause-commits : goal.returns-in_err-session-clause-commits
unfolding session_of
returns-in_err-session-clause-commits g c =
    let d = g.D.Disk in
    let old = c.args.disk.now in
    let new = c.commit.new.disk in
    let self =
    with_session c.args.self (without_hooks (content c.args.entry) c.args.self.session.session) in
    let cs = content c.args.entry ∷ [] in
    commits_hookless d old new c.args.self cs (content c.args.entry) _ _
    (commits_before d old new self cs (engine_with self) _ c.in_ok-play.play
    c.from_residual-in_err-session.result
    (memory_stop c.from_residual-in_err-session.result c.from_residual-in_err-session.ensures.1)
    (commits_play d old new self cs c.begin.result
    (ap (λ (x : Session). x.world) (c.begin.ensures.same ∙ c.without_hooks-session.ensures
    ∙ ap (λ (x : Session). without_hooks (content c.args.entry) x) c.release-parts.ensures.same))
    c.in_ok-staged.staged
    c.in_ok-staged.ensures _
    c.in_ok-play.ensures))

-- the session's world stays one that records made, and sound
pub new-requires-clause-made : goal.new-requires-clause-made
unfolding session_of
new-requires-clause-made g c =
    let doing = migrate (content c.args.entry) in
    let s = c.args.self.session.session in
    let then = c.in_ok-session.ensures.session
    ∙ ap (λ (x : Session). settled_session x) (c.in_ok-play.ensures.session
    ∙ c.in_ok-staged.ensures.session
    ∙ ap (λ (x : Session). session_after (write (content c.args.entry)) x)
    (c.begin.ensures.same ∙ c.without_hooks-session.ensures
    ∙ ap (λ (x : Session). without_hooks (content c.args.entry) x) c.release-parts.ensures.same)) in
    subst (λ (x : Session). IsMadeWorld x.world) (sym then)
    (made_then doing s c.requires.may c.release-parts.ensures.made)

pub new-requires-clause-sound : goal.new-requires-clause-sound
unfolding session_of
new-requires-clause-sound g c =
    let doing = migrate (content c.args.entry) in
    let s = c.args.self.session.session in
    let parts = c.release-parts.ensures in
    let then = c.in_ok-session.ensures.session
    ∙ ap (λ (x : Session). settled_session x) (c.in_ok-play.ensures.session
    ∙ c.in_ok-staged.ensures.session
    ∙ ap (λ (x : Session). session_after (write (content c.args.entry)) x)
    (c.begin.ensures.same ∙ c.without_hooks-session.ensures
    ∙ ap (λ (x : Session). without_hooks (content c.args.entry) x) c.release-parts.ensures.same)) in
    subst (λ (x : Session). IsSoundWorld x.world) (sym then)
    (sound_then doing s c.requires.may tt parts.made parts.sound)

pub new-requires-clause-remembered : goal.new-requires-clause-remembered
unfolding session_of
new-requires-clause-remembered g c =
    let said = content c.args.entry in
    let w = c.args.self.session.session.world in
    let asks = c.args.self.session.asks in
    let parts = c.release-parts.ensures in
    let then = c.in_ok-session.ensures.session
    ∙ ap (λ (x : Session). settled_session x) (c.in_ok-play.ensures.session
    ∙ c.in_ok-staged.ensures.session ∙ ap (λ (x : Session). session_after (write said) x)
    (c.begin.ensures.same ∙ c.without_hooks-session.ensures
    ∙ ap (λ (x : Session). without_hooks (content c.args.entry) x) c.release-parts.ensures.same)) in
    subst (AreRemembered c.in_ok-session.session.world) (sym (c.migrated-remembered.ensures.asks
    ∙ ap (λ (w : World).
    asks_after (content c.args.entry) w (by_bytes c.release-parts.result.1.asks.entries))
    (c.world.ensures ∙ ap (λ (x : Session). x.world) c.release-parts.ensures.same)
    ∙ ap (asks_after (content c.args.entry) c.args.self.session.session.world)
    c.release-parts.ensures.asks))
    (subst (λ (x : Session). AreRemembered x.world (asks_after said w asks)) (sym then)
    (remembered_migrated said w asks c.requires.may.0 c.requires.may.1 parts.remembered))

pub new-requires-clause-marked : goal.new-requires-clause-marked
new-requires-clause-marked g c =
    subst (AreMarked c.in_ok-session.session.world) (sym c.migrated-remembered.ensures.marks)
    (none_marked c.in_ok-session.session.world)

pub returns-clause-session : goal.returns-clause-session
unfolding session_of
returns-clause-session g c =
    ap (λ (x : SessionWithAsks). x.session) c.new.ensures ∙ c.in_ok-session.ensures.session
    ∙ ap (λ (x : Session). settled_session x) (c.in_ok-play.ensures.session
    ∙ c.in_ok-staged.ensures.session ∙ ap (λ (x : Session). session_after
    (write (content c.args.entry)) x) (c.begin.ensures.same ∙ c.without_hooks-session.ensures
    ∙ ap (λ (x : Session). without_hooks (content c.args.entry) x) c.release-parts.ensures.same))

pub returns-clause-emissions : goal.returns-clause-emissions
unfolding session_of
returns-clause-emissions g c =
    c.in_ok-session.ensures.emissions
    ∙ ap (λ (x : Session). emissions x) (c.in_ok-play.ensures.session
    ∙ c.in_ok-staged.ensures.session ∙ ap (λ (x : Session). session_after
    (write (content c.args.entry)) x) (c.begin.ensures.same ∙ c.without_hooks-session.ensures
    ∙ ap (λ (x : Session). without_hooks (content c.args.entry) x) c.release-parts.ensures.same))

pub returns-clause-asks : goal.returns-clause-asks
unfolding asks_in session_of
returns-clause-asks g c =
    ap (λ (x : SessionWithAsks). x.asks) c.new.ensures ∙ (c.migrated-remembered.ensures.asks
    ∙ ap (λ (w : World).
    asks_after (content c.args.entry) w (by_bytes c.release-parts.result.1.asks.entries))
    (c.world.ensures ∙ ap (λ (x : Session). x.world) c.release-parts.ensures.same)
    ∙ ap (asks_after (content c.args.entry) c.args.self.session.session.world)
    c.release-parts.ensures.asks)

pub returns-clause-commits : goal.returns-clause-commits
unfolding session_of
returns-clause-commits g c =
    let d = g.D.Disk in
    let old = c.args.disk.now in
    let new = c.commit.new.disk in
    let self =
    with_session c.args.self (without_hooks (content c.args.entry) c.args.self.session.session) in
    let cs = content c.args.entry ∷ [] in
    let play = c.in_ok-play.play in
    let settled = ap (λ (x : SessionWithAsks). x.session) c.new.ensures
    ∙ c.in_ok-session.ensures.session in
    commits_hookless d old new c.args.self cs (content c.args.entry) _ _
    (commits_so d old new self cs (engine_with self) _ play _
    (λ bodies held.
    subst (λ (x : Session). Holds d new play.journal bodies x.world) (sym settled) held) refl
    (commits_play d old new self cs c.begin.result
    (ap (λ (x : Session). x.world) (c.begin.ensures.same ∙ c.without_hooks-session.ensures
    ∙ ap (λ (x : Session). without_hooks (content c.args.entry) x) c.release-parts.ensures.same))
    c.in_ok-staged.staged
    c.in_ok-staged.ensures _
    c.in_ok-play.ensures))
