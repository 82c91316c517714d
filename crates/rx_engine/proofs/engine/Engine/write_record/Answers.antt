use Rattle.std.proofs.Common.{◌∙◌, [], ◌∷◌, refl, sym, ap, subst}
use Rattle.rx_record.specs.Shown.{content}
use Rattle.rx_session.specs.Doing.{session_after, write}
use Rattle.rx_session.specs.Emissions.{emissions, settled_session}
use Rattle.rx_session.specs.Session.{Session}
use Rattle.rx_store.specs.Holds.{Holds}
use Rattle.rx_store.proofs.Stops.{handed_on, memory_stop}
use Rattle.rx_sync.specs.Laws.{ComeSoundly}
use Rattle.rx_world.specs.Made.{IsMadeWorld}
use Rattle.rx_world.specs.Sound.{IsSoundWorld}
use Rattle.rx_engine.specs.Engine.{asks_in, session_of}
use Rattle.rx_engine.specs.Marks.{AreMarked}
use Rattle.rx_engine.specs.Remembered.{AreRemembered}
use Rattle.rx_engine.specs.SoundSession.{SessionWithAsks}
use Rattle.rx_engine.proofs.Committing.{commits_before, commits_play, commits_so, commits_stopped, engine_with, none_committed, play_may_commit}
use Rattle.rx_engine.proofs.Keeping.{made_then, sound_then}
use Rattle.rx_engine.proofs.Marking.{marked_doing}
use Rattle.rx_engine.proofs.Remembering.{remembered_doing}
use Rattle.rx_engine.proofs.engine.Engine.write_record.Goals as goal

pub stage-requires : goal.stage-requires
unfolding session_of
stage-requires g c =
    let said = content c.args.entry in
    let parts = c.release-parts.ensures in
    subst (λ (s : Session). ComeSoundly s.world (said ∷ []))
    (sym (c.begin.ensures.same ∙ parts.same)) (
      record {
        lawful = c.requires.may.0;
        ordered = c.requires.may.1;
        no_migration = c.requires.may.2;
      },
      sound_then (write said) c.args.self.session.session c.requires.may c.requires.apart
          parts.made parts.sound,
      tt,
    )

pub returns-in_err-staged-clause-commits : goal.returns-in_err-staged-clause-commits
returns-in_err-staged-clause-commits g c =
    none_committed g.D.Disk c.args.disk.now c.args.self
    (λ told left e. g.met.D.Disk.only_now c.args.disk.now left told e) _ _ c.from_residual.result
    (memory_stop c.from_residual.result c.from_residual.ensures.1)

pub commit-requires : goal.commit-requires
unfolding session_of
commit-requires g c told =
    let at = c.requires.at told in
    play_may_commit g.D.Disk c.args.disk.now c.args.disk.now c.args.self
    (content c.args.entry ∷ []) c.begin.result
    (ap (λ (x : Session). x.world) (c.begin.ensures.same ∙ c.release-parts.ensures.same))
    c.in_ok-staged.staged c.in_ok-staged.ensures at.0 at.1

pub returns-in_err-play-clause-commits : goal.returns-in_err-play-clause-commits
unfolding session_of
returns-in_err-play-clause-commits g c =
    let d = g.D.Disk in
    let old = c.args.disk.now in
    let new = c.commit.new.disk in
    let self = c.args.self in
    let cs = content c.args.entry ∷ [] in
    let stop = c.in_err-play.field-0.0 in
    commits_stopped d old new self cs (engine_with self) _ stop c.from_residual-in_err-play.result
    (handed_on c.from_residual-in_err-play.result stop c.from_residual-in_err-play.ensures.1)
    (commits_play d old new self cs c.begin.result
    (ap (λ (x : Session). x.world) (c.begin.ensures.same ∙ c.release-parts.ensures.same))
    c.in_ok-staged.staged
    c.in_ok-staged.ensures _
    c.in_err-play.ensures)

pub returns-in_err-session-clause-commits : goal.returns-in_err-session-clause-commits
unfolding session_of
returns-in_err-session-clause-commits g c =
    let d = g.D.Disk in
    let old = c.args.disk.now in
    let new = c.commit.new.disk in
    let self = c.args.self in
    let cs = content c.args.entry ∷ [] in
    commits_before d old new self cs (engine_with self) _ c.in_ok-play.play
    c.from_residual-in_err-session.result
    (memory_stop c.from_residual-in_err-session.result c.from_residual-in_err-session.ensures.1)
    (commits_play d old new self cs c.begin.result
    (ap (λ (x : Session). x.world) (c.begin.ensures.same ∙ c.release-parts.ensures.same))
    c.in_ok-staged.staged
    c.in_ok-staged.ensures _
    c.in_ok-play.ensures)

-- the session's world stays one that records made, and sound
pub new-requires-clause-made : goal.new-requires-clause-made
unfolding session_of
new-requires-clause-made g c =
    let doing = write (content c.args.entry) in
    let s = c.args.self.session.session in
    let then = c.in_ok-session.ensures.session
    ∙ ap (λ (x : Session). settled_session x) (c.in_ok-play.ensures.session
    ∙ c.in_ok-staged.ensures.session ∙ ap (λ (x : Session). session_after doing x)
    (c.begin.ensures.same ∙ c.release-parts.ensures.same)) in
    subst (λ (x : Session). IsMadeWorld x.world) (sym then)
    (made_then doing s c.requires.may c.release-parts.ensures.made)

pub new-requires-clause-sound : goal.new-requires-clause-sound
unfolding session_of
new-requires-clause-sound g c =
    let doing = write (content c.args.entry) in
    let s = c.args.self.session.session in
    let parts = c.release-parts.ensures in
    let then = c.in_ok-session.ensures.session
    ∙ ap (λ (x : Session). settled_session x) (c.in_ok-play.ensures.session
    ∙ c.in_ok-staged.ensures.session ∙ ap (λ (x : Session). session_after doing x)
    (c.begin.ensures.same ∙ parts.same)) in
    subst (λ (x : Session). IsSoundWorld x.world) (sym then)
    (sound_then doing s c.requires.may c.requires.apart parts.made parts.sound)

pub new-requires-clause-remembered : goal.new-requires-clause-remembered
unfolding session_of
new-requires-clause-remembered g c =
    let doing = write (content c.args.entry) in
    let s = c.args.self.session.session in
    let asks = c.args.self.session.asks in
    let parts = c.release-parts.ensures in
    let then = c.in_ok-session.ensures.session
    ∙ ap (λ (x : Session). settled_session x) (c.in_ok-play.ensures.session
    ∙ c.in_ok-staged.ensures.session ∙ ap (λ (x : Session). session_after doing x)
    (c.begin.ensures.same ∙ parts.same)) in
    subst (AreRemembered c.in_ok-session.session.world) (sym parts.asks)
    (subst (λ (x : Session). AreRemembered x.world asks) (sym then)
    (remembered_doing doing s asks tt c.requires.may parts.remembered))

pub new-requires-clause-marked : goal.new-requires-clause-marked
unfolding session_of
new-requires-clause-marked g c =
    let doing = write (content c.args.entry) in
    let s = c.args.self.session.session in
    let marks = c.release-parts.result.1.marks in
    let parts = c.release-parts.ensures in
    let then = c.in_ok-session.ensures.session
    ∙ ap (λ (x : Session). settled_session x) (c.in_ok-play.ensures.session
    ∙ c.in_ok-staged.ensures.session ∙ ap (λ (x : Session). session_after doing x)
    (c.begin.ensures.same ∙ parts.same)) in
    subst (λ (x : Session). AreMarked x.world marks) (sym then)
    (marked_doing doing s marks tt c.requires.may c.requires.apart parts.marked)

pub returns-clause-session : goal.returns-clause-session
unfolding session_of
returns-clause-session g c =
    ap (λ (x : SessionWithAsks). x.session) c.new.ensures ∙ c.in_ok-session.ensures.session
    ∙ ap (λ (x : Session). settled_session x) (c.in_ok-play.ensures.session
    ∙ c.in_ok-staged.ensures.session ∙ ap (λ (x : Session). session_after
    (write (content c.args.entry)) x) (c.begin.ensures.same ∙ c.release-parts.ensures.same))

pub returns-clause-emissions : goal.returns-clause-emissions
unfolding session_of
returns-clause-emissions g c =
    c.in_ok-session.ensures.emissions
    ∙ ap (λ (x : Session). emissions x) (c.in_ok-play.ensures.session
    ∙ c.in_ok-staged.ensures.session ∙ ap (λ (x : Session). session_after
    (write (content c.args.entry)) x) (c.begin.ensures.same ∙ c.release-parts.ensures.same))

pub returns-clause-asks : goal.returns-clause-asks
unfolding asks_in
returns-clause-asks g c =
    ap (λ (x : SessionWithAsks). x.asks) c.new.ensures ∙ c.release-parts.ensures.asks

pub returns-clause-commits : goal.returns-clause-commits
unfolding session_of
returns-clause-commits g c =
    let d = g.D.Disk in
    let old = c.args.disk.now in
    let new = c.commit.new.disk in
    let self = c.args.self in
    let cs = content c.args.entry ∷ [] in
    let play = c.in_ok-play.play in
    let settled = ap (λ (x : SessionWithAsks). x.session) c.new.ensures
    ∙ c.in_ok-session.ensures.session in
    commits_so d old new self cs (engine_with self) _ play _
    (λ bodies held.
    subst (λ (x : Session). Holds d new play.journal bodies x.world) (sym settled) held) refl
    (commits_play d old new self cs c.begin.result
    (ap (λ (x : Session). x.world) (c.begin.ensures.same ∙ c.release-parts.ensures.same))
    c.in_ok-staged.staged
    c.in_ok-staged.ensures _
    c.in_ok-play.ensures)
