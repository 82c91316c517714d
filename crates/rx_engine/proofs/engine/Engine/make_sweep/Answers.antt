use Rattle.std.proofs.Common.{◌∙◌, ℕ, List, [], refl, ap, sym, subst}
use Rattle.rx_value.specs.Named.{by_bytes}
use Rattle.rx_handler.specs.Shown.{kinds_of}
use Rattle.rx_session.specs.Emissions.{emissions, settled_session}
use Rattle.rx_session.specs.Session.{Session}
use Rattle.rx_store.specs.Holds.{Holds}
use Rattle.rx_store.proofs.Stops.{handed_on, memory_stop}
use Rattle.rx_sync.specs.Asks.{Asks}
use Rattle.rx_sync.specs.Sweep.{Swept}
use Rattle.rx_world.specs.Made.{IsMadeWorld}
use Rattle.rx_world.specs.Sound.{IsSoundWorld}
use Rattle.rx_engine.specs.Engine.{asks_in, session_of, standing_of}
use Rattle.rx_engine.specs.Marks.{AreMarked}
use Rattle.rx_engine.specs.Play.{play_of}
use Rattle.rx_engine.specs.Remembered.{AreRemembered}
use Rattle.rx_engine.specs.Shown.{sweep_of}
use Rattle.rx_engine.specs.SoundSession.{SessionWithAsks}
use Rattle.rx_engine.specs.Sweeping.{swept}
use Rattle.rx_engine.specs.Sweeps.{CanSweep, IsSwept}
use Rattle.rx_engine.specs.Turning.{written}
use Rattle.rx_engine.proofs.AfterSweeps.{swept_here}
use Rattle.rx_engine.proofs.Committing.{commits_before, commits_play, commits_so, commits_stopped, engine_with, none_committed, play_may_commit}
use Rattle.rx_engine.proofs.engine.Engine.make_sweep.Goals as goal

pub sweep_all-requires-clause-good : goal.sweep_all-requires-clause-good
unfolding session_of asks_in
sweep_all-requires-clause-good g c =
    let parts = c.release-parts.ensures in
    let session = c.begin.ensures.same ∙ parts.same in
    let r = c.release-parts.result.1 in
    record {
      made = subst (λ (x : Session). IsMadeWorld x.world) (sym session) parts.made;
      sound = subst (λ (x : Session). IsSoundWorld x.world) (sym session) parts.sound;
      remembers =
          subst (λ (x : Session). AreRemembered x.world (by_bytes r.asks.entries)) (sym session)
          (subst (λ (l : List (List ℕ × Asks)). AreRemembered c.args.self.session.session.world l)
          (sym parts.asks) parts.remembered);
      marked = subst (λ (x : Session). AreMarked x.world r.marks) (sym session) parts.marked;
    }

pub sweep_all-requires-clause-can : goal.sweep_all-requires-clause-can
unfolding session_of
sweep_all-requires-clause-can g c =
    subst (λ (x : Session). CanSweep (kinds_of c.args.handlers.now) x c.args.wanted.now.steps.items)
    (sym (c.begin.ensures.same ∙ c.release-parts.ensures.same)) c.requires.can

pub returns-in_err-made-clause-commits : goal.returns-in_err-made-clause-commits
returns-in_err-made-clause-commits g c =
    none_committed g.D.Disk c.args.disk.now c.args.self
    (λ told left e. g.met.D.Disk.only_now c.args.disk.now left told e) _ _ c.from_residual.result
    (memory_stop c.from_residual.result c.from_residual.ensures.1)

pub commit-requires : goal.commit-requires
unfolding session_of
commit-requires g c told =
    let at = c.requires.at told in
    play_may_commit g.D.Disk c.args.disk.now c.args.disk.now c.args.self _ c.begin.result
    (ap (λ (x : Session). x.world) (c.begin.ensures.same ∙ c.release-parts.ensures.same))
    c.in_ok-made.made.play
    c.in_ok-made.ensures.swept.follows at.0 at.1

pub returns-in_err-play-clause-commits : goal.returns-in_err-play-clause-commits
unfolding session_of asks_in standing_of
returns-in_err-play-clause-commits g c =
    let s = standing_of (kinds_of c.args.handlers.now) [] c.args.self in
    let v = sweep_of c.args.wanted.now in
    let parts = c.release-parts.ensures in
    let session = c.begin.ensures.same ∙ parts.same in
    let first = play_of c.args.self.journal c.begin.result in
    let is = subst (λ (t : Swept). IsSwept t first c.in_ok-made.made
    (by_bytes c.sweep_all.new.remembered.asks.entries))
    (swept_here v s c.begin.result c.moment-now.result
    (by_bytes c.release-parts.result.1.asks.entries)
    session (c.moment-now.ensures ∙ ap (λ (x : Session). x.moment) parts.same) parts.asks)
    c.in_ok-made.ensures.swept in
    let d = g.D.Disk in
    let old = c.args.disk.now in
    let new = c.commit.new.disk in
    let self = c.args.self in
    let stop = c.in_err-play.field-0.0 in
    commits_stopped d old new self (swept v s).records (engine_with self) _ stop
    c.from_residual-in_err-play.result
    (handed_on c.from_residual-in_err-play.result stop c.from_residual-in_err-play.ensures.1)
    (commits_play d old new self (swept v s).records c.begin.result
    (ap (λ (x : Session). x.world) session) c.in_ok-made.made.play is.follows _
    c.in_err-play.ensures)

pub returns-in_err-session-clause-commits : goal.returns-in_err-session-clause-commits
unfolding session_of asks_in standing_of
returns-in_err-session-clause-commits g c =
    let s = standing_of (kinds_of c.args.handlers.now) [] c.args.self in
    let v = sweep_of c.args.wanted.now in
    let parts = c.release-parts.ensures in
    let session = c.begin.ensures.same ∙ parts.same in
    let first = play_of c.args.self.journal c.begin.result in
    let is = subst (λ (t : Swept). IsSwept t first c.in_ok-made.made
    (by_bytes c.sweep_all.new.remembered.asks.entries))
    (swept_here v s c.begin.result c.moment-now.result
    (by_bytes c.release-parts.result.1.asks.entries)
    session (c.moment-now.ensures ∙ ap (λ (x : Session). x.moment) parts.same) parts.asks)
    c.in_ok-made.ensures.swept in
    let d = g.D.Disk in
    let old = c.args.disk.now in
    let new = c.commit.new.disk in
    let self = c.args.self in
    commits_before d old new self (swept v s).records (engine_with self) _ c.in_ok-play.play
    c.from_residual-in_err-session.result
    (memory_stop c.from_residual-in_err-session.result c.from_residual-in_err-session.ensures.1)
    (commits_play d old new self (swept v s).records c.begin.result
    (ap (λ (x : Session). x.world) session) c.in_ok-made.made.play is.follows _
    c.in_ok-play.ensures)

pub new-requires-clause-marked : goal.new-requires-clause-marked
new-requires-clause-marked g c =
    subst (λ (x : Session). AreMarked x.world c.sweep_all.new.remembered.marks)
    (sym (c.in_ok-session.ensures.session
    ∙ ap (λ (x : Session). settled_session x) c.in_ok-play.ensures.session))
    c.in_ok-made.ensures.good.marked

pub returns-clause-swept : goal.returns-clause-swept
unfolding session_of asks_in standing_of
returns-clause-swept g c =
    let s = standing_of (kinds_of c.args.handlers.now) [] c.args.self in
    let v = sweep_of c.args.wanted.now in
    let parts = c.release-parts.ensures in
    let session = c.begin.ensures.same ∙ parts.same in
    let first = play_of c.args.self.journal c.begin.result in
    let is = subst (λ (t : Swept). IsSwept t first c.in_ok-made.made
    (by_bytes c.sweep_all.new.remembered.asks.entries))
    (swept_here v s c.begin.result c.moment-now.result
    (by_bytes c.release-parts.result.1.asks.entries)
    session (c.moment-now.ensures ∙ ap (λ (x : Session). x.moment) parts.same) parts.asks)
    c.in_ok-made.ensures.swept in
    let playing = c.in_ok-play.ensures.session ∙ is.follows.session
    ∙ ap (λ (x : Session). written (swept v s).records x) session in
    record {
      session = ap (λ (x : SessionWithAsks). x.session) c.new.ensures
          ∙ c.in_ok-session.ensures.session ∙ ap (λ (x : Session). settled_session x) playing;
      asks = ap (λ (x : SessionWithAsks). x.asks) c.new.ensures ∙ is.asks;
      due = c.in_ok-session.ensures.emissions ∙ ap (λ (x : Session). emissions x) playing;
      turns = is.turns;
      ended = is.ended;
    }

pub returns-clause-commits : goal.returns-clause-commits
unfolding session_of asks_in standing_of
returns-clause-commits g c =
    let s = standing_of (kinds_of c.args.handlers.now) [] c.args.self in
    let v = sweep_of c.args.wanted.now in
    let parts = c.release-parts.ensures in
    let session = c.begin.ensures.same ∙ parts.same in
    let first = play_of c.args.self.journal c.begin.result in
    let is = subst (λ (t : Swept). IsSwept t first c.in_ok-made.made
    (by_bytes c.sweep_all.new.remembered.asks.entries))
    (swept_here v s c.begin.result c.moment-now.result
    (by_bytes c.release-parts.result.1.asks.entries)
    session (c.moment-now.ensures ∙ ap (λ (x : Session). x.moment) parts.same) parts.asks)
    c.in_ok-made.ensures.swept in
    let d = g.D.Disk in
    let old = c.args.disk.now in
    let new = c.commit.new.disk in
    let self = c.args.self in
    let play = c.in_ok-play.play in
    let settled = ap (λ (x : SessionWithAsks). x.session) c.new.ensures
    ∙ c.in_ok-session.ensures.session in
    commits_so d old new self (swept v s).records (engine_with self) _ play _
    (λ bodies held.
    subst (λ (x : Session). Holds d new play.journal bodies x.world) (sym settled) held) refl
    (commits_play d old new self (swept v s).records c.begin.result
    (ap (λ (x : Session). x.world) session) c.in_ok-made.made.play is.follows _
    c.in_ok-play.ensures)
