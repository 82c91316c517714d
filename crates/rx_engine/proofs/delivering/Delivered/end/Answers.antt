use Rattle.std.proofs.Common.{◌≡◌, ◌∙◌, Some, refl, ap, sym, subst}
use Rattle.std.specs.List.{AllByRecursion}
use Rattle.rx_value.specs.Named.{by_bytes}
use Rattle.rx_session.specs.Doing.{with_kept}
use Rattle.rx_session.specs.Emissions.{emissions, settled_session}
use Rattle.rx_session.specs.Session.{Session}
use Rattle.rx_session.specs.Streams.{IsGoodFor}
use Rattle.rx_store.specs.Holds.{Holds}
use Rattle.rx_store.proofs.Stops.{handed_on, memory_stop}
use Rattle.rx_sync.specs.Asking.{pending_in}
use Rattle.rx_sync.specs.Delivery.{is_level, is_resync}
use Rattle.rx_sync.specs.Laws.{HasMasterHere}
use Rattle.rx_world.specs.Made.{IsMadeWorld}
use Rattle.rx_world.specs.Sound.{IsSoundWorld}
use Rattle.rx_world.specs.World.{World}
use Rattle.rx_engine.specs.Engine.{asks_in, session_of}
use Rattle.rx_engine.specs.Marks.{AreMarkedBut}
use Rattle.rx_engine.specs.Remembered.{AreRemembered}
use Rattle.rx_engine.specs.SoundSession.{SessionWithAsks}
use Rattle.rx_engine.proofs.Committing.{commits_before, commits_play, commits_so, commits_stopped, engine_with}
use Rattle.rx_engine.proofs.delivering.Delivered.end.Goals as goal

pub returns-in_err-play-clause-commits : goal.returns-in_err-play-clause-commits
returns-in_err-play-clause-commits g c = λ e session cs same follows.
    let d = g.D.Disk in
    let old = c.args.disk.now in
    let new = c.commit.new.disk in
    let stop = c.in_err-play.field-0.0 in
    commits_stopped d old new e cs (engine_with e) _ stop c.from_residual.result
    (handed_on c.from_residual.result stop c.from_residual.ensures.1)
    (commits_play d old new e cs session same c.args.self.play follows _ c.in_err-play.ensures)

pub returns-in_err-playing-clause-commits : goal.returns-in_err-playing-clause-commits
returns-in_err-playing-clause-commits g c = λ e session cs same follows.
    let d = g.D.Disk in
    let old = c.args.disk.now in
    let new = c.commit.new.disk in
    let r = c.from_residual-in_err-playing in
    commits_before d old new e cs (engine_with e) _ c.in_ok-play.play r.result
    (memory_stop r.result r.ensures.1)
    (commits_play d old new e cs session same c.args.self.play follows _ c.in_ok-play.ensures)

pub returns-in_err-session-clause-commits : goal.returns-in_err-session-clause-commits
returns-in_err-session-clause-commits g c = λ e session cs same follows.
    let d = g.D.Disk in
    let old = c.args.disk.now in
    let new = c.commit.new.disk in
    let r = c.from_residual-in_err-session in
    commits_before d old new e cs (engine_with e) _ c.in_ok-play.play r.result
    (memory_stop r.result r.ensures.1)
    (commits_play d old new e cs session same c.args.self.play follows _ c.in_ok-play.ensures)

pub returns-clause-commits : goal.returns-clause-commits
unfolding session_of
returns-clause-commits g c = λ e session cs same follows.
    let d = g.D.Disk in
    let old = c.args.disk.now in
    let new = c.commit.new.disk in
    let play = c.in_ok-play.play in
    let settled = ap (λ (x : SessionWithAsks). x.session) c.new.ensures
    ∙ c.in_ok-session.ensures.session in
    let kept = ap (λ (x : Session). x.world) c.in_ok-playing.ensures in
    commits_so d old new e cs (engine_with e) _ play _
    (λ bodies held.
    subst (λ (w : World). Holds d new play.journal bodies w)
    (sym (ap (λ (x : Session). x.world) settled ∙ kept)) held) refl
    (commits_play d old new e cs session same c.args.self.play follows _ c.in_ok-play.ensures)

-- the commit leaves the world as it was in play
pub is_level-level-requires-clause-master : goal.is_level-level-requires-clause-master
is_level-level-requires-clause-master g c =
    subst (λ (w : World). HasMasterHere w c.args.name.now)
    (sym (c.world.ensures ∙ ap (λ (x : Session). x.world) c.in_ok-play.ensures.session))
    c.requires.may.here

pub is_level-level-requires-clause-sound : goal.is_level-level-requires-clause-sound
is_level-level-requires-clause-sound g c =
    subst IsSoundWorld
    (sym (c.world.ensures ∙ ap (λ (x : Session). x.world) c.in_ok-play.ensures.session))
    c.requires.may.sound

pub is_level-level-requires-clause-none : goal.is_level-level-requires-clause-none
is_level-level-requires-clause-none g c is =
    subst (λ (w : World). pending_in w c.args.name.now ≡ Some 0)
    (sym (c.world.ensures ∙ ap (λ (x : Session). x.world) c.in_ok-play.ensures.session))
    (c.requires.may.none is)

pub keep_events-requires : goal.keep_events-requires
keep_events-requires g c = record {
  good = subst (λ (x : Session). AllByRecursion (IsGoodFor x.world c.args.name.now)
      c.args.self.kept.items) (sym c.in_ok-play.ensures.session) c.requires.may.good;
}

pub settle_turn-requires-clause-none : goal.settle_turn-requires-clause-none
settle_turn-requires-clause-none g c is =
    subst (λ (w : World). pending_in w c.args.name.now ≡ Some 0)
    (sym (ap (λ (x : Session). x.world) c.in_ok-playing.ensures
    ∙ ap (λ (x : Session). x.world) c.in_ok-play.ensures.session)) (c.requires.may.none is)

pub settle_turn-requires-clause-others : goal.settle_turn-requires-clause-others
settle_turn-requires-clause-others g c =
    subst (λ (w : World). AreMarkedBut c.args.name.now w c.args.aside.remembered.marks)
    (sym (ap (λ (x : Session). x.world) c.in_ok-playing.ensures
    ∙ ap (λ (x : Session). x.world) c.in_ok-play.ensures.session)) c.requires.may.others

pub new-requires-clause-made : goal.new-requires-clause-made
new-requires-clause-made g c =
    subst IsMadeWorld (sym (ap (λ (x : Session). x.world) c.in_ok-session.ensures.session
    ∙ ap (λ (x : Session). x.world) c.in_ok-playing.ensures
    ∙ ap (λ (x : Session). x.world) c.in_ok-play.ensures.session)) c.requires.may.made

pub new-requires-clause-sound : goal.new-requires-clause-sound
new-requires-clause-sound g c =
    subst IsSoundWorld (sym (ap (λ (x : Session). x.world) c.in_ok-session.ensures.session
    ∙ ap (λ (x : Session). x.world) c.in_ok-playing.ensures
    ∙ ap (λ (x : Session). x.world) c.in_ok-play.ensures.session)) c.requires.may.sound

pub new-requires-clause-remembered : goal.new-requires-clause-remembered
new-requires-clause-remembered g c =
    subst (λ (w : World). AreRemembered w (by_bytes c.args.aside.remembered.asks.entries))
    (sym (ap (λ (x : Session). x.world) c.in_ok-session.ensures.session
    ∙ ap (λ (x : Session). x.world) c.in_ok-playing.ensures
    ∙ ap (λ (x : Session). x.world) c.in_ok-play.ensures.session)) c.requires.may.remembers

pub new-requires-clause-marked : goal.new-requires-clause-marked
new-requires-clause-marked g c = c.in_ok-session.ensures.marked

pub returns-clause-ended : goal.returns-clause-ended
unfolding session_of asks_in
returns-clause-ended g c =
    let name = c.args.name.now in
    let put = c.in_ok-playing.ensures
    ∙ ap (with_kept name c.args.self.kept.items) c.in_ok-play.ensures.session in
    record {
      session =
          ap (λ (x : SessionWithAsks). x.session) c.new.ensures ∙ c.in_ok-session.ensures.session
          ∙ ap (λ (x : Session). settled_session x) put;
      asks = ap (λ (x : SessionWithAsks). x.asks) c.new.ensures;
      due = c.in_ok-session.ensures.emissions ∙ ap (λ (x : Session). emissions x) put;
      given = refl;
      level = c.is_level-level.ensures
          ∙ ap (λ (w : World). is_level w name)
          (c.world.ensures ∙ ap (λ (x : Session). x.world) c.in_ok-play.ensures.session);
      resync = c.is_resync-resync.ensures ∙ ap (is_resync c.args.aside.lost) c.as_slice.ensures;
    }
