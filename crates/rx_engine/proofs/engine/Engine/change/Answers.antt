use Rattle.std.proofs.Common.{◌∙◌, sym, ap, subst}
use Rattle.rx_session.specs.Doing.{Doing, session_after, MayDo}
use Rattle.rx_session.specs.Emissions.{emissions, settled_session}
use Rattle.rx_session.specs.Session.{Session}
use Rattle.rx_session.specs.Shown.{done_by}
use Rattle.rx_world.specs.Made.{IsMadeWorld}
use Rattle.rx_world.specs.Sound.{IsSoundWorld}
use Rattle.rx_engine.specs.Engine.{asks_in, session_of}
use Rattle.rx_engine.specs.Marks.{AreMarked}
use Rattle.rx_engine.specs.Remembered.{AreRemembered}
use Rattle.rx_engine.specs.SoundSession.{SessionWithAsks}
use Rattle.rx_engine.proofs.Keeping.{in_session, made_then, sound_then}
use Rattle.rx_engine.proofs.Marking.{marked_doing}
use Rattle.rx_engine.proofs.Remembering.{remembered_doing}
use Rattle.rx_engine.proofs.engine.Engine.change.Goals as goal

pub next-requires : goal.next-requires
unfolding session_of
next-requires c =
    subst (λ (s : Session). MayDo (done_by c.args.doing) s) (sym c.release-parts.ensures.same)
    c.requires.may

-- the session's world stays one that records made, and sound
pub new-requires-clause-made : goal.new-requires-clause-made
unfolding session_of
new-requires-clause-made c =
    let doing = done_by c.args.doing in
    let s = c.args.self.session.session in
    let then = c.in_ok-session.ensures.session
    ∙ ap (λ (x : Session). settled_session (session_after doing x)) c.release-parts.ensures.same in
    subst (λ (x : Session). IsMadeWorld x.world) (sym then)
    (made_then doing s c.requires.may c.release-parts.ensures.made)

pub new-requires-clause-sound : goal.new-requires-clause-sound
unfolding session_of
new-requires-clause-sound c =
    let doing = done_by c.args.doing in
    let s = c.args.self.session.session in
    let parts = c.release-parts.ensures in
    let then = c.in_ok-session.ensures.session
    ∙ ap (λ (x : Session). settled_session (session_after doing x)) parts.same in
    subst (λ (x : Session). IsSoundWorld x.world) (sym then)
    (sound_then doing s c.requires.may c.requires.apart parts.made parts.sound)

pub new-requires-clause-remembered : goal.new-requires-clause-remembered
unfolding session_of
new-requires-clause-remembered c =
    let doing = done_by c.args.doing in
    let s = c.args.self.session.session in
    let asks = c.args.self.session.asks in
    let parts = c.release-parts.ensures in
    let then = c.in_ok-session.ensures.session
    ∙ ap (λ (x : Session). settled_session (session_after doing x)) parts.same in
    subst (AreRemembered c.in_ok-session.session.world) (sym parts.asks)
    (subst (λ (x : Session). AreRemembered x.world asks) (sym then)
    (remembered_doing doing s asks (in_session c.args.doing) c.requires.may parts.remembered))

pub new-requires-clause-marked : goal.new-requires-clause-marked
unfolding session_of
new-requires-clause-marked c =
    let doing = done_by c.args.doing in
    let s = c.args.self.session.session in
    let marks = c.release-parts.result.1.marks in
    let parts = c.release-parts.ensures in
    let then = c.in_ok-session.ensures.session
    ∙ ap (λ (x : Session). settled_session (session_after doing x)) parts.same in
    subst (λ (x : Session). AreMarked x.world marks) (sym then)
    (marked_doing doing s marks
    (in_session c.args.doing) c.requires.may c.requires.apart parts.marked)

pub returns-clause-session : goal.returns-clause-session
unfolding session_of
returns-clause-session c =
    ap (λ (x : SessionWithAsks). x.session) c.new.ensures ∙ c.in_ok-session.ensures.session
    ∙ ap (λ (s : Session). settled_session (session_after (done_by c.args.doing) s))
    c.release-parts.ensures.same

pub returns-clause-emissions : goal.returns-clause-emissions
unfolding session_of
returns-clause-emissions c =
    c.in_ok-session.ensures.emissions
    ∙ ap (λ (s : Session). emissions (session_after (done_by c.args.doing) s))
    c.release-parts.ensures.same

pub returns-clause-asks : goal.returns-clause-asks
unfolding asks_in
returns-clause-asks c =
    ap (λ (x : SessionWithAsks). x.asks) c.new.ensures ∙ c.release-parts.ensures.asks

-- nothing was to be emitted before, so nothing is
pub returns-clause-idle : goal.returns-clause-idle
unfolding session_of
returns-clause-idle c is =
    let s = c.release-parts.result.0 in (
      ap (λ (x : SessionWithAsks). x.session) c.new.ensures ∙ c.in_ok-session.ensures.session
          ∙ ap (λ (d : Doing). settled_session (session_after d s)) is
          ∙ c.next.ensures.before.same ∙ c.release-parts.ensures.same,
      c.in_ok-session.ensures.emissions ∙ ap (λ (d : Doing). emissions (session_after d s)) is
          ∙ c.next.ensures.before.quiet,
    )
