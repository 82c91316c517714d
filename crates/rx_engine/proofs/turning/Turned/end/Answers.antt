use Rattle.std.proofs.Common.{◌∙◌, refl, ap, sym, subst}
use Rattle.rx_value.specs.Named.{by_bytes}
use Rattle.rx_session.specs.Session.{Session}
use Rattle.rx_world.specs.Made.{IsMadeWorld}
use Rattle.rx_world.specs.Sound.{IsSoundWorld}
use Rattle.rx_world.specs.World.{World}
use Rattle.rx_engine.specs.Engine.{asks_in, session_of}
use Rattle.rx_engine.specs.Remembered.{AreRemembered}
use Rattle.rx_engine.specs.SoundSession.{SessionWithAsks}
use Rattle.rx_engine.proofs.turning.Turned.end.Goals as goal

pub settle_turn-requires-clause-none : goal.settle_turn-requires-clause-none
settle_turn-requires-clause-none c is = c.requires.may.none is

pub settle_turn-requires-clause-others : goal.settle_turn-requires-clause-others
settle_turn-requires-clause-others c = c.requires.may.others

-- the session's world stays one that records made, and sound
pub new-requires-clause-made : goal.new-requires-clause-made
new-requires-clause-made c =
    subst IsMadeWorld (sym (ap (λ (x : Session). x.world) c.in_ok-session.ensures.session))
    c.requires.may.made

pub new-requires-clause-sound : goal.new-requires-clause-sound
new-requires-clause-sound c =
    subst IsSoundWorld (sym (ap (λ (x : Session). x.world) c.in_ok-session.ensures.session))
    c.requires.may.sound

pub new-requires-clause-remembered : goal.new-requires-clause-remembered
new-requires-clause-remembered c =
    subst (λ (w : World). AreRemembered w (by_bytes c.args.remembered.asks.entries))
    (sym (ap (λ (x : Session). x.world) c.in_ok-session.ensures.session)) c.requires.may.remembers

pub new-requires-clause-marked : goal.new-requires-clause-marked
new-requires-clause-marked c = c.in_ok-session.ensures.marked

pub returns : goal.returns
unfolding session_of asks_in
returns c = record {
  session = ap (λ (x : SessionWithAsks). x.session) c.new.ensures
      ∙ c.in_ok-session.ensures.session;
  asks_so = ap (λ (x : SessionWithAsks). x.asks) c.new.ensures;
  journal = refl;
  due = c.in_ok-session.ensures.emissions;
  exchanges = refl;
  ended = refl;
}
