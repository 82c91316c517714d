-- How things stand after a turn to a master elsewhere.
use Rattle.std.proofs.Common.{◌≡◌, ◌≤◌, refl, sym, ℕ, List, [], Result}
use Rattle.rx_value.specs.Named.{by_bytes, put_named}
use Rattle.rx_disk.specs.declared.disk.Disk.{Ghosts}
use Rattle.rx_handler.specs.Handlers.{Kinds}
use Rattle.rx_outside.specs.declared.stop.Stop.{Stop}
use Rattle.rx_sync.proofs.Apart.{apart_remote_turn}
use Rattle.rx_sync.proofs.Elsewhere.{remote_turn_again, remote_turn_sound}
use Rattle.rx_sync.specs.Asks.{Asks, asks_of}
use Rattle.rx_sync.specs.Exchange.{Terms, world_after}
use Rattle.rx_sync.specs.Remote.{Heard, remote_turn}
use Rattle.rx_sync.specs.RemoteLaws.{MayCall}
use Rattle.rx_sync.specs.Turn.{Turned}
use Rattle.rx_world.specs.Made.{IsMadeWorld}
use Rattle.rx_world.specs.Sound.{IsSoundWorld}
use Rattle.rx_world.specs.World.{World}
use Rattle.rx_engine.specs.Calling.{CanCall, WantedCall, called}
use Rattle.rx_engine.specs.Callings.{IsDialledBy, IsRemoteMadeByName, TurnsRemotely}
use Rattle.rx_engine.specs.Dialled.{DialStanding}
use Rattle.rx_engine.specs.Engine.{IsAt, asks_in, limit_of, session_of, standing_of}
use Rattle.rx_engine.specs.Play.{IsPlayAt, play_of}
use Rattle.rx_engine.specs.Remembered.{AreRemembered}
use Rattle.rx_engine.specs.Standing.{Standing}
use Rattle.rx_engine.specs.Turning.{terms, written}
use Rattle.rx_engine.specs.Turns.{IsBegun}
use Rattle.rx_engine.specs.declared.engine.Engine.{Engine}
use Rattle.rx_engine.specs.declared.play.Play.{Play}
use Rattle.rx_engine.specs.declared.turning.Turned.{Turned as Made}
use Rattle.rx_engine.specs.declared.turns.Begun.{Begun}
use Rattle.rx_engine.proofs.AfterTurns.{LeavesSoundly, made_after_turn, of_begun, remembered_after_turn, sound_after_turn, to_begun}
use Rattle.rx_engine.proofs.Plays.{written-world}
use Rattle.rx_engine.proofs.Remembering.{remembers_lawful}
use Rattle.rx_engine.proofs.Remotely.{in_words}

module _ (c : WantedCall) (s : Standing) (some : 1 ≤ c.batch) (made : IsMadeWorld s.session.world)
    (sound : IsSoundWorld s.session.world) (can : CanCall s.kinds s.session c.name)
    (remembers : AreRemembered s.session.world s.asks) where
  abbrev w : World
  w = s.session.world

  abbrev pub done : Turned
  done = (called c s).turned

  abbrev t : Terms
  t = terms c.name s.session.moment s.kinds

  abbrev a : Asks
  a = asks_of c.name s.asks

  pub may_call : MayCall (terms c.name s.session.moment s.kinds) w (asks_of c.name s.asks)
  may_call = record {
    ready = record {
      made = made;
      sound = sound;
      there = can.there;
      kind = can.kind;
      handler = can.handler;
    };
    asks = remembers_lawful w s.asks c.name remembers;
  }

  pub leaves_called : LeavesSoundly c.name w done
  leaves_called =
      let again = remote_turn_again t c.batch c.budget s.heard w a some may_call in
      record {
        come = remote_turn_sound t c.batch c.budget s.heard w a some may_call;
        apart = λ other not. apart_remote_turn t other not c.batch c.budget s.heard w a;
        lawful = again.asks;
        replication = again.ready.there.replication;
        held = again.ready.there.held;
      }

  abbrev then : World
  then = (written done.records s.session).world

  then_is : world_after done.records w ≡ then
  then_is = sym (written-world done.records s.session)

  pub made_called : IsMadeWorld then
  made_called = made_after_turn c.name done w then then_is leaves_called made

  pub sound_called : IsSoundWorld then
  sound_called = sound_after_turn c.name done w then then_is leaves_called sound

  pub remembered_called : AreRemembered then (put_named s.asks c.name done.asks)
  remembered_called =
      remembered_after_turn c.name done w then then_is leaves_called s.asks made remembers

-- as it was made from an engine on
module _ (c : WantedCall) (kinds : Kinds) (e : Engine) (b : Begun) (begun : IsBegun c.name e b)
    (some : 1 ≤ c.batch) (can : CanCall kinds (session_of e) c.name) where
  pub may_call_begun : MayCall (terms c.name b.now kinds) b.play.playing.world
      (asks_of c.name (by_bytes b.remembered.asks.entries))
  unfolding standing_of
  may_call_begun =
      to_begun c.name e b begun
      (λ p n l. MayCall (terms c.name n kinds) p.playing.world (asks_of c.name l))
      (may_call c (standing_of kinds [] e) some begun.made begun.sound can begun.remembers)

  pub leaves_call_begun : (heard : List Heard)
      → LeavesSoundly c.name (session_of e).world (called c (standing_of kinds heard e)).turned
  unfolding standing_of
  leaves_call_begun heard =
      leaves_called c (standing_of kinds heard e) some begun.made begun.sound can begun.remembers

  -- over a dial
  abbrev pub CallsFrom : {D : Type 0} → Ghosts D → D → D → Type 0 → DialStanding → DialStanding
      → List (List ℕ × Asks) → Result Made Stop → Play → ℕ → List (List ℕ × Asks) → Type 0
  CallsFrom d old new tells dial dial' then r p n l =
      TurnsRemotely d old new p.journal.limit (IsPlayAt d old p)
      (λ (m : Made). IsPlayAt d new m.play)
      (λ (heard : List Heard). remote_turn (terms c.name n kinds) c.batch c.budget heard
      p.playing.world (asks_of c.name l))
      (IsRemoteMadeByName c.name p.playing l then)
      (IsDialledBy tells c.port p.playing.world c.name dial dial') r

  pub call_begun : {D : Type 0} (d : Ghosts D) (old new : D) (tells : Type 0)
      (dial dial' : DialStanding) (then : List (List ℕ × Asks)) (r : Result Made Stop)
      → CallsFrom d old new tells dial dial' then r b.play b.now
      (by_bytes b.remembered.asks.entries)
      → TurnsRemotely d old new (limit_of e) (IsAt d old e) (λ (m : Made). IsPlayAt d new m.play)
      (λ heard. called c (standing_of kinds heard e))
      (IsRemoteMadeByName c.name (session_of e) (asks_in e) then)
      (IsDialledBy tells c.port (session_of e).world c.name dial dial') r
  unfolding standing_of
  call_begun d old new tells dial dial' then r made =
      in_words d old new (limit_of e) (IsPlayAt d old (play_of e.journal (session_of e)))
      (λ (m : Made). IsPlayAt d new m.play)
      (λ (heard : List Heard). remote_turn (terms c.name (session_of e).moment kinds) c.batch
      c.budget heard (session_of e).world (asks_of c.name (asks_in e)))
      (IsRemoteMadeByName c.name (session_of e) (asks_in e) then)
      (IsDialledBy tells c.port (session_of e).world c.name dial dial') r
      (of_begun c.name e b begun (CallsFrom d old new tells dial dial' then r) made)
      (IsAt d old e) (λ (m : Made). IsPlayAt d new m.play) _ _ _ (λ bodies holds. (holds, refl))
      (λ x bodies held. held) (λ heard. refl) (λ u later x so. so) (λ requests heard shows. shows)
