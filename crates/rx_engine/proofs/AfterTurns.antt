-- How things stand after a turn, with a master of this journal or with one elsewhere.
use Rattle.std.proofs.Common.{◌≡◌, ◌≢◌, ◌∙◌, ◌≤◌, ap, sym, subst, true, ℕ, List, [], Option, Some}
use Rattle.rx_value.specs.Named.{by_bytes, named, put_named}
use Rattle.rx_disk.specs.declared.disk.Disk.{Ghosts}
use Rattle.rx_handler.specs.Handlers.{Kinds}
use Rattle.rx_journal.specs.declared.journal.Journal.{Journal}
use Rattle.rx_reply.specs.declared.turn.TurnEnd.TheVariants.{Quiet}
use Rattle.rx_session.specs.Emissions.{emissions, settled_session}
use Rattle.rx_session.specs.Session.{Session}
use Rattle.rx_store.specs.Holds.{Holds}
use Rattle.rx_sync.proofs.Apart.{AreApart, apart_turn}
use Rattle.rx_sync.proofs.Staying.{made_after, soundly_in_turn}
use Rattle.rx_sync.proofs.Turns.{turn_again, turn_quiet, turn_sound}
use Rattle.rx_sync.proofs.Worlds.{linked_at, sound_after}
use Rattle.rx_sync.specs.Asking.{pending_in}
use Rattle.rx_sync.specs.Asks.{Asks, asks_of}
use Rattle.rx_sync.specs.Exchange.{Terms, world_after}
use Rattle.rx_sync.specs.Laws.{ComeSoundly, IsLevel, MayTurn, RemembersLawful}
use Rattle.rx_sync.specs.Remote.{Heard}
use Rattle.rx_sync.specs.Turn.{Turned, turn}
use Rattle.rx_world.specs.Made.{IsMadeWorld}
use Rattle.rx_world.specs.Sound.{IsSoundWorld}
use Rattle.rx_world.specs.World.{World}
use Rattle.rx_world.specs.declared.replication.Replication.{Replication}
use Rattle.rx_engine.specs.Engine.{IsAfterTurn, IsAt, asks_in, session_of, standing_of}
use Rattle.rx_engine.specs.Marks.{AreMarked, AreMarkedBut}
use Rattle.rx_engine.specs.Play.{Follows, IsMadeByName, play_of}
use Rattle.rx_engine.specs.Remembered.{AreRemembered}
use Rattle.rx_engine.specs.Standing.{Standing}
use Rattle.rx_engine.specs.Turning.{CanTurn, WantedTurn, terms, turned, written}
use Rattle.rx_engine.specs.Turns.{IsBegun, IsEnded, MayEnd}
use Rattle.rx_engine.specs.declared.changing.AfterTurn.{AfterTurn}
use Rattle.rx_engine.specs.declared.engine.Engine.{Engine}
use Rattle.rx_engine.specs.declared.play.Play.{Play}
use Rattle.rx_engine.specs.declared.remembered.Remembered.{Remembered}
use Rattle.rx_engine.specs.declared.turning.Turned.{Turned as Made}
use Rattle.rx_engine.specs.declared.turns.Begun.{Begun}
use Rattle.rx_engine.proofs.Marking.{marked_then}
use Rattle.rx_engine.proofs.Plays.{written-world}
use Rattle.rx_engine.proofs.Remembering.{remembered_after, remembered_put, remembers_lawful}

-- ---- whoever answers

-- A turn of a replication leaves it there, with lawful requests: its records come soundly, and none
-- is of another replication.
pub record LeavesSoundly (name : List ℕ) (w : World) (t : Turned) : Type 0 where
  pub come : ComeSoundly w t.records
  pub apart : (other : List ℕ) → name ≢ other → AreApart other t.records
  pub lawful : RemembersLawful (world_after t.records w) name t.asks
  pub replication : Replication
  pub held : named (world_after t.records w).replications name ≡ Some replication

module _ (name : List ℕ) (t : Turned) (w then : World) (then_is : world_after t.records w ≡ then)
    (so : LeavesSoundly name w t) where
  pub made_after_turn : IsMadeWorld w → IsMadeWorld then
  made_after_turn made =
      subst IsMadeWorld then_is (made_after w t.records made (soundly_in_turn w t.records so.come))

  pub sound_after_turn : IsSoundWorld w → IsSoundWorld then
  sound_after_turn sound = subst IsSoundWorld then_is (sound_after w t.records sound so.come)

  pub remembered_after_turn : (asks : List (List ℕ × Asks)) → IsMadeWorld w → AreRemembered w asks
      → AreRemembered then (put_named asks name t.asks)
  remembered_after_turn asks made remembers =
      let v = world_after t.records w in
      let turn = soundly_in_turn w t.records so.come in
      let l = linked_at v (made_after w t.records made turn) name so.replication so.held in
      subst (λ (v : World). AreRemembered v (put_named asks name t.asks)) then_is
      (remembered_put v asks name t.asks so.replication l.fork so.held l.held so.lawful
      (remembered_after t.records w asks turn remembers))

  pub others_after_turn : (marks : List (List ℕ × Option ℕ)) → AreMarked w marks
      → AreMarkedBut name then marks
  others_after_turn marks all =
      subst (λ (v : World). AreMarkedBut name v marks) then_is
      (marked_then t.records w marks name (soundly_in_turn w t.records so.come) so.apart all)

-- ---- from an engine on

module _ (name : List ℕ) (e : Engine) (b : Begun) (begun : IsBegun name e b) where
  abbrev first : Play
  first = play_of e.journal (session_of e)

  -- in the words of the engine, and in those of what it was taken apart into
  pub of_begun : (P : Play → ℕ → List (List ℕ × Asks) → Type 0)
      → P b.play b.now (by_bytes b.remembered.asks.entries)
      → P first (session_of e).moment (asks_in e)
  of_begun P holds =
      subst (P first (session_of e).moment) begun.asks
      (subst (λ (n : ℕ). P first n (by_bytes b.remembered.asks.entries)) begun.now
      (subst (λ (p : Play). P p b.now (by_bytes b.remembered.asks.entries)) begun.play holds))

  pub to_begun : (P : Play → ℕ → List (List ℕ × Asks) → Type 0)
      → P first (session_of e).moment (asks_in e)
      → P b.play b.now (by_bytes b.remembered.asks.entries)
  to_begun P holds =
      subst (P b.play b.now) (sym begun.asks)
      (subst (λ (n : ℕ). P b.play n (asks_in e)) (sym begun.now)
      (subst (λ (p : Play). P p (session_of e).moment (asks_in e)) (sym begun.play) holds))

  pub none_begun : b.none ≡ true → pending_in b.play.playing.world name ≡ Some 0
  none_begun is =
      subst (λ (p : Play). pending_in p.playing.world name ≡ Some 0) (sym begun.play)
      (begun.none is)

  module _ (t : Turned) (m : Made) (r : Remembered)
      (made : IsMadeByName name t (session_of e) m (asks_in e) (by_bytes r.asks.entries)) where
    play_then : world_after t.records (session_of e).world ≡ m.play.playing.world
    play_then =
        sym (ap (λ (x : Session). x.world) made.session ∙ written-world t.records (session_of e))

    pub may_end : LeavesSoundly name (session_of e).world t → r.marks ≡ b.remembered.marks
        → (m.pulled ≡ true → pending_in m.play.playing.world name ≡ Some 0) → MayEnd name m r
    may_end so marks none =
        let w = (session_of e).world in
        let v = m.play.playing.world in
        record {
          made = made_after_turn name t w v play_then so begun.made;
          sound = sound_after_turn name t w v play_then so begun.sound;
          none = none;
          remembers = subst (AreRemembered v) (sym made.asks)
              (remembered_after_turn name t w v play_then so (asks_in e) begun.made
              begun.remembers);
          others = subst (AreMarkedBut name v) (sym marks)
              (others_after_turn name t w v play_then so b.remembered.marks begun.marked);
        }

    pub after_so : (after : AfterTurn) → IsEnded m (by_bytes r.asks.entries) after
        → (kinds : Kinds) (heard : List Heard)
        → IsAfterTurn name t (standing_of kinds heard e) after
    unfolding standing_of
    after_so after ended kinds heard = record {
      session = ended.session ∙ ap (λ (x : Session). settled_session x) made.session;
      asks = ended.asks_so ∙ made.asks;
      due = ended.due ∙ ap (λ (x : Session). emissions x) made.session;
      exchanges = ended.exchanges ∙ made.exchanges;
      ended = ended.ended ∙ made.ended;
    }

-- the disk holds the engine that it ends with, as it held the turn
pub at_end : {D : Type 0} (d : Ghosts D) (disk : D) (m : Made) (asks : List (List ℕ × Asks))
    (after : AfterTurn) → IsEnded m asks after → (bodies : List (List ℕ))
    → Holds d disk m.play.journal bodies m.play.playing.world → IsAt d disk after.engine bodies
at_end d disk m asks after ended bodies holds =
    subst (λ (j : Journal). Holds d disk j bodies (session_of after.engine).world)
    (sym ended.journal)
    (subst (λ (x : Session). Holds d disk m.play.journal bodies x.world) (sym ended.session) holds)

-- ---- a master of this journal

module _ (u : WantedTurn) (s : Standing) (some : 1 ≤ u.batch) (made : IsMadeWorld s.session.world)
    (sound : IsSoundWorld s.session.world) (can : CanTurn s.kinds s.session u.name)
    (remembers : AreRemembered s.session.world s.asks) where
  abbrev w : World
  w = s.session.world

  abbrev pub done : Turned
  done = turned u s

  abbrev t : Terms
  t = terms u.name s.session.moment s.kinds

  abbrev a : Asks
  a = asks_of u.name s.asks

  pub may : MayTurn (terms u.name s.session.moment s.kinds) w (asks_of u.name s.asks)
  may = record {
    ready = record {
      made = made;
      sound = sound;
      here = can.here;
      kind = can.kind;
      handler = can.handler;
    };
    asks = remembers_lawful w s.asks u.name remembers;
  }

  pub leaves : LeavesSoundly u.name w done
  leaves =
      let again = turn_again t u.batch u.budget u.link w a some may in
      record {
        come = turn_sound t u.batch u.budget u.link w a some may;
        apart = λ other not. apart_turn t other not u.batch u.budget u.link w a;
        lawful = again.asks;
        replication = again.ready.here.replication;
        held = again.ready.here.held;
      }

  abbrev then : World
  then = (written done.records s.session).world

  then_is : world_after done.records w ≡ then
  then_is = sym (written-world done.records s.session)

  pub made_then : IsMadeWorld then
  made_then = made_after_turn u.name done w then then_is leaves made

  pub sound_then : IsSoundWorld then
  sound_then = sound_after_turn u.name done w then then_is leaves sound

  pub remembered_then : AreRemembered then (put_named s.asks u.name done.asks)
  remembered_then = remembered_after_turn u.name done w then then_is leaves s.asks made remembers

  pub level_then : done.ended ≡ Quiet → IsLevel then u.name
  level_then quiet =
      subst (λ (v : World). IsLevel v u.name) then_is
      (turn_quiet t u.batch u.budget u.link w a some may quiet)

-- as it was made from an engine on
module _ (u : WantedTurn) (kinds : Kinds) (e : Engine) (b : Begun) (begun : IsBegun u.name e b)
    (some : 1 ≤ u.batch) (can : CanTurn kinds (session_of e) u.name) where
  abbrev pub turn_from : Play → ℕ → List (List ℕ × Asks) → Turned
  turn_from p n l =
      turn (terms u.name n kinds) u.batch u.budget u.link p.playing.world (asks_of u.name l)

  pub may_begun : MayTurn (terms u.name b.now kinds) b.play.playing.world
      (asks_of u.name (by_bytes b.remembered.asks.entries))
  unfolding standing_of
  may_begun =
      to_begun u.name e b begun
      (λ p n l. MayTurn (terms u.name n kinds) p.playing.world (asks_of u.name l))
      (may u (standing_of kinds [] e) some begun.made begun.sound can begun.remembers)

  pub leaves_begun : LeavesSoundly u.name (session_of e).world (turned u (standing_of kinds [] e))
  unfolding standing_of
  leaves_begun =
      leaves u (standing_of kinds [] e) some begun.made begun.sound can begun.remembers

  pub made_begun : (m : Made) (then : List (List ℕ × Asks))
      → IsMadeByName u.name (turn_from b.play b.now (by_bytes b.remembered.asks.entries))
      b.play.playing m (by_bytes b.remembered.asks.entries) then
      → IsMadeByName u.name (turned u (standing_of kinds [] e)) (session_of e) m (asks_in e) then
  unfolding standing_of
  made_begun m then is =
      of_begun u.name e b begun
      (λ p n l. IsMadeByName u.name (turn_from p n l) p.playing m l then) is

  pub follows_begun : (q : Play)
      → Follows b.play (turn_from b.play b.now (by_bytes b.remembered.asks.entries)).records q
      → Follows (play_of e.journal (session_of e)) (turned u (standing_of kinds [] e)).records q
  unfolding standing_of
  follows_begun q is =
      of_begun u.name e b begun (λ p n l. Follows p (turn_from p n l).records q) is

  pub level_begun : (after : AfterTurn)
      → session_of after.engine
      ≡ settled_session (written (turned u (standing_of kinds [] e)).records (session_of e))
      → (turned u (standing_of kinds [] e)).ended ≡ Quiet
      → IsLevel (session_of after.engine).world u.name
  unfolding standing_of
  level_begun after same quiet =
      subst (λ (x : Session). IsLevel x.world u.name) (sym same)
      (level_then u (standing_of kinds [] e) some begun.made begun.sound can begun.remembers quiet)
