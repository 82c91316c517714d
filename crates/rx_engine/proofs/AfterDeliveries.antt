-- How things stand after a delivery.
use Rattle.std.proofs.Common.{◌≡◌, ◌≢◌, ◌∙◌, ℕ, List, [], Option, Some, true, ap, sym, subst}
use Rattle.std.specs.List.{AllByRecursion}
use Rattle.std.specs.Prelude.{IsSome}
use Rattle.rx_value.specs.Named.{by_bytes, named}
use Rattle.rx_value.proofs.Outcomes.{some_is}
use Rattle.rx_session.specs.Doing.{with_emptied, with_kept}
use Rattle.rx_session.specs.Session.{Session, queued_in, stream_of}
use Rattle.rx_session.specs.Streams.{AreStreamed, IsGoodFor}
use Rattle.rx_session.proofs.Streamed.{queued_good_for, stream_there}
use Rattle.rx_stream.specs.declared.event.Event.{Event}
use Rattle.rx_stream.specs.declared.stream.Stream.{Stream}
use Rattle.rx_sync.proofs.Deliveries.{delivery_again, delivery_sound, delivery_waits}
use Rattle.rx_sync.proofs.Levels.{level_is_equal}
use Rattle.rx_sync.proofs.Staying.{soundly_in_turn}
use Rattle.rx_sync.specs.Asking.{pending_in}
use Rattle.rx_sync.specs.Asks.{Asks}
use Rattle.rx_sync.specs.Delivery.{Delivered, MayDeliver, delivered, is_level}
use Rattle.rx_sync.specs.Exchange.{world_after}
use Rattle.rx_sync.specs.Laws.{ComeSoundly, HasMasterHere, IsLevel}
use Rattle.rx_world.specs.Made.{IsMadeWorld}
use Rattle.rx_world.specs.Sound.{IsSoundWorld}
use Rattle.rx_world.specs.World.{World}
use Rattle.rx_engine.specs.Delivering.{HasGoodWorld, IsBegun, IsDelivered, MayEnd}
use Rattle.rx_engine.specs.Engine.{WaitsForPushes, asks_in, session_of}
use Rattle.rx_engine.specs.Marks.{AreMarked, AreMarkedBut}
use Rattle.rx_engine.specs.Play.{Follows, play_of}
use Rattle.rx_engine.specs.Remembered.{AreRemembered}
use Rattle.rx_engine.specs.Standing.{Standing}
use Rattle.rx_engine.specs.Streams.{WantedDelivery, delivered_by, session_delivered}
use Rattle.rx_engine.specs.declared.deliveries.Begun.{Begun}
use Rattle.rx_engine.specs.declared.delivering.Delivered.{Delivered as Made}
use Rattle.rx_engine.specs.declared.engine.Engine.{Engine}
use Rattle.rx_engine.specs.declared.play.Play.{Play}
use Rattle.rx_engine.proofs.CanTurns.{can_deliver}
use Rattle.rx_engine.proofs.EachEvent.{apart_delivered}
use Rattle.rx_engine.proofs.Marking.{marked_then}
use Rattle.rx_engine.proofs.Plays.{written-world}
use Rattle.rx_engine.proofs.Remembering.{remembered_after}

module _ (d : WantedDelivery) (s : Session) (made : IsMadeWorld s.world)
    (sound : IsSoundWorld s.world)
    (streamed : AreStreamed s.world s.streams) (is_open : IsSome (stream_of d.name s)) where
  abbrev w : World
  w = s.world

  abbrev pub done : Delivered
  done = delivered_by d s

  found : (st : Stream) × (stream_of d.name s ≡ Some st)
  found = some_is (stream_of d.name s) is_open

  here : HasMasterHere w d.name
  here =
      let x = stream_there d.name w s.streams streamed found.0 found.1 in
      record {
        replication = x.0.replication;
        held = ap (named w.replications) x.1 ∙ x.0.held;
        master = found.0.master;
        local = x.0.local;
      }

  -- it may be made
  pub may_deliver : MayDeliver w d.name (queued_in d.name s)
  may_deliver = record {
    made = made;
    sound = sound;
    here = here;
    good = queued_good_for d.name w s.streams streamed;
  }

  come : ComeSoundly w done.records
  come = delivery_sound d.name s.moment 1 d.link (queued_in d.name s) w may_deliver

  -- what is kept may be delivered
  pub again : MayDeliver (world_after done.records w) d.name done.kept
  again = delivery_again d.name s.moment 1 d.link (queued_in d.name s) w may_deliver

  pub made_delivered : IsMadeWorld (world_after done.records w)
  made_delivered = again.made

  pub sound_delivered : IsSoundWorld (world_after done.records w)
  sound_delivered = again.sound

  pub remembered_delivered : (asks : List (List ℕ × Asks)) → AreRemembered w asks
      → AreRemembered (world_after done.records w) asks
  remembered_delivered asks remembers =
      remembered_after done.records w asks (soundly_in_turn w done.records come) remembers

  pub others_delivered : (marks : List (List ℕ × Option ℕ)) → AreMarked w marks
      → AreMarkedBut d.name (world_after done.records w) marks
  others_delivered marks all =
      marked_then done.records w marks d.name (soundly_in_turn w done.records come)
      (λ name other. apart_delivered name d.name other s.moment 1 d.link (queued_in d.name s) w) all

  pub level_delivered : is_level (world_after done.records w) d.name ≡ true
      → IsLevel (world_after done.records w) d.name
  level_delivered level =
      level_is_equal (world_after done.records w) d.name again.made again.sound level

  pub waits_delivered : pending_in w d.name ≢ Some 0 → done.records ≡ []
  waits_delivered = delivery_waits d.name s.moment 1 d.link (queued_in d.name s) w may_deliver

-- ---- a line that delivers, or doesn't

-- a delivery to a fork that has something to push writes nothing
pub line_waits : (line : List ℕ) (s : Standing) → IsMadeWorld s.session.world
    → IsSoundWorld s.session.world → AreStreamed s.session.world s.session.streams
    → WaitsForPushes line s
line_waits line s made sound streamed d at due =
    waits_delivered d s.session made sound streamed (can_deliver s.kinds line s.session d at) due

-- ---- as the code has its parts

module _ (d : WantedDelivery) (e : Engine) (b : Begun) (is : IsBegun d e b) where
  abbrev begins : Session
  begins = e.session.session

  abbrev comes_to : Delivered
  comes_to = delivered d.name b.now 1 d.link b.events.items b.play.playing.world

  -- the delivery is the line's
  pub same_delivery : comes_to ≡ delivered_by d begins
  unfolding session_of
  same_delivery =
      ap (λ (n : ℕ). delivered d.name n 1 d.link b.events.items b.play.playing.world) is.now
      ∙ ap (λ (es : List Event). delivered d.name begins.moment 1 d.link es b.play.playing.world)
      is.events
      ∙ ap (λ (p : Play). delivered d.name begins.moment 1 d.link (queued_in d.name begins)
      p.playing.world) is.play

  -- it may be made
  pub begun_may : HasGoodWorld e b.aside.remembered → IsSome (stream_of d.name begins)
      → MayDeliver b.play.playing.world d.name b.events.items
  unfolding session_of
  begun_may good is_open =
      subst (λ (p : Play). MayDeliver p.playing.world d.name b.events.items) (sym is.play)
      (subst (MayDeliver begins.world d.name) (sym is.events)
      (may_deliver d begins good.made good.sound good.streamed is_open))

  pub begun_none : b.none ≡ true → pending_in b.play.playing.world d.name ≡ Some 0
  unfolding session_of
  begun_none none =
      subst (λ (p : Play). pending_in p.playing.world d.name ≡ Some 0) (sym is.play) (is.none none)

  -- it was made
  module _ (m : Made) (was : IsDelivered comes_to b.play m) where
    pub follows : Follows (play_of e.journal (with_emptied d.name begins))
        (delivered_by d begins).records m.play
    unfolding session_of
    follows =
        subst (λ (p : Play). Follows p (delivered_by d begins).records m.play) is.play
        (subst (λ (x : Delivered). Follows b.play x.records m.play) same_delivery was.follows)

    pub given_is : m.given ≡ (delivered_by d begins).given
    given_is = was.given ∙ ap (λ (x : Delivered). x.given) same_delivery

    kept_is : m.kept.items ≡ (delivered_by d begins).kept
    kept_is = was.kept ∙ ap (λ (x : Delivered). x.kept) same_delivery

    pub world_then : m.play.playing.world
        ≡ world_after (delivered_by d begins).records begins.world
    world_then =
        ap (λ (x : Session). x.world) follows.session
        ∙ written-world (delivered_by d begins).records (with_emptied d.name begins)

    pub last_is : with_kept d.name m.kept.items m.play.playing ≡ session_delivered d begins
    last_is =
        ap (λ (es : List Event). with_kept d.name es m.play.playing) kept_is
        ∙ ap (with_kept d.name (delivered_by d begins).kept) follows.session

    -- it may end
    pub may_end : HasGoodWorld e b.aside.remembered → IsSome (stream_of d.name begins)
        → (m.none ≡ true → pending_in m.play.playing.world d.name ≡ Some 0)
        → MayEnd d.name m b.aside.remembered
    unfolding session_of asks_in
    may_end good is_open none =
        let next = again d begins good.made good.sound good.streamed is_open in
        record {
          made = subst IsMadeWorld (sym world_then) next.made;
          sound = subst IsSoundWorld (sym world_then) next.sound;
          here = subst (λ (w : World). HasMasterHere w d.name) (sym world_then) next.here;
          none = none;
          good = subst (AllByRecursion (IsGoodFor m.play.playing.world d.name)) (sym kept_is)
              (subst
              (λ (w : World). AllByRecursion (IsGoodFor w d.name) (delivered_by d begins).kept)
              (sym world_then) next.good);
          remembers =
              subst (λ (w : World). AreRemembered w (by_bytes b.aside.remembered.asks.entries))
              (sym world_then)
              (remembered_delivered d begins good.made good.sound good.streamed is_open
              (by_bytes b.aside.remembered.asks.entries)
              (subst (AreRemembered begins.world) (sym good.asks) good.remembers));
          others = subst (λ (w : World). AreMarkedBut d.name w b.aside.remembered.marks)
              (sym world_then)
              (others_delivered d begins good.made good.sound good.streamed is_open
              b.aside.remembered.marks good.marked);
        }
