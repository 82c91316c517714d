-- A delivery in play.
use Rattle.std.specs.Prelude.{◌≡◌, ℕ, List, [], ◌∷◌, ◌++◌, true, Some, slice_index_or}
use Rattle.std.specs.List.{AllByRecursion}
use Rattle.rx_value.specs.Named.{by_bytes}
use Rattle.rx_reply.specs.declared.given.Took.{Took}
use Rattle.rx_script.specs.declared.delivery.Delivery.{Delivery}
use Rattle.rx_script.specs.declared.delivery.Delivery.TheVariants as link
use Rattle.rx_session.specs.Doing.{with_emptied, with_kept}
use Rattle.rx_session.specs.Emissions.{emissions, settled_session}
use Rattle.rx_session.specs.Session.{has_lost, queued_in}
use Rattle.rx_session.specs.Streams.{AreStreamed, IsGoodFor}
use Rattle.rx_stream.specs.declared.event.Event.{Event}
use Rattle.rx_sync.specs.Asking.{pending_in}
use Rattle.rx_sync.specs.Delivery.{Delivered, MayDeliver, given_as, is_level, is_resync}
use Rattle.rx_sync.specs.Laws.{HasMasterHere}
use Rattle.rx_world.specs.Made.{IsMadeWorld}
use Rattle.rx_world.specs.Sound.{IsSoundWorld}
use Rattle.rx_world.specs.World.{World}
use Rattle.rx_engine.specs.Engine.{asks_in, session_of}
use Rattle.rx_engine.specs.Marks.{AreMarked, AreMarkedBut}
use Rattle.rx_engine.specs.Play.{Follows, play_of}
use Rattle.rx_engine.specs.Remembered.{AreRemembered}
use Rattle.rx_engine.specs.Streams.{WantedDelivery}
use Rattle.rx_engine.specs.declared.deliveries.AfterDelivery.{AfterDelivery}
use Rattle.rx_engine.specs.declared.deliveries.Aside.{Aside}
use Rattle.rx_engine.specs.declared.deliveries.Begun.{Begun}
use Rattle.rx_engine.specs.declared.delivering.Delivered.{Delivered as Made}
use Rattle.rx_engine.specs.declared.engine.Engine.{Engine}
use Rattle.rx_engine.specs.declared.play.Play.{Play}
use Rattle.rx_engine.specs.declared.remembered.Remembered.{Remembered}

-- what the link does to an event, which is given where nothing is said
abbrev pub delivery_at : ℕ → List Delivery → Delivery
delivery_at i over = slice_index_or over i link.Ok

-- one event may be given
abbrev pub MayGive : World → List ℕ → Event → Type 0
MayGive w name e = MayDeliver w name (e ∷ [])

-- a line of an event that wasn't given
abbrev pub noted_as : ℕ → Event → Took → Delivered
noted_as i e why = record { records = []; given = given_as i e why ∷ []; kept = [] }

-- an event is kept for the next line
abbrev pub kept_as : Event → Delivered
kept_as e = record { records = []; given = []; kept = e ∷ [] }

-- a delivery was made from a line in play on
pub record IsDelivered (d : Delivered) (first : Play) (made : Made) : Type 0 where
  pub follows : Follows first d.records made.play
  pub given : made.given ≡ d.given
  pub kept : made.kept.items ≡ d.kept

-- one that was made has come on by another
pub record IsDeliveredOn (d : Delivered) (p q : Made) : Type 0 where
  pub follows : Follows p.play d.records q.play
  pub given : q.given ≡ p.given ++ d.given
  pub kept : q.kept.items ≡ p.kept.items ++ d.kept

-- ---- its beginning and its end

-- an engine gave what the stream had queued, for a delivery
pub record IsBegun (d : WantedDelivery) (e : Engine) (b : Begun) : Type 0 where
  pub play : b.play ≡ play_of e.journal (with_emptied d.name (session_of e))
  pub events : b.events.items ≡ queued_in d.name (session_of e)
  pub now : b.now ≡ (session_of e).moment
  pub none : b.none ≡ true → pending_in (session_of e).world d.name ≡ Some 0
  pub lost : b.aside.lost ≡ has_lost d.name (session_of e)

-- its world is sound, its streams are good, and what it remembers is of that world
pub record HasGoodWorld (e : Engine) (r : Remembered) : Type 0 where
  pub made : IsMadeWorld (session_of e).world
  pub sound : IsSoundWorld (session_of e).world
  pub streamed : AreStreamed (session_of e).world (session_of e).streams
  pub asks : by_bytes r.asks.entries ≡ asks_in e
  pub remembers : AreRemembered (session_of e).world (asks_in e)
  pub marked : AreMarked (session_of e).world r.marks

-- a delivery that was made may end: the world is sound, what is kept is good, and what is
-- remembered is of that world, but for the delivery's own mark
pub record MayEnd (name : List ℕ) (m : Made) (r : Remembered) : Type 0 where
  pub made : IsMadeWorld m.play.playing.world
  pub sound : IsSoundWorld m.play.playing.world
  pub here : HasMasterHere m.play.playing.world name
  pub none : m.none ≡ true → pending_in m.play.playing.world name ≡ Some 0
  pub good : AllByRecursion (IsGoodFor m.play.playing.world name) m.kept.items
  pub remembers : AreRemembered m.play.playing.world (by_bytes r.asks.entries)
  pub others : AreMarkedBut name m.play.playing.world r.marks

-- it has ended: what is kept was put back, and all was emitted
pub record IsEnded (name : List ℕ) (m : Made) (a : Aside) (after : AfterDelivery) : Type 0 where
  pub session : session_of after.engine
      ≡ settled_session (with_kept name m.kept.items m.play.playing)
  pub asks : asks_in after.engine ≡ by_bytes a.remembered.asks.entries
  pub due : after.emissions.items ≡ emissions (with_kept name m.kept.items m.play.playing)
  pub given : after.given ≡ m.given
  pub level : after.level ≡ is_level m.play.playing.world name
  pub resync : after.resync ≡ is_resync a.lost m.given
