-- When an event, and a queue of them, is good.
use Rattle.std.specs.Prelude.{◌≡◌, Bool, true, ◌&&◌, nat_lt, nat_le, map, Some, IfSome}
use Rattle.std.specs.List.{AllByRecursion, IsDistinct}
use Rattle.std.specs.Str.{bytes_eq}
use Rattle.rx_value.specs.Value.{largest}
use Rattle.rx_value.specs.declared.state.State.{State}
use Rattle.rx_document.specs.Documents.{Documents}
use Rattle.rx_document.specs.declared.place.Place.{Place}
use Rattle.rx_wire.specs.declared.message.AskKind.TheVariants.{Pull}
use Rattle.rx_wire.specs.declared.message.Body.TheVariants.{Docs}
use Rattle.rx_replication.specs.Answered.{IsPullAnswered}
use Rattle.rx_replication.specs.Fitting.{IsFitting}
use Rattle.rx_replication.specs.Sound.{Reach}
use Rattle.rx_replication.specs.Throughout.{AllPass}
use Rattle.rx_stream.specs.Events.{Queue, max_states}
use Rattle.rx_stream.specs.declared.event.Event.{Event}

-- the write time of the place is one of a document: from 1 to 2^53 - 1
abbrev pub IsTimed : Place → Type 0
IsTimed p = nat_lt 0 p.lwt && nat_le p.lwt largest ≡ true

-- The event answers a pull from its place on: each of its keys is held by the master at a place
-- above from, each document above from and at or below its place is among its states, and its place
-- isn't above the master's last one. No fork refuses it as an answer, its keys are distinct, its
-- states pass the test, such as validity, and its place has a write time.
pub record IsGoodEvent (test : State → Bool) (master : Documents) (e : Event) : Type 0 where
  pub answered : IsPullAnswered master e.from e.states (Some e.place)
  pub fitting : IsFitting (Pull e.from max_states) (Docs e.states (Some e.place))
  pub apart : IsDistinct bytes_eq (map (λ s. s.key) e.states)
  pub pass : AllPass test e.states
  pub timed : IsTimed e.place

-- each event is good, and the end isn't above the master's last place and has a write time
pub record IsGoodQueue (test : State → Bool) (master : Documents) (q : Queue) : Type 0 where
  pub events : AllByRecursion (IsGoodEvent test master) q.events
  pub reached : Reach master q.end
  pub timed : IfSome q.end IsTimed
