-- A turn over a wire, to a master that is elsewhere: exchanges one after another, by what was heard
-- of the master in each.
use Rattle.std.specs.Prelude.{ℕ, List, Option, Some, None, Result, Ok, Err}
use Rattle.rx_value.specs.Due.{◌>>=◌}
use Rattle.rx_value.specs.Named.{named}
use Rattle.rx_schema.specs.declared.shape.Shape.{Shape}
use Rattle.rx_wire.specs.Spelling.{reply_of}
use Rattle.rx_wire.specs.declared.fault.WireFault.{WireFault}
use Rattle.rx_wire.specs.declared.message.AskKind.{AskKind}
use Rattle.rx_wire.specs.declared.message.Body.{Body}
use Rattle.rx_wire.specs.declared.message.Reply.{Reply}
use Rattle.rx_fork.specs.declared.ask.Asked.{Asked}
use Rattle.rx_record.specs.Content.{Content}
use Rattle.rx_reply.specs.declared.turn.Lost.{Lost}
use Rattle.rx_reply.specs.declared.turn.Lost.TheVariants as lost
use Rattle.rx_reply.specs.declared.turn.TurnEnd.{TurnEnd}
use Rattle.rx_world.specs.World.{World}
use Rattle.rx_sync.specs.Asking.{fork_in}
use Rattle.rx_sync.specs.Asks.{Asks, with_request}
use Rattle.rx_sync.specs.Exchange.{Course, Planned, Terms, behind, comes_to, course_with, lost_by, no_time, taken_as}
use Rattle.rx_sync.specs.Taking.{taken}
use Rattle.rx_sync.specs.Turn.{Answerer, TurnedBy, first_said, said_later, said_on, turn_by}
use Rattle.rx_sync.specs.declared.fault.TakeFault.{TakeFault}
use Rattle.rx_sync.specs.declared.fault.TakeFault.TheVariants as refused

-- ---- what is heard

-- what was heard of a master that was asked: no wire was got; the wire failed; the master ended, or
-- sent too much, before a line did; or a line, without its end
pub data Heard : Type 0 where
  no_dial : Heard
  no_wire : Heard
  no_line : Heard
  line : List ℕ → Heard

-- what is heard first; where nothing is to come any more, the wire failed
abbrev pub first_heard : List Heard → Heard
first_heard hs = first_said no_wire hs

-- and what is heard after it
abbrev pub heard_later : List Heard → List Heard
heard_later hs = said_later hs

-- ---- an exchange

-- Why an exchange is lost whose reply isn't taken. It isn't lost where no write time is left. No
-- reply comes to a fork that was written since: a turn writes nothing to it in between.
abbrev pub lost_as : TakeFault → Option Lost
lost_as (refused.Foreign epoch n) = Some lost.Foreign
lost_as (refused.BadReply place) = Some lost.BadReply
lost_as (refused.Moved then_lwt now_lwt) = None
lost_as refused.ClockEnd = None
lost_as refused.Memory = None

abbrev pub lost_or_no_time : AskKind → Option Lost → Planned
lost_or_no_time ask None = no_time
lost_or_no_time ask (Some why) = comes_to (lost_by why ask)

-- the fork takes the reply, or the exchange is lost
abbrev pub once_taken : AskKind → Body → Option (Result (List Content) TakeFault) → Planned
once_taken ask body None = no_time
once_taken ask body (Some (Ok cs)) = behind cs (comes_to (taken_as ask body))
once_taken ask body (Some (Err fault)) = lost_or_no_time ask (lost_as fault)

-- what was read is a reply, or isn't
abbrev pub once_read : Terms → Asked → World → Result Reply WireFault → Planned
once_read t asked w (Err fault) = comes_to (lost_by lost.Reply asked.request.ask)
once_read t asked w (Ok reply) =
    once_taken asked.request.ask reply.body (taken w t.kinds t.name asked reply t.now)

-- the schema of a fork, by which the reply is read
abbrev pub schema_in : World → List ℕ → Option Shape
schema_in w name =
    named w.replications name >>= λ r. fork_in w r >>= λ fork. Some fork.schema

abbrev pub once_heard : Terms → Asked → World → List ℕ → Option Shape → Planned
once_heard t asked w bytes None = no_time
once_heard t asked w bytes (Some schema) = once_read t asked w (reply_of schema bytes)

-- what is made of what was heard after a request
abbrev pub heard_exchange : Terms → Asked → Heard → World → Planned
heard_exchange t asked no_dial w = comes_to (lost_by lost.Dial asked.request.ask)
heard_exchange t asked no_wire w = comes_to (lost_by lost.Wire asked.request.ask)
heard_exchange t asked no_line w = comes_to (lost_by lost.Reply asked.request.ask)
heard_exchange t asked (line bytes) w = once_heard t asked w bytes (schema_in w t.name)

-- the request is made, and that is heard then; none is made where the replication isn't held
abbrev pub heard_course : Terms → Heard → World → Asks → Option Asked → Course
heard_course t h w a None = course_with a no_time
heard_course t h w a (Some asked) =
    course_with (with_request asked.request a) (heard_exchange t asked h w)

-- ---- a turn

-- what was heard says how an exchange goes
abbrev pub over_wire : Terms → Answerer Heard
over_wire t = record { name = t.name; unsaid = no_wire; goes = heard_course t }

abbrev pub RemoteTurned : Type 0
RemoteTurned = TurnedBy Heard

-- an exchange and what was heard after it, and the rest of the turn, where it goes on
abbrev pub heard_on : Course → Option Asked → List Heard → Option TurnEnd → RemoteTurned
    → RemoteTurned
heard_on c o hs end rest = said_on c o hs end rest

-- of such a batch, so many exchanges at most, where that is to be heard
abbrev pub remote_turn : Terms → ℕ → ℕ → List Heard → World → Asks → RemoteTurned
remote_turn t batch budget hs w a = turn_by (over_wire t) batch budget hs w a
