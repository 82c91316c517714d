-- A turn to a master elsewhere ends by the clock only where no write time is left to its fork.
use Rattle.std.proofs.Common.{◌≡◌, ◌∙◌, ℕ, zero, suc, List, Option, Some, None, Result, Ok, Err, refl, sym, ap, subst, append-nil}
use Rattle.rx_value.proofs.Outcomes.{not_none, some_same}
use Rattle.rx_schema.specs.declared.shape.Shape.{Shape}
use Rattle.rx_collection.specs.Time.{last_lwt}
use Rattle.rx_wire.specs.Spelling.{reply_of}
use Rattle.rx_wire.specs.declared.fault.WireFault.{WireFault}
use Rattle.rx_wire.specs.declared.message.AskKind.{AskKind}
use Rattle.rx_wire.specs.declared.message.Reply.{Reply}
use Rattle.rx_fork.specs.declared.ask.Asked.{Asked}
use Rattle.rx_record.specs.Content.{Content}
use Rattle.rx_reply.specs.declared.turn.Lost.{Lost}
use Rattle.rx_reply.specs.declared.turn.TurnEnd.{TurnEnd}
use Rattle.rx_reply.specs.declared.turn.TurnEnd.TheVariants.{Clock}
use Rattle.rx_world.specs.World.{World}
use Rattle.rx_sync.specs.Asking.{asked_in}
use Rattle.rx_sync.specs.Asks.{Asks, next_number}
use Rattle.rx_sync.specs.Exchange.{Course, Planned, Terms, world_after}
use Rattle.rx_sync.specs.Remote.{Heard, RemoteTurned, no_dial, no_wire, no_line, line, first_heard, heard_course, heard_exchange, heard_later, heard_on, lost_as, lost_or_no_time, once_heard, once_read, once_taken, remote_turn, schema_in}
use Rattle.rx_sync.specs.RemoteLaws.{EveryCall, IsReadyElsewhere, MayCall}
use Rattle.rx_sync.specs.Taking.{taken, taken_by}
use Rattle.rx_sync.specs.Turn.{end_by}
use Rattle.rx_sync.specs.declared.fault.TakeFault.{TakeFault}
use Rattle.rx_sync.proofs.Elsewhere.{CourseIsSound, HasForkThere, fork_there, heard_course_sound}
use Rattle.rx_sync.proofs.Exchanges.{taken_is}
use Rattle.rx_sync.proofs.Messages.{asked_at}
use Rattle.rx_sync.proofs.Worlds.{after-append}
use Rattle.rx_steps.specs.Clock.{CallEndsByClockAlone, HasNoTimeLeft, fork_of}
use Rattle.rx_steps.proofs.Clock.{clock_came, fork_is, is_asked}
use Rattle.rx_steps.proofs.LastTimes.{taken_last}

-- ---- an exchange

module _ (t : Terms) (w : World) (ready : IsReadyElsewhere w t.name t.kinds) (n batch : ℕ)
    (asked : Asked) (is : asked_in w t.name n batch ≡ Some asked) where
  -- what comes to nothing leaves no write time to the fork
  abbrev StopsByClock : Planned → Type 0
  StopsByClock p = p.came ≡ None → HasNoTimeLeft (fork_of (world_after p.records w) t.name)

  abbrev there : HasForkThere w t.name ready.there.replication
  there = fork_there w t.name t.kinds ready

  taken_there : (reply : Reply) → taken w t.kinds t.name asked reply t.now
      ≡ Some (taken_by t.name t.now asked reply ready.there.replication there.fork ready.kind)
  taken_there reply =
      taken_is w t.kinds t.name asked reply t.now ready.there.replication there.fork ready.kind
      ready.there.held there.held ready.handler

  refused_stops : (reply : Reply) (fault : TakeFault)
      → taken w t.kinds t.name asked reply t.now ≡ Some (Err fault) → lost_as fault ≡ None
      → HasNoTimeLeft (fork_of w t.name)
  refused_stops reply fault at kept =
      let unmoved : last_lwt there.fork.documents ≡ asked.lwt =
      ap (λ (a : Asked). a.lwt)
      (asked_at w t.name n batch asked ready.there.replication there.fork ready.there.held
      there.held is) in
      record {
        collection = there.fork;
        held = fork_is w t.name ready.there.replication there.fork ready.there.held there.held;
        last = taken_last t.name t.now asked reply ready.there.replication there.fork ready.kind
            fault unmoved (some_same (sym (taken_there reply) ∙ at)) kept;
      }

  lost_stops : (ask : AskKind) (o : Option Lost) → (o ≡ None → HasNoTimeLeft (fork_of w t.name))
      → StopsByClock (lost_or_no_time ask o)
  lost_stops ask None stops stop = stops refl
  lost_stops ask (Some why) stops stop = not_none (sym stop)

  reply_stops : (reply : Reply) (o : Option (Result (List Content) TakeFault))
      → taken w t.kinds t.name asked reply t.now ≡ o
      → StopsByClock (once_taken asked.request.ask reply.body o)
  reply_stops reply None at stop = not_none (sym at ∙ taken_there reply)
  reply_stops reply (Some (Ok cs)) at stop = not_none (sym stop)
  reply_stops reply (Some (Err fault)) at stop =
      lost_stops asked.request.ask (lost_as fault) (refused_stops reply fault at) stop

  read_stops : (o : Result Reply WireFault) → StopsByClock (once_read t asked w o)
  read_stops (Err fault) stop = not_none (sym stop)
  read_stops (Ok reply) stop =
      reply_stops reply (taken w t.kinds t.name asked reply t.now) refl stop

  heard_by : (bytes : List ℕ) (o : Option Shape) → schema_in w t.name ≡ o
      → StopsByClock (once_heard t asked w bytes o)
  heard_by bytes None at stop = not_none (sym at ∙ there.schema)
  heard_by bytes (Some schema) at stop = read_stops (reply_of schema bytes) stop

  heard_stops : (h : Heard) → StopsByClock (heard_exchange t asked h w)
  heard_stops no_dial stop = not_none (sym stop)
  heard_stops no_wire stop = not_none (sym stop)
  heard_stops no_line stop = not_none (sym stop)
  heard_stops (line bytes) stop = heard_by bytes (schema_in w t.name) refl stop

course_stops : (t : Terms) (batch : ℕ) (h : Heard) (w : World) (a : Asks) → MayCall t w a
    → (o : Option Asked) → asked_in w t.name (next_number a) batch ≡ o
    → (heard_course t h w a o).came ≡ None
    → HasNoTimeLeft (fork_of (world_after (heard_course t h w a o).records w) t.name)
course_stops t batch h w a may None is stop =
    let f = fork_there w t.name t.kinds may.ready in
    not_none (sym is
    ∙ is_asked w t.name may.ready.there.replication f.fork (next_number a) batch
    may.ready.there.held f.held)
course_stops t batch h w a may (Some asked) is stop =
    heard_stops t w may.ready (next_number a) batch asked is h stop

-- ---- a turn

on_stops : (t : Terms) (batch : ℕ) (w : World) (c : Course) (o : Option Asked) (hs : List Heard)
    (rest : RemoteTurned) (end : Option TurnEnd)
    → (c.came ≡ None → HasNoTimeLeft (fork_of (world_after c.records w) t.name))
    → end_by batch c.came ≡ end
    → (rest.turned.ended ≡ Clock
    → HasNoTimeLeft (fork_of (world_after rest.turned.records (world_after c.records w)) t.name))
    → (heard_on c o hs end rest).turned.ended ≡ Clock
    → HasNoTimeLeft (fork_of (world_after (heard_on c o hs end rest).turned.records w) t.name)
on_stops t batch w c o hs rest None stops at more is =
    subst (λ (v : World). HasNoTimeLeft (fork_of v t.name))
    (sym (after-append c.records rest.turned.records w)) (more is)
on_stops t batch w c o hs rest (Some end) stops at more is =
    subst (λ (cs : List Content). HasNoTimeLeft (fork_of (world_after cs w) t.name))
    (sym (append-nil c.records)) (stops (clock_came batch c.came (at ∙ ap Some is)))

pub call_stops : EveryCall CallEndsByClockAlone
call_stops t batch zero hs w a some may is = absurd (cc)
call_stops t batch (suc budget) hs w a some may is =
    let o : Option Asked = asked_in w t.name (next_number a) batch in
    let c : Course = heard_course t (first_heard hs) w a o in
    let sound : CourseIsSound t w c = heard_course_sound t batch some (first_heard hs) w a may in
    on_stops t batch w c o (heard_later hs)
    (remote_turn t batch budget (heard_later hs) (world_after c.records w) c.asks)
    (end_by batch c.came) (course_stops t batch (first_heard hs) w a may o refl) refl
    (call_stops t batch budget (heard_later hs) (world_after c.records w) c.asks some sound.again)
    is
