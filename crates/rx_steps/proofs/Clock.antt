-- A turn ends by the clock only where no write time is left.
use Rattle.std.proofs.Common.{◌≡◌, ◌⊎◌, ◌∙◌, ℕ, zero, suc, ◌≤◌, Bool, true, false, cond, nat_lt, List, length, Option, Some, None, Result, Ok, Err, refl, sym, ap, subst, inl, inr, append-nil}
use Rattle.rx_value.specs.Due.{◌>>=◌}
use Rattle.rx_value.specs.Named.{named}
use Rattle.rx_value.proofs.Outcomes.{none_mapped, not_none, some_same}
use Rattle.rx_collection.specs.Held.{Held}
use Rattle.rx_collection.specs.Time.{last_lwt}
use Rattle.rx_handler.specs.Handlers.{Kinds}
use Rattle.rx_wire.specs.declared.message.Request.{Request}
use Rattle.rx_fork.specs.Asked.{asked_of}
use Rattle.rx_fork.specs.declared.ask.Asked.{Asked}
use Rattle.rx_record.specs.Content.{Content}
use Rattle.rx_record.specs.declared.record.MasterName.{MasterName}
use Rattle.rx_reply.specs.declared.turn.Exchanged.{Exchanged}
use Rattle.rx_reply.specs.declared.turn.Exchanged.TheVariants.{Pushed, Pulled, PushLost, PullLost}
use Rattle.rx_reply.specs.declared.turn.Lost.{Lost}
use Rattle.rx_reply.specs.declared.turn.Lost.TheVariants as lost
use Rattle.rx_reply.specs.declared.turn.TurnEnd.{TurnEnd}
use Rattle.rx_reply.specs.declared.turn.TurnEnd.TheVariants.{Quiet, Clock}
use Rattle.rx_script.specs.declared.happening.Happening.{Happening}
use Rattle.rx_script.specs.declared.happening.Happening.TheVariants as link
use Rattle.rx_world.specs.World.{World}
use Rattle.rx_world.specs.declared.replication.Replication.{Replication}
use Rattle.rx_sync.specs.Asking.{asked_by, asked_in, fork_in}
use Rattle.rx_sync.specs.Asks.{Asks, next_number, with_request}
use Rattle.rx_sync.specs.Exchange.{Course, Planned, Terms, behind, course, course_by, exchange, handled_and_taken, if_taken, late_records, late_request, once_handled, once_late, reply_lost, reply_taken, when_taken, world_after}
use Rattle.rx_sync.specs.Handling.{Handled, handled_for, local_name, master_in}
use Rattle.rx_sync.specs.Laws.{EveryTurn, IsReady, MayTurn, RemembersLawful}
use Rattle.rx_sync.specs.Taking.{taken, taken_by}
use Rattle.rx_sync.specs.Turn.{Turned, end_by, first_of, going_on, rest_of, turn}
use Rattle.rx_sync.specs.declared.fault.TakeFault.{TakeFault}
use Rattle.rx_sync.specs.declared.fault.TakeFault.TheVariants.{ClockEnd}
use Rattle.rx_sync.specs.Remote.{lost_as}
use Rattle.rx_sync.proofs.Ends.{HasEnds, ends_of}
use Rattle.rx_sync.proofs.Exchanges.{HasHandled, handled_is, taken_is}
use Rattle.rx_sync.proofs.Going.{asked_is, due_here, fork_then, handled_well, replication_then}
use Rattle.rx_sync.proofs.Refusals.{by_the_clock_alone}
use Rattle.rx_sync.proofs.Repeats.{twice_is_once}
use Rattle.rx_sync.proofs.Staying.{ready_after}
use Rattle.rx_sync.proofs.Turns.{CourseGoesWell, course_again, course_well, late_asked, late_come, remembers_more}
use Rattle.rx_sync.proofs.Worlds.{after-append}
use Rattle.rx_steps.specs.Clock.{EndsByClockAlone, HasNoTimeLeft, fork_of, master_of}
use Rattle.rx_steps.proofs.LastTimes.{handled_last, taken_last}

-- ---- where no write time is left

-- to the fork or the master of a replication
abbrev IsOutOfTime : World → List ℕ → Type 0
IsOutOfTime w name = HasNoTimeLeft (fork_of w name) ⊎ HasNoTimeLeft (master_of w name)

pub fork_is : (w : World) (name : List ℕ) (r : Replication) (fork : Held)
    → named w.replications name ≡ Some r → named w.collections r.fork ≡ Some fork
    → fork_of w name ≡ Some fork
fork_is w name r fork at held = ap (λ (o : Option Replication). o >>= fork_in w) at ∙ held

master_is : (w : World) (name : List ℕ) (kinds : Kinds) (ready : IsReady w name kinds)
    → master_of w name ≡ Some (ends_of w name kinds ready).master
master_is w name kinds ready =
    ap (λ (o : Option Replication). o >>= λ r. master_in w r.master) ready.here.held
    ∙ ap (λ (m : MasterName). local_name m >>= λ name. named w.collections name)
    ready.here.local
    ∙ (ends_of w name kinds ready).there

-- a request is made of every replication whose fork is there
pub is_asked : (w : World) (name : List ℕ) (r : Replication) (fork : Held) (n batch : ℕ)
    → named w.replications name ≡ Some r → named w.collections r.fork ≡ Some fork
    → asked_in w name n batch ≡ Some (asked_of fork.documents r.side w.epoch n batch)
is_asked w name r fork n batch at held =
    ap (λ (o : Option Replication). o >>= asked_by w n batch) at
    ∙ ap (λ (o : Option Held).
    o >>= λ fork. Some (asked_of fork.documents r.side w.epoch n batch)) held

-- a request that isn't handled found no write time
unhandled : (w : World) (name : List ℕ) (kinds : Kinds) (ready : IsReady w name kinds) (q : Request)
    (now : ℕ) → handled_for w name q now ≡ None → IsOutOfTime w name
unhandled w name kinds ready q now is =
    let e : HasEnds w name ready.here.replication ready.here.master = ends_of w name kinds
    ready in
    inr (record {
      collection = e.master;
      held = master_is w name kinds ready;
      last = handled_last ready.here.master now q e.master
          (sym (handled_is w name q now ready.here.replication ready.here.master e.master
          ready.here.held ready.here.local e.there) ∙ is);
    })

-- ---- an exchange

-- what comes to nothing leaves such a world
abbrev StopsByClock : World → List ℕ → Planned → Type 0
StopsByClock w name p = p.came ≡ None → IsOutOfTime (world_after p.records w) name

stops_behind : (w : World) (name : List ℕ) (cs : List Content) (p : Planned)
    → StopsByClock (world_after cs w) name p → StopsByClock w name (behind cs p)
stops_behind w name cs p stops is =
    subst (λ (v : World). IsOutOfTime v name) (sym (after-append cs p.records w)) (stops is)

module _ (t : Terms) (w : World) (ready : IsReady w t.name t.kinds) (n batch : ℕ) (some : 1 ≤ batch)
    (asked : Asked) (is : asked_in w t.name n batch ≡ Some asked) where
  abbrev ends : HasEnds w t.name ready.here.replication ready.here.master
  ends = ends_of w t.name t.kinds ready

  unmoved : last_lwt ends.fork.documents ≡ asked.lwt
  unmoved =
      ap (λ (a : Asked). a.lwt) (asked_is w t.name t.kinds ready t.now n batch some asked is)

  module _ (h : Handled) (at : handled_for w t.name asked.request t.now ≡ Some h) where
    abbrev then : World
    then = world_after h.records w

    hh : HasHandled w ready.here.master ends.master t.now asked.request h
    hh =
        handled_well w t.name t.kinds ready t.now asked.request h
        (due_here w t.name t.kinds ready t.now n batch some asked is).lawful at

    at_then : named then.replications t.name ≡ Some ready.here.replication
    at_then = replication_then w t.name t.kinds ready t.now n batch some asked is h hh

    held_then : named then.collections ready.here.replication.fork ≡ Some ends.fork
    held_then = fork_then w t.name t.kinds ready t.now n batch some asked is h hh

    there : taken then t.kinds t.name asked h.reply t.now
        ≡ Some (taken_by t.name t.now asked h.reply ready.here.replication ends.fork ready.kind)
    there =
        taken_is then t.kinds t.name asked h.reply t.now ready.here.replication ends.fork
        ready.kind at_then held_then ready.handler

    refused_stops : (fault : TakeFault)
        → taken then t.kinds t.name asked h.reply t.now ≡ Some (Err fault)
        → IsOutOfTime then t.name
    refused_stops fault at' =
        let alone : fault ≡ ClockEnd =
        by_the_clock_alone t w ready asked (n, batch, some, is) h at fault at' in
        inl (record {
          collection = ends.fork;
          held = fork_is then t.name ready.here.replication ends.fork at_then held_then;
          last = taken_last t.name t.now asked h.reply ready.here.replication ends.fork ready.kind
              fault unmoved (some_same (sym there ∙ at')) (ap lost_as alone);
        })

    reply_by : (o : Option (Result (List Content) TakeFault))
        → taken then t.kinds t.name asked h.reply t.now ≡ o
        → StopsByClock then t.name (when_taken asked.request.ask h.reply.body (if_taken o))
    reply_by None at' stop = not_none (sym at' ∙ there)
    reply_by (Some (Ok cs)) at' stop = not_none (sym stop)
    reply_by (Some (Err fault)) at' stop = refused_stops fault at'

    reply_stops : StopsByClock then t.name (reply_taken t asked h then)
    reply_stops = reply_by (taken then t.kinds t.name asked h.reply t.now) refl

  once_stops : (next : Handled → World → Planned) (o : Option Handled)
      → handled_for w t.name asked.request t.now ≡ o
      → ((h : Handled) → handled_for w t.name asked.request t.now ≡ Some h
      → StopsByClock (world_after h.records w) t.name (next h (world_after h.records w)))
      → StopsByClock w t.name (once_handled next w o)
  once_stops next None at stops stop = unhandled w t.name t.kinds ready asked.request t.now at
  once_stops next (Some h) at stops stop =
      stops_behind w t.name h.records (next h (world_after h.records w)) (stops h at) stop

  all_stops : StopsByClock w t.name (handled_and_taken t asked w)
  all_stops =
      once_stops (reply_taken t asked) (handled_for w t.name asked.request t.now) refl reply_stops

  lost_stops : (why : Lost) → StopsByClock w t.name
      (once_handled (reply_lost why asked) w (handled_for w t.name asked.request t.now))
  lost_stops why =
      once_stops (reply_lost why asked) (handled_for w t.name asked.request t.now) refl
      (λ h at stop. not_none (sym stop))

  exchange_stops : (x : Happening) → StopsByClock w t.name (exchange t asked x w)
  exchange_stops link.Ok = all_stops
  exchange_stops (link.Late j) = all_stops
  exchange_stops link.LoseRequest = λ stop. not_none (sym stop)
  exchange_stops link.LoseReply = lost_stops lost.LoseReply
  exchange_stops link.Stale = lost_stops lost.Stale
  exchange_stops link.Twice =
      subst (StopsByClock w t.name) (sym (twice_is_once t w ready asked (n, batch, some, is)))
      all_stops

-- ---- with an earlier request that arrives late

unhandled_late : (w : World) (name : List ℕ) (kinds : Kinds) (ready : IsReady w name kinds)
    (now : ℕ) (o : Option Request) → late_records name now w o ≡ None → IsOutOfTime w name
unhandled_late w name kinds ready now None is = not_none (sym is)
unhandled_late w name kinds ready now (Some q) is =
    unhandled w name kinds ready q now
    (none_mapped (λ (h : Handled). h.records) (handled_for w name q now) is)

module _ (t : Terms) (w : World) (ready : IsReady w t.name t.kinds) (n batch : ℕ) (some : 1 ≤ batch)
    (asked : Asked) (is : asked_in w t.name n batch ≡ Some asked) (x : Happening) (a : Asks)
    (lawful : RemembersLawful w t.name a) where
  abbrev late : Option (List Content)
  late = late_records t.name t.now w (late_request x a)

  late_by : (o : Option (List Content)) → late ≡ o → StopsByClock w t.name (once_late t asked x w o)
  late_by None at stop = unhandled_late w t.name t.kinds ready t.now (late_request x a) at
  late_by (Some cs) at stop =
      stops_behind w t.name cs (exchange t asked x (world_after cs w))
      (exchange_stops t (world_after cs w)
      (ready_after cs w t.name t.kinds ready
      (late_come t w ready n batch some asked is x a lawful cs at)) n batch some asked
      (late_asked t w ready n batch some asked is x a lawful cs at) x) stop

  late_stops : StopsByClock w t.name (once_late t asked x w late)
  late_stops = late_by late refl

course_stops : (t : Terms) (batch : ℕ) → 1 ≤ batch → (x : Happening) (w : World) (a : Asks)
    → MayTurn t w a → (course t batch x w a).came ≡ None
    → IsOutOfTime (world_after (course t batch x w a).records w) t.name
course_stops t batch some x w a may = by (asked_in w t.name (next_number a) batch) refl
  where
    e : HasEnds w t.name may.ready.here.replication may.ready.here.master
    e = ends_of w t.name t.kinds may.ready

    by : (o : Option Asked) → asked_in w t.name (next_number a) batch ≡ o
        → (course_by t x w a o).came ≡ None
        → IsOutOfTime (world_after (course_by t x w a o).records w) t.name
    by None is stop =
        not_none (sym is
        ∙ is_asked w t.name may.ready.here.replication e.fork (next_number a) batch
        may.ready.here.held e.held)
    by (Some asked) is stop =
        let lawful =
        (due_here w t.name t.kinds may.ready t.now (next_number a) batch some asked is).lawful in
        late_stops t w may.ready (next_number a) batch some asked is x
        (with_request asked.request a)
        (remembers_more w t.name may.ready.here.replication e.fork asked.request a
        may.ready.here.held e.held lawful may.asks) stop

-- ---- a turn

quiet_or_on : (b : Bool) → cond b (Some Quiet) None ≡ Some Clock → ⊥
quiet_or_on true is = cc
quiet_or_on false is = not_none is

-- the clock ends it only where an exchange comes to nothing
pub clock_came : (batch : ℕ) (o : Option Exchanged) → end_by batch o ≡ Some Clock → o ≡ None
clock_came batch None is = refl
clock_came batch (Some (Pushed rows conflicts)) is = not_none is
clock_came batch (Some (Pulled rows place)) is =
    absurd (quiet_or_on (nat_lt (length rows) batch) is)
clock_came batch (Some (PushLost rows why)) is = absurd (cc)
clock_came batch (Some (PullLost why)) is = absurd (cc)

on_stops : (t : Terms) (batch : ℕ) (w : World) (c : Course) (rest : Turned) (o : Option TurnEnd)
    → (c.came ≡ None → IsOutOfTime (world_after c.records w) t.name) → end_by batch c.came ≡ o
    → (rest.ended ≡ Clock
    → IsOutOfTime (world_after rest.records (world_after c.records w)) t.name)
    → (going_on c o rest).ended ≡ Clock
    → IsOutOfTime (world_after (going_on c o rest).records w) t.name
on_stops t batch w c rest None stops at more is =
    subst (λ (v : World). IsOutOfTime v t.name) (sym (after-append c.records rest.records w))
    (more is)
on_stops t batch w c rest (Some end) stops at more is =
    subst (λ (cs : List Content). IsOutOfTime (world_after cs w) t.name)
    (sym (append-nil c.records)) (stops (clock_came batch c.came (at ∙ ap Some is)))

pub turn_stops : EveryTurn EndsByClockAlone
turn_stops t batch zero link w a some may is = absurd (cc)
turn_stops t batch (suc budget) link w a some may is =
    let c : Course = course t batch (first_of link) w a in
    let well : CourseGoesWell t batch w c = course_well t batch some (first_of link) w a may in
    on_stops t batch w c (turn t batch budget (rest_of link) (world_after c.records w) c.asks)
    (end_by batch c.came) (course_stops t batch some (first_of link) w a may) refl
    (turn_stops t batch budget (rest_of link) (world_after c.records w) c.asks some
    (course_again t batch w a c may well)) is
