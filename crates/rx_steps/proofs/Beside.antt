-- The records of a turn or a delivery are rows, and exchanges of its own replication.
use Rattle.std.proofs.Common.{◌≡◌, ◌≢◌, ◌∙◌, ℕ, zero, suc, ◌+◌, ◌==◌, length, List, [], ◌∷◌, Option, Some, None, option_map, IfSome, Result, Ok, Err, IfOk, refl, sym}
use Rattle.std.specs.List.{AllByRecursion}
use Rattle.rx_value.specs.Due.{◌>>=◌, ◌>>◌, demand, lifted}
use Rattle.rx_value.specs.Named.{named}
use Rattle.rx_schema.specs.declared.shape.Shape.{Shape}
use Rattle.rx_collection.specs.Held.{Held}
use Rattle.rx_collection.specs.Since.{is_above}
use Rattle.rx_wire.specs.Spelling.{reply_of}
use Rattle.rx_wire.specs.declared.fault.WireFault.{WireFault}
use Rattle.rx_wire.specs.declared.message.AskKind.{AskKind}
use Rattle.rx_wire.specs.declared.message.Body.{Body}
use Rattle.rx_wire.specs.declared.message.Reply.{Reply}
use Rattle.rx_wire.specs.declared.message.Request.{Request}
use Rattle.rx_replication.specs.Known.{pending}
use Rattle.rx_fork.specs.Accept.{page_plan}
use Rattle.rx_fork.specs.declared.ask.Asked.{Asked}
use Rattle.rx_record.specs.Content.{Content, rows, exchange}
use Rattle.rx_reply.specs.declared.turn.Lost.{Lost}
use Rattle.rx_reply.specs.declared.turn.Lost.TheVariants as lost
use Rattle.rx_reply.specs.declared.turn.TurnEnd.{TurnEnd}
use Rattle.rx_script.specs.declared.delivery.Delivery.{Delivery}
use Rattle.rx_script.specs.declared.delivery.Delivery.TheVariants as give
use Rattle.rx_script.specs.declared.happening.Happening.{Happening}
use Rattle.rx_script.specs.declared.happening.Happening.TheVariants as link
use Rattle.rx_stream.specs.declared.event.Event.{Event}
use Rattle.rx_world.specs.Step as next
use Rattle.rx_world.specs.World.{World}
use Rattle.rx_world.specs.declared.replication.Replication.{Replication}
use Rattle.rx_sync.specs.Asking.{asked_in, fork_in}
use Rattle.rx_sync.specs.Asks.{Asks, next_number, with_request}
use Rattle.rx_sync.specs.Delivery.{delivered, given_once, later_deliveries, next_delivery, once_given, one_delivered}
use Rattle.rx_sync.specs.Events.{event_by, event_taken, time_fault}
use Rattle.rx_sync.specs.Exchange.{Course, Terms, course, course_by, exchange as exchange_over, handled_again, handled_and_taken, late_records, late_request, once_handled, once_late, reply_lost, reply_taken, world_after}
use Rattle.rx_sync.specs.Handling.{Handled, handled, handled_by, handled_for, local_name}
use Rattle.rx_sync.specs.Laws.{MayComeInTurn}
use Rattle.rx_sync.specs.Remote.{Heard, RemoteTurned, no_dial, no_wire, no_line, line, first_heard, heard_course, heard_exchange, heard_later, heard_on, lost_as, lost_or_no_time, once_heard, once_read, once_taken, remote_turn, schema_in}
use Rattle.rx_sync.specs.Taking.{changes_nothing, is_same_place, recorded, taken, write_time}
use Rattle.rx_sync.specs.Turn.{end_by, first_of, rest_of, turn}
use Rattle.rx_sync.specs.declared.fault.EventFault.{EventFault}
use Rattle.rx_sync.specs.declared.fault.EventFault.TheVariants.{Old, Pending, Gap}
use Rattle.rx_sync.specs.declared.fault.TakeFault.{TakeFault}
use Rattle.rx_sync.proofs.Apart.{each_both, each_going, each_handled, each_once, each_recorded, each_taken, each_when}
use Rattle.rx_steps.specs.Records.{IsBeside, MayComeBeside}

-- it writes rows or what a fork took
abbrev pub IsOfTurn : Content → Type 0
IsOfTurn (rows name lwt outs) = Unit {0}
IsOfTurn (exchange name lwt outs known up down) = Unit {0}
IsOfTurn other = ⊥

-- such records may come beside the replication of that name, one after another
abbrev pub MayComeInTurnBeside : List ℕ → World → List Content → Type 0
MayComeInTurnBeside name w [] = Unit {0}
MayComeInTurnBeside name w (c ∷ cs) =
    MayComeBeside w name c × IsOfTurn c × MayComeInTurnBeside name (next.step c w) cs

-- it writes rows, or what the fork of that replication took
abbrev pub IsTurnOf : List ℕ → Content → Type 0
IsTurnOf name (rows k lwt outs) = Unit {0}
IsTurnOf name (exchange k lwt outs known up down) = k ≡ name
IsTurnOf name other = ⊥

-- ---- what a master writes

module _ (name : List ℕ) where
  of_held : (m : List ℕ) (now : ℕ) (q : Request) (o : Option Held)
      → IfSome (o >>= handled_by m now q) (λ h. AllByRecursion (IsTurnOf name) h.records)
  of_held m now q None = tt
  of_held m now q (Some c) = each_handled (IsTurnOf name) m (λ lwt outs. tt) now q c

  of_local : (w : World) (q : Request) (now : ℕ) (o : Option (List ℕ))
      → IfSome (o >>= λ master. handled w master q now)
      (λ h. AllByRecursion (IsTurnOf name) h.records)
  of_local w q now None = tt
  of_local w q now (Some m) = of_held m now q (named w.collections m)

  of_master : (w : World) (q : Request) (now : ℕ) (o : Option Replication)
      → IfSome (o >>= λ r. local_name r.master >>= λ master. handled w master q now)
      (λ h. AllByRecursion (IsTurnOf name) h.records)
  of_master w q now None = tt
  of_master w q now (Some r) = of_local w q now (local_name r.master)

  of_handled : (w : World) (k : List ℕ) (q : Request) (now : ℕ)
      → IfSome (handled_for w k q now) (λ h. AllByRecursion (IsTurnOf name) h.records)
  of_handled w k q now = of_master w q now (named w.replications k)

  of_records : (o : Option Handled)
      → IfSome o (λ h. AllByRecursion (IsTurnOf name) h.records)
      → IfSome (option_map (λ (h : Handled). h.records) o) (AllByRecursion (IsTurnOf name))
  of_records None is = tt
  of_records (Some h) is = is

  of_late : (w : World) (k : List ℕ) (now : ℕ) (o : Option Request)
      → IfSome (late_records k now w o) (AllByRecursion (IsTurnOf name))
  of_late w k now None = tt
  of_late w k now (Some q) = of_records (handled_for w k q now) (of_handled w k q now)

-- ---- an exchange

module _ (t : Terms) where
  abbrev P : Content → Type 0
  P = IsTurnOf t.name

  of_taken : (w : World) (asked : Asked) (reply : Reply)
      → IfSome (taken w t.kinds t.name asked reply t.now) (λ x. IfOk x (AllByRecursion P))
  of_taken w asked reply =
      each_taken P t.name (λ lwt outs known up down. refl) w t.kinds asked reply t.now

  of_reply : (asked : Asked) (h : Handled) (w : World)
      → AllByRecursion P (reply_taken t asked h w).records
  of_reply asked h w =
      each_when P asked.request.ask h.reply.body (taken w t.kinds t.name asked h.reply t.now)
      (of_taken w asked h.reply)

  of_all : (asked : Asked) (w : World) → AllByRecursion P (handled_and_taken t asked w).records
  of_all asked w =
      each_once P (reply_taken t asked) w (handled_for w t.name asked.request t.now)
      (of_handled t.name w t.name asked.request t.now) (of_reply asked)

  of_lost : (why : Lost) (asked : Asked) (w : World)
      → AllByRecursion P (once_handled (reply_lost why asked) w
      (handled_for w t.name asked.request t.now)).records
  of_lost why asked w =
      each_once P (reply_lost why asked) w (handled_for w t.name asked.request t.now)
      (of_handled t.name w t.name asked.request t.now) (λ h v. tt)

  of_again : (asked : Asked) (h : Handled) (w : World)
      → AllByRecursion P (handled_again t asked h w).records
  of_again asked h w =
      each_once P (λ again v. reply_taken t asked h v) w
      (handled_for w t.name asked.request t.now)
      (of_handled t.name w t.name asked.request t.now) (λ again v. of_reply asked h v)

  of_exchange : (asked : Asked) (x : Happening) (w : World)
      → AllByRecursion P (exchange_over t asked x w).records
  of_exchange asked link.Ok w = of_all asked w
  of_exchange asked (link.Late j) w = of_all asked w
  of_exchange asked link.LoseRequest w = tt
  of_exchange asked link.LoseReply w = of_lost lost.LoseReply asked w
  of_exchange asked link.Twice w =
      each_once P (handled_again t asked) w (handled_for w t.name asked.request t.now)
      (of_handled t.name w t.name asked.request t.now) (of_again asked)
  of_exchange asked link.Stale w = of_lost lost.Stale asked w

  of_once_late : (asked : Asked) (x : Happening) (w : World) (o : Option (List Content))
      → IfSome o (AllByRecursion P) → AllByRecursion P (once_late t asked x w o).records
  of_once_late asked x w None is = tt
  of_once_late asked x w (Some cs) is =
      each_both P cs (exchange_over t asked x (world_after cs w)).records is
      (of_exchange asked x (world_after cs w))

  of_course : (x : Happening) (w : World) (a : Asks) (o : Option Asked)
      → AllByRecursion P (course_by t x w a o).records
  of_course x w a None = tt
  of_course x w a (Some asked) =
      let q = late_request x (with_request asked.request a) in
      of_once_late asked x w (late_records t.name t.now w q) (of_late t.name w t.name t.now q)

  pub of_turn : (batch budget : ℕ) (over : List Happening) (w : World) (a : Asks)
      → AllByRecursion P (turn t batch budget over w a).records
  of_turn batch zero over w a = tt
  of_turn batch (suc budget) over w a =
      let c : Course = course t batch (first_of over) w a in
      each_going P c (end_by batch c.came)
      (turn t batch budget (rest_of over) (world_after c.records w) c.asks)
      (of_course (first_of over) w a (asked_in w t.name (next_number a) batch))
      (of_turn batch budget (rest_of over) (world_after c.records w) c.asks)

  -- ---- to a master elsewhere

  of_lost_or : (ask : AskKind) (o : Option Lost)
      → AllByRecursion P (lost_or_no_time ask o).records
  of_lost_or ask None = tt
  of_lost_or ask (Some why) = tt

  of_once_taken : (ask : AskKind) (body : Body) (o : Option (Result (List Content) TakeFault))
      → IfSome o (λ x. IfOk x (AllByRecursion P))
      → AllByRecursion P (once_taken ask body o).records
  of_once_taken ask body None is = tt
  of_once_taken ask body (Some (Ok cs)) is = each_both P cs [] is tt
  of_once_taken ask body (Some (Err fault)) is = of_lost_or ask (lost_as fault)

  of_read : (asked : Asked) (w : World) (r : Result Reply WireFault)
      → AllByRecursion P (once_read t asked w r).records
  of_read asked w (Err fault) = tt
  of_read asked w (Ok reply) =
      of_once_taken asked.request.ask reply.body (taken w t.kinds t.name asked reply t.now)
      (of_taken w asked reply)

  of_schema_read : (asked : Asked) (w : World) (bytes : List ℕ) (o : Option Shape)
      → AllByRecursion P (once_heard t asked w bytes o).records
  of_schema_read asked w bytes None = tt
  of_schema_read asked w bytes (Some schema) = of_read asked w (reply_of schema bytes)

  of_heard : (asked : Asked) (h : Heard) (w : World)
      → AllByRecursion P (heard_exchange t asked h w).records
  of_heard asked no_dial w = tt
  of_heard asked no_wire w = tt
  of_heard asked no_line w = tt
  of_heard asked (line bytes) w = of_schema_read asked w bytes (schema_in w t.name)

  of_heard_course : (h : Heard) (w : World) (a : Asks) (o : Option Asked)
      → AllByRecursion P (heard_course t h w a o).records
  of_heard_course h w a None = tt
  of_heard_course h w a (Some asked) = of_heard asked h w

  of_heard_on : (c : Course) (o : Option Asked) (hs : List Heard) (end : Option TurnEnd)
      (rest : RemoteTurned) → AllByRecursion P c.records
      → AllByRecursion P rest.turned.records
      → AllByRecursion P (heard_on c o hs end rest).turned.records
  of_heard_on c o hs None rest first later = each_both P c.records rest.turned.records first later
  of_heard_on c o hs (Some end) rest first later = each_both P c.records [] first tt

  pub of_call : (batch budget : ℕ) (hs : List Heard) (w : World) (a : Asks)
      → AllByRecursion P (remote_turn t batch budget hs w a).turned.records
  of_call batch zero hs w a = tt
  of_call batch (suc budget) hs w a =
      let o = asked_in w t.name (next_number a) batch in
      let c : Course = heard_course t (first_heard hs) w a o in
      of_heard_on c o (heard_later hs) (end_by batch c.came)
      (remote_turn t batch budget (heard_later hs) (world_after c.records w) c.asks)
      (of_heard_course (first_heard hs) w a o)
      (of_call batch budget (heard_later hs) (world_after c.records w) c.asks)

-- ---- a delivery

of_each : {A E : Type 0} (P : Content → Type 0) (r : Result A E) (f : A → Result (List Content) E)
    → ((a : A) → IfOk (f a) (AllByRecursion P)) → IfOk (r >> f) (AllByRecursion P)
of_each P (Ok a) f each = each a
of_each P (Err e) f each = tt

of_lifted : (P : Content → Type 0) (r : Result (List Content) TakeFault)
    → IfOk r (AllByRecursion P) → IfOk (lifted time_fault r) (AllByRecursion P)
of_lifted P (Ok cs) so = so
of_lifted P (Err fault) so = tt

module _ (name : List ℕ) (now : ℕ) where
  abbrev Q : Content → Type 0
  Q = IsTurnOf name

  of_event_by : (e : Event) (r : Replication) (fork : Held)
      → IfOk (event_by name now e r fork) (AllByRecursion Q)
  of_event_by e r fork =
      let due = length (pending fork.documents r.side.known) in
      let plan = page_plan fork.documents r.side e.states (Some e.place) in
      of_each Q (demand (is_above r.side.down e.place) Old) _ (λ u.
      of_each Q (demand (due == 0) (Pending due)) _ (λ v.
      of_each Q (demand (is_same_place e.from r.side.down) Gap) _ (λ x.
      of_lifted Q (recorded name now fork r.side plan)
      (each_recorded Q name (λ lwt outs known up down. refl) fork plan
      (changes_nothing r.side plan) (write_time now fork plan.rows)))))

  of_event_fork : (e : Event) (r : Replication) (o : Option Held)
      → IfSome (o >>= λ fork. Some (event_by name now e r fork))
      (λ x. IfOk x (AllByRecursion Q))
  of_event_fork e r None = tt
  of_event_fork e r (Some fork) = of_event_by e r fork

  of_event : (w : World) (e : Event) (o : Option Replication)
      → IfSome (o >>= λ r. fork_in w r >>= λ fork. Some (event_by name now e r fork))
      (λ x. IfOk x (AllByRecursion Q))
  of_event w e None = tt
  of_event w e (Some r) = of_event_fork e r (fork_in w r)

  of_once_given : (i : ℕ) (e : Event) (o : Option (Result (List Content) EventFault))
      → IfSome o (λ x. IfOk x (AllByRecursion Q)) → AllByRecursion Q (once_given i e o).records
  of_once_given i e None so = tt
  of_once_given i e (Some (Ok cs)) so = so
  of_once_given i e (Some (Err fault)) so = tt

  of_given : (i : ℕ) (e : Event) (w : World)
      → AllByRecursion Q (given_once name now i e w).records
  of_given i e w =
      of_once_given i e (event_taken w name e now) (of_event w e (named w.replications name))

  of_one : (i : ℕ) (x : Delivery) (e : Event) (w : World)
      → AllByRecursion Q (one_delivered name now i x e w).records
  of_one i give.Ok e w = of_given i e w
  of_one i give.Lose e w = tt
  of_one i give.Twice e w =
      let first = given_once name now i e w in
      let then = world_after first.records w in
      each_both Q first.records (given_once name now i e then).records (of_given i e w)
      (of_given i e then)
  of_one i give.Later e w = tt

  pub of_delivery : (i : ℕ) (ls : List Delivery) (es : List Event) (w : World)
      → AllByRecursion Q (delivered name now i ls es w).records
  of_delivery i ls [] w = tt
  of_delivery i ls (e ∷ es) w =
      let d = one_delivered name now i (next_delivery ls) e w in
      let then = world_after d.records w in
      each_both Q d.records
      (delivered name now (i + 1) (later_deliveries ls) es then).records
      (of_one i (next_delivery ls) e w)
      (of_delivery (i + 1) (later_deliveries ls) es then)

-- ---- beside another replication

module _ (k name : List ℕ) (other : k ≢ name) where
  is_of_turn : (c : Content) → IsTurnOf k c → IsOfTurn c
  is_of_turn (rows n lwt outs) is = tt
  is_of_turn (exchange n lwt outs known up down) is = tt
  is_of_turn c is = absurd is

  is_beside : (c : Content) → IsTurnOf k c → IsBeside name c
  is_beside (rows n lwt outs) is = tt
  is_beside (exchange n lwt outs known up down) is = λ e. other (sym is ∙ e)
  is_beside c is = absurd is

  pub come_beside : (cs : List Content) (w : World) → AllByRecursion (IsTurnOf k) cs
      → MayComeInTurn w cs → MayComeInTurnBeside name w cs
  come_beside [] w all come = tt
  come_beside (c ∷ cs) w all come = (
    record {
      lawful = come.0.lawful;
      ordered = come.0.ordered;
      beside = is_beside c all.0;
    },
    is_of_turn c all.0,
    come_beside cs (next.step c w) all.1 come.1,
  )
