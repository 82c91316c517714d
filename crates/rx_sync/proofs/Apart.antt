-- The records of a turn name no replication but its own.
use Rattle.std.proofs.Common.{◌≢◌, ℕ, zero, suc, Bool, true, false, cond, List, [], ◌∷◌, ◌++◌, map, Option, Some, None, option_map, IfSome, Result, Ok, Err, IfOk}
use Rattle.std.specs.List.{AllByRecursion}
use Rattle.rx_value.specs.Due.{◌>>=◌, ◌>>◌, lifted, or_fault}
use Rattle.rx_value.specs.Named.{named}
use Rattle.rx_value.specs.declared.state.State.{State}
use Rattle.rx_schema.specs.declared.shape.Shape.{Shape}
use Rattle.rx_document.specs.declared.place.Place.{Place}
use Rattle.rx_collection.specs.Commit.{rows_of}
use Rattle.rx_collection.specs.Held.{Held}
use Rattle.rx_collection.specs.Time.{stamp}
use Rattle.rx_wire.specs.Spelling.{reply_of}
use Rattle.rx_wire.specs.declared.fault.WireFault.{WireFault}
use Rattle.rx_wire.specs.declared.message.AskKind.{AskKind}
use Rattle.rx_wire.specs.declared.message.AskKind.TheVariants.{Push, Pull}
use Rattle.rx_wire.specs.declared.message.Body.{Body}
use Rattle.rx_wire.specs.declared.message.Reply.{Reply}
use Rattle.rx_wire.specs.declared.message.Request.{Request}
use Rattle.rx_replication.specs.Master.{body_of, reply_with, writes}
use Rattle.rx_handler.specs.Handlers.{Kinds}
use Rattle.rx_handler.specs.declared.kind.HandlerKind.{HandlerKind}
use Rattle.rx_meta.specs.Side.{Side}
use Rattle.rx_fork.specs.Accept.{accepted}
use Rattle.rx_fork.specs.declared.accept.ExchangePlan.{ExchangePlan}
use Rattle.rx_fork.specs.declared.ask.Asked.{Asked}
use Rattle.rx_fork.specs.declared.fault.AcceptFault.{AcceptFault}
use Rattle.rx_record.specs.Content.{Content, collection, rows, replication, exchange}
use Rattle.rx_record.specs.declared.record.RowOut.{RowOut}
use Rattle.rx_reply.specs.declared.turn.Lost.{Lost}
use Rattle.rx_reply.specs.declared.turn.Lost.TheVariants as lost
use Rattle.rx_reply.specs.declared.turn.TurnEnd.{TurnEnd}
use Rattle.rx_script.specs.declared.happening.Happening.{Happening}
use Rattle.rx_script.specs.declared.happening.Happening.TheVariants as link
use Rattle.rx_world.specs.Commit.{out_of}
use Rattle.rx_world.specs.Touch.{IsNoExchange}
use Rattle.rx_world.specs.World.{World}
use Rattle.rx_world.specs.declared.replication.Replication.{Replication}
use Rattle.rx_sync.specs.Asking.{asked_in, fork_in}
use Rattle.rx_sync.specs.Asks.{Asks, next_number, with_request}
use Rattle.rx_sync.specs.Exchange as step
use Rattle.rx_sync.specs.Exchange.{Course, Planned, Terms, world_after, course_by, handled_again, handled_and_taken, if_taken, late_records, late_request, once_handled, once_late, reply_lost, reply_taken, when_taken}
use Rattle.rx_sync.specs.Handling.{Handled, commits_of, handled, handled_by, handled_for, local_name, written_by}
use Rattle.rx_sync.specs.Remote.{Heard, no_dial, no_wire, no_line, line, heard_course, heard_exchange, lost_as, lost_or_no_time, once_heard, once_read, once_taken, over_wire, remote_turn, schema_in}
use Rattle.rx_sync.specs.Taking.{changes_nothing, exchange_at, recorded, resolve_for, take_fault, taken, taken_by, write_time}
use Rattle.rx_sync.specs.Turn.{Answerer, Turned, course_in, end_by, first_said, going_on, over_link, said_later, turn, turn_by}
use Rattle.rx_sync.specs.declared.fault.TakeFault.{TakeFault}
use Rattle.rx_sync.specs.declared.fault.TakeFault.TheVariants.{ClockEnd}

-- it is no exchange of that replication
abbrev pub IsApart : List ℕ → Content → Type 0
IsApart name (collection k schema) = Unit {0}
IsApart name (rows k lwt written) = Unit {0}
IsApart name (replication k fork master handler field) = Unit {0}
IsApart name (exchange k lwt written known up down) = k ≢ name
IsApart name other = Unit {0}

-- none of them is
abbrev pub AreApart : List ℕ → List Content → Type 0
AreApart name cs = AllByRecursion (IsApart name) cs

-- nor is a record that is no exchange at all
pub plain_apart : (name : List ℕ) (c : Content) → IsNoExchange c → IsApart name c
plain_apart name (collection k schema) plain = tt
plain_apart name (rows k lwt written) plain = tt
plain_apart name (replication k fork master handler field) plain = tt
plain_apart name (exchange k lwt written known up down) plain = absurd plain
plain_apart name other plain = tt

-- ---- what holds of each record

pub each_both : (P : Content → Type 0) (cs ds : List Content) → AllByRecursion P cs
    → AllByRecursion P ds → AllByRecursion P (cs ++ ds)
each_both P [] ds first rest = rest
each_both P (c ∷ cs) ds first rest = (first.0, each_both P cs ds first.1 rest)

each_answered : (P : Content → Type 0) (reply : Reply) (o : Option (List Content))
    → IfSome o (AllByRecursion P)
    → IfSome (option_map (λ (cs : List Content). record { records = cs; reply = reply }) o)
    (λ (h : Handled). AllByRecursion P h.records)
each_answered P reply None is = tt
each_answered P reply (Some cs) is = is

-- of what a master writes, where it holds of its rows
module _ (P : Content → Type 0) (k : List ℕ)
    (of_rows : (lwt : ℕ) (written : List RowOut) → P (rows k lwt written)) where
  each_written : (now : ℕ) (c : Held) (ss : List State)
      → IfSome (written_by k now c ss) (AllByRecursion P)
  each_written now c [] = tt
  each_written now c (s ∷ ss) =
      elim (stamp c.documents now)
      as (λ o. IfSome (option_map (λ (r : Content). r ∷ []) (option_map
      (λ lwt. rows k lwt (map out_of (rows_of c (s ∷ ss) lwt))) o)) (AllByRecursion P)) [
        | None ↦ tt
        | Some lwt ↦ (of_rows lwt (map out_of (rows_of c (s ∷ ss) lwt)), tt)
      ]

  each_commits : (now : ℕ) (ask : AskKind) (c : Held)
      → IfSome (commits_of k now ask c) (AllByRecursion P)
  each_commits now (Push rs) c = each_written now c (writes c.documents rs)
  each_commits now (Pull place batch) c = tt

  pub each_handled : (now : ℕ) (q : Request) (c : Held)
      → IfSome (handled_by k now q c) (λ h. AllByRecursion P h.records)
  each_handled now q c =
      each_answered P (reply_with q (body_of c.documents q.ask)) (commits_of k now q.ask c)
      (each_commits now q.ask c)

-- of what a fork writes, where it holds of the exchanges of its replication
module _ (P : Content → Type 0) (k : List ℕ)
    (of_exchange : (lwt : ℕ) (written : List RowOut) (known : List State) (up down : Option Place)
    → P (exchange k lwt written known up down)) where
  pub each_recorded : (fork : Held) (plan : ExchangePlan) (b : Bool) (o : Option ℕ)
      → IfOk (cond b (Ok []) (or_fault ClockEnd
      (option_map (λ lwt. exchange_at k fork plan lwt ∷ []) o))) (AllByRecursion P)
  each_recorded fork plan true o = tt
  each_recorded fork plan false None = tt
  each_recorded fork plan false (Some lwt) = (
    of_exchange lwt (map out_of (rows_of fork plan.rows lwt)) plan.known plan.up plan.down,
    tt,
  )

  each_accepted : (now : ℕ) (fork : Held) (side : Side) (r : Result ExchangePlan AcceptFault)
      → IfOk (lifted take_fault r >> recorded k now fork side) (AllByRecursion P)
  each_accepted now fork side (Ok plan) =
      each_recorded fork plan (changes_nothing side plan) (write_time now fork plan.rows)
  each_accepted now fork side (Err e) = tt

  each_kind : (now : ℕ) (asked : Asked) (reply : Reply) (r : Replication) (fork : Held)
      (o : Option HandlerKind)
      → IfSome (o >>= λ kind. Some (taken_by k now asked reply r fork kind))
      (λ x. IfOk x (AllByRecursion P))
  each_kind now asked reply r fork None = tt
  each_kind now asked reply r fork (Some kind) =
      each_accepted now fork r.side
      (accepted (resolve_for kind r) fork.documents r.side asked reply)

  each_fork : (kinds : Kinds) (now : ℕ) (asked : Asked) (reply : Reply) (r : Replication)
      (o : Option Held)
      → IfSome (o >>= λ fork. named kinds r.handler >>= λ kind.
      Some (taken_by k now asked reply r fork kind)) (λ x. IfOk x (AllByRecursion P))
  each_fork kinds now asked reply r None = tt
  each_fork kinds now asked reply r (Some fork) =
      each_kind now asked reply r fork (named kinds r.handler)

  each_replication : (w : World) (kinds : Kinds) (now : ℕ) (asked : Asked) (reply : Reply)
      (o : Option Replication)
      → IfSome (o >>= λ r. fork_in w r >>= λ fork. named kinds r.handler >>= λ kind.
      Some (taken_by k now asked reply r fork kind)) (λ x. IfOk x (AllByRecursion P))
  each_replication w kinds now asked reply None = tt
  each_replication w kinds now asked reply (Some r) =
      each_fork kinds now asked reply r (fork_in w r)

  pub each_taken : (w : World) (kinds : Kinds) (asked : Asked) (reply : Reply) (now : ℕ)
      → IfSome (taken w kinds k asked reply now) (λ x. IfOk x (AllByRecursion P))
  each_taken w kinds asked reply now =
      each_replication w kinds now asked reply (named w.replications k)

-- of an exchange
pub each_when : (P : Content → Type 0) (ask : AskKind) (body : Body)
    (o : Option (Result (List Content) TakeFault)) → IfSome o (λ x. IfOk x (AllByRecursion P))
    → AllByRecursion P (when_taken ask body (if_taken o)).records
each_when P ask body None is = tt
each_when P ask body (Some (Ok cs)) is = each_both P cs [] is tt
each_when P ask body (Some (Err fault)) is = tt

pub each_once : (P : Content → Type 0) (next : Handled → World → Planned) (w : World)
    (o : Option Handled) → IfSome o (λ h. AllByRecursion P h.records)
    → ((h : Handled) (v : World) → AllByRecursion P (next h v).records)
    → AllByRecursion P (once_handled next w o).records
each_once P next w None is then = tt
each_once P next w (Some h) is then =
    each_both P h.records (next h (world_after h.records w)).records is
    (then h (world_after h.records w))

pub each_going : (P : Content → Type 0) (c : Course) (o : Option TurnEnd) (rest : Turned)
    → AllByRecursion P c.records → AllByRecursion P rest.records
    → AllByRecursion P (going_on c o rest).records
each_going P c None rest first later = each_both P c.records rest.records first later
each_going P c (Some end) rest first later = each_both P c.records [] first tt

-- of a turn, whoever answers
pub each_turned : {X : Type 0} (P : Content → Type 0) (y : Answerer X) (batch : ℕ)
    → ((x : X) (w : World) (a : Asks) (o : Option Asked)
    → AllByRecursion P (y.goes x w a o).records)
    → (budget : ℕ) (xs : List X) (w : World) (a : Asks)
    → AllByRecursion P (turn_by y batch budget xs w a).turned.records
each_turned P y batch every zero xs w a = tt
each_turned P y batch every (suc budget) xs w a =
    let c : Course = course_in y batch (first_said y.unsaid xs) w a in
    each_going P c (end_by batch c.came)
    (turn_by y batch budget (said_later xs) (world_after c.records w) c.asks).turned
    (every (first_said y.unsaid xs) w a (asked_in w y.name (next_number a) batch))
    (each_turned P y batch every budget (said_later xs) (world_after c.records w) c.asks)

-- ---- what a master writes

apart_held : (name k : List ℕ) (now : ℕ) (q : Request) (o : Option Held)
    → IfSome (o >>= handled_by k now q) (λ h. AreApart name h.records)
apart_held name k now q None = tt
apart_held name k now q (Some c) = each_handled (IsApart name) k (λ lwt written. tt) now q c

apart_local : (name : List ℕ) (w : World) (q : Request) (now : ℕ) (o : Option (List ℕ))
    → IfSome (o >>= λ master. handled w master q now) (λ h. AreApart name h.records)
apart_local name w q now None = tt
apart_local name w q now (Some k) = apart_held name k now q (named w.collections k)

apart_master : (name : List ℕ) (w : World) (q : Request) (now : ℕ) (o : Option Replication)
    → IfSome (o >>= λ r. local_name r.master >>= λ master. handled w master q now)
    (λ h. AreApart name h.records)
apart_master name w q now None = tt
apart_master name w q now (Some r) = apart_local name w q now (local_name r.master)

apart_handled : (name : List ℕ) (w : World) (k : List ℕ) (q : Request) (now : ℕ)
    → IfSome (handled_for w k q now) (λ h. AreApart name h.records)
apart_handled name w k q now = apart_master name w q now (named w.replications k)

apart_records : (name : List ℕ) (o : Option Handled) → IfSome o (λ h. AreApart name h.records)
    → IfSome (option_map (λ (h : Handled). h.records) o) (AreApart name)
apart_records name None is = tt
apart_records name (Some h) is = is

apart_late : (name : List ℕ) (w : World) (k : List ℕ) (now : ℕ) (o : Option Request)
    → IfSome (late_records k now w o) (AreApart name)
apart_late name w k now None = tt
apart_late name w k now (Some q) =
    apart_records name (handled_for w k q now) (apart_handled name w k q now)

-- ---- what a fork writes, of another replication

pub apart_taken : (name k : List ℕ) → k ≢ name → (w : World) (kinds : Kinds) (asked : Asked)
    (reply : Reply) (now : ℕ)
    → IfSome (taken w kinds k asked reply now) (λ x. IfOk x (AreApart name))
apart_taken name k other w kinds asked reply now =
    each_taken (IsApart name) k (λ lwt written known up down. other) w kinds asked reply now

-- ---- an exchange

module _ (t : Terms) (name : List ℕ) (other : t.name ≢ name) where
  apart_reply : (asked : Asked) (h : Handled) (w : World)
      → AreApart name (reply_taken t asked h w).records
  apart_reply asked h w =
      each_when (IsApart name) asked.request.ask h.reply.body
      (taken w t.kinds t.name asked h.reply t.now)
      (apart_taken name t.name other w t.kinds asked h.reply t.now)

  apart_all : (asked : Asked) (w : World) → AreApart name (handled_and_taken t asked w).records
  apart_all asked w =
      each_once (IsApart name) (reply_taken t asked) w (handled_for w t.name asked.request t.now)
      (apart_handled name w t.name asked.request t.now) (apart_reply asked)

  apart_lost : (why : Lost) (asked : Asked) (w : World)
      → AreApart name (once_handled (reply_lost why asked) w
      (handled_for w t.name asked.request t.now)).records
  apart_lost why asked w =
      each_once (IsApart name) (reply_lost why asked) w (handled_for w t.name asked.request t.now)
      (apart_handled name w t.name asked.request t.now) (λ h v. tt)

  apart_again : (asked : Asked) (h : Handled) (w : World)
      → AreApart name (handled_again t asked h w).records
  apart_again asked h w =
      each_once (IsApart name) (λ again v. reply_taken t asked h v) w
      (handled_for w t.name asked.request t.now)
      (apart_handled name w t.name asked.request t.now) (λ again v. apart_reply asked h v)

  apart_exchange : (asked : Asked) (x : Happening) (w : World)
      → AreApart name (step.exchange t asked x w).records
  apart_exchange asked link.Ok w = apart_all asked w
  apart_exchange asked (link.Late j) w = apart_all asked w
  apart_exchange asked link.LoseRequest w = tt
  apart_exchange asked link.LoseReply w = apart_lost lost.LoseReply asked w
  apart_exchange asked link.Twice w =
      each_once (IsApart name) (handled_again t asked) w (handled_for w t.name asked.request t.now)
      (apart_handled name w t.name asked.request t.now) (apart_again asked)
  apart_exchange asked link.Stale w = apart_lost lost.Stale asked w

  apart_once_late : (asked : Asked) (x : Happening) (w : World) (o : Option (List Content))
      → IfSome o (AreApart name) → AreApart name (once_late t asked x w o).records
  apart_once_late asked x w None is = tt
  apart_once_late asked x w (Some cs) is =
      each_both (IsApart name) cs (step.exchange t asked x (world_after cs w)).records is
      (apart_exchange asked x (world_after cs w))

  apart_course_by : (x : Happening) (w : World) (a : Asks) (o : Option Asked)
      → AreApart name (course_by t x w a o).records
  apart_course_by x w a None = tt
  apart_course_by x w a (Some asked) =
      let q = late_request x (with_request asked.request a) in
      apart_once_late asked x w (late_records t.name t.now w q)
      (apart_late name w t.name t.now q)

  -- a turn is apart from every replication but its own
  pub apart_turn : (batch budget : ℕ) (over : List Happening) (w : World) (a : Asks)
      → AreApart name (turn t batch budget over w a).records
  apart_turn batch budget over w a =
      each_turned (IsApart name) (over_link t) batch apart_course_by budget over w a

  -- ---- to a master elsewhere

  apart_lost_or : (ask : AskKind) (o : Option Lost)
      → AreApart name (lost_or_no_time ask o).records
  apart_lost_or ask None = tt
  apart_lost_or ask (Some why) = tt

  apart_once_taken : (ask : AskKind) (body : Body) (o : Option (Result (List Content) TakeFault))
      → IfSome o (λ x. IfOk x (AreApart name)) → AreApart name (once_taken ask body o).records
  apart_once_taken ask body None is = tt
  apart_once_taken ask body (Some (Ok cs)) is = each_both (IsApart name) cs [] is tt
  apart_once_taken ask body (Some (Err fault)) is = apart_lost_or ask (lost_as fault)

  apart_read : (asked : Asked) (w : World) (r : Result Reply WireFault)
      → AreApart name (once_read t asked w r).records
  apart_read asked w (Err fault) = tt
  apart_read asked w (Ok reply) =
      apart_once_taken asked.request.ask reply.body (taken w t.kinds t.name asked reply t.now)
      (apart_taken name t.name other w t.kinds asked reply t.now)

  apart_by_schema : (asked : Asked) (w : World) (bytes : List ℕ) (o : Option Shape)
      → AreApart name (once_heard t asked w bytes o).records
  apart_by_schema asked w bytes None = tt
  apart_by_schema asked w bytes (Some schema) = apart_read asked w (reply_of schema bytes)

  apart_heard : (asked : Asked) (h : Heard) (w : World)
      → AreApart name (heard_exchange t asked h w).records
  apart_heard asked no_dial w = tt
  apart_heard asked no_wire w = tt
  apart_heard asked no_line w = tt
  apart_heard asked (line bytes) w = apart_by_schema asked w bytes (schema_in w t.name)

  apart_heard_course : (h : Heard) (w : World) (a : Asks) (o : Option Asked)
      → AreApart name (heard_course t h w a o).records
  apart_heard_course h w a None = tt
  apart_heard_course h w a (Some asked) = apart_heard asked h w

  pub apart_remote_turn : (batch budget : ℕ) (hs : List Heard) (w : World) (a : Asks)
      → AreApart name (remote_turn t batch budget hs w a).turned.records
  apart_remote_turn batch budget hs w a =
      each_turned (IsApart name) (over_wire t) batch apart_heard_course budget hs w a
