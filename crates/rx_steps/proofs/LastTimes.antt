-- What finds no write time has the last one.
use Rattle.std.proofs.Common.{◌≡◌, ◌∙◌, ℕ, ◌+◌, ◌==◌, ◌&&◌, Bool, true, false, cond, min, max, List, [], ◌∷◌, map, Option, Some, None, option_map, Result, Ok, Err, refl, sym, ap, subst, eqb-true, eq-eqb}
use Rattle.rx_value.specs.Due.{◌>>◌, demand, lifted, or_fault, unless}
use Rattle.rx_value.specs.declared.state.State.{State}
use Rattle.rx_value.proofs.Outcomes.{none_mapped, not_none}
use Rattle.rx_document.specs.Documents.{Documents}
use Rattle.rx_collection.specs.Commit.{rows_of}
use Rattle.rx_collection.specs.Held.{Held}
use Rattle.rx_collection.specs.Time.{last_lwt, most_lwt, stamp}
use Rattle.rx_meta.specs.Side.{Side}
use Rattle.rx_wire.specs.declared.message.AskKind.{AskKind}
use Rattle.rx_wire.specs.declared.message.AskKind.TheVariants.{Push, Pull}
use Rattle.rx_wire.specs.declared.message.Reply.{Reply}
use Rattle.rx_wire.specs.declared.message.Request.{Request}
use Rattle.rx_replication.specs.Master.{body_of, reply_with, writes}
use Rattle.rx_replication.specs.Taking.{Resolve, taking}
use Rattle.rx_handler.specs.declared.kind.HandlerKind.{HandlerKind}
use Rattle.rx_fork.specs.Accept.{accepted, answered, plan_of}
use Rattle.rx_fork.specs.BadReply.{bad_reply}
use Rattle.rx_fork.specs.declared.accept.ExchangePlan.{ExchangePlan}
use Rattle.rx_fork.specs.declared.ask.Asked.{Asked}
use Rattle.rx_fork.specs.declared.fault.AcceptFault.{AcceptFault}
use Rattle.rx_fork.specs.declared.fault.AcceptFault.TheVariants as refused
use Rattle.rx_record.specs.Content.{Content, rows}
use Rattle.rx_reply.specs.declared.turn.Lost.{Lost}
use Rattle.rx_reply.specs.declared.turn.Lost.TheVariants as lost
use Rattle.rx_world.specs.Commit.{out_of}
use Rattle.rx_world.specs.declared.replication.Replication.{Replication}
use Rattle.rx_sync.specs.Handling.{commits_of, handled_by, written_by}
use Rattle.rx_sync.specs.Remote.{lost_as}
use Rattle.rx_sync.specs.Taking.{changes_nothing, exchange_at, recorded, resolve_for, take_fault, taken_by, write_time}
use Rattle.rx_sync.specs.declared.fault.TakeFault.{TakeFault}
use Rattle.rx_sync.specs.declared.fault.TakeFault.TheVariants.{ClockEnd}

-- ---- a time

last_by : (b : Bool) (lwt : ℕ) → cond b None (Some lwt) ≡ None → b ≡ true
last_by true lwt is = refl
last_by false lwt is = not_none (sym is)

pub stamp_last : (documents : Documents) (now : ℕ) → stamp documents now ≡ None
    → last_lwt documents ≡ most_lwt
stamp_last documents now is =
    eqb-true (last_lwt documents) most_lwt
    (last_by (last_lwt documents == most_lwt) (max (min now most_lwt) (last_lwt documents + 1)) is)

-- ---- a master

written_last : (m : List ℕ) (now : ℕ) (c : Held) (ss : List State) → written_by m now c ss ≡ None
    → last_lwt c.documents ≡ most_lwt
written_last m now c [] is = not_none (sym is)
written_last m now c (s ∷ ss) is =
    stamp_last c.documents now
    (none_mapped (λ lwt. rows m lwt (map out_of (rows_of c (s ∷ ss) lwt))) (stamp c.documents now)
    (none_mapped (λ (r : Content). r ∷ [])
    (option_map (λ lwt. rows m lwt (map out_of (rows_of c (s ∷ ss) lwt)))
    (stamp c.documents now)) is))

commits_last : (m : List ℕ) (now : ℕ) (c : Held) (ask : AskKind) → commits_of m now ask c ≡ None
    → last_lwt c.documents ≡ most_lwt
commits_last m now c (Push pushed) is = written_last m now c (writes c.documents pushed) is
commits_last m now c (Pull place batch) is = not_none (sym is)

pub handled_last : (m : List ℕ) (now : ℕ) (q : Request) (c : Held) → handled_by m now q c ≡ None
    → last_lwt c.documents ≡ most_lwt
handled_last m now q c is =
    commits_last m now c q.ask (none_mapped (λ (records : List Content). record {
      records = records;
      reply = reply_with q (body_of c.documents q.ask);
    }) (commits_of m now q.ask c) is)

-- ---- a fork

time_last : (now : ℕ) (fork : Held) (ss : List State) → write_time now fork ss ≡ None
    → last_lwt fork.documents ≡ most_lwt
time_last now fork [] is = not_none (sym is)
time_last now fork (s ∷ ss) is = stamp_last fork.documents now is

recorded_by : (b : Bool) (o : Option ℕ) (entry : ℕ → Content) (fault : TakeFault)
    → cond b (Ok []) (or_fault ClockEnd (option_map (λ lwt. entry lwt ∷ []) o)) ≡ Err fault
    → o ≡ None
recorded_by true o entry fault is = absurd (cc)
recorded_by false None entry fault is = refl
recorded_by false (Some lwt) entry fault is = absurd (cc)

recorded_last : (name : List ℕ) (now : ℕ) (fork : Held) (side : Side) (plan : ExchangePlan)
    (fault : TakeFault) → recorded name now fork side plan ≡ Err fault
    → last_lwt fork.documents ≡ most_lwt
recorded_last name now fork side plan fault is =
    time_last now fork plan.rows
    (recorded_by (changes_nothing side plan) (write_time now fork plan.rows)
    (exchange_at name fork plan) fault is)

-- a fault of what is accepted loses the exchange, where the fork wasn't written since the asking
abbrev LosesIt : AcceptFault → Type 0
LosesIt fault = (why : Lost) × (lost_as (take_fault fault) ≡ Some why)

loses_answer : (o : Option ℕ) (p : Option ExchangePlan) (fault : AcceptFault)
    → unless refused.BadReply o (or_fault (refused.BadReply 0) p) ≡ Err fault → LosesIt fault
loses_answer (Some at) p fault is =
    let same : refused.BadReply at ≡ fault = cc in subst LosesIt same (lost.BadReply, refl)
loses_answer None None fault is =
    let same : refused.BadReply 0 ≡ fault = cc in subst LosesIt same (lost.BadReply, refl)
loses_answer None (Some plan) fault is = absurd (cc)

loses_moved : (b : Bool) (moved : AcceptFault) (o : Option ℕ) (p : Option ExchangePlan)
    (fault : AcceptFault) → b ≡ true
    → (demand b moved >> λ _. unless refused.BadReply o (or_fault (refused.BadReply 0) p))
    ≡ Err fault
    → LosesIt fault
loses_moved true moved o p fault unmoved is = loses_answer o p fault is
loses_moved false moved o p fault unmoved is = absurd (cc)

loses_foreign : (b : Bool) (epoch n : ℕ) (rest : Result ExchangePlan AcceptFault)
    (fault : AcceptFault) → (rest ≡ Err fault → LosesIt fault)
    → (demand b (refused.Foreign epoch n) >> λ _. rest) ≡ Err fault → LosesIt fault
loses_foreign true epoch n rest fault then is = then is
loses_foreign false epoch n rest fault then is =
    let same : refused.Foreign epoch n ≡ fault = cc in subst LosesIt same (lost.Foreign, refl)

accepted_loses : (by : Resolve) (fork : Documents) (side : Side) (asked : Asked) (reply : Reply)
    (fault : AcceptFault) → last_lwt fork ≡ asked.lwt
    → accepted by fork side asked reply ≡ Err fault
    → LosesIt fault
accepted_loses by fork side asked reply fault unmoved is =
    loses_foreign (reply.epoch == asked.request.epoch && reply.n == asked.request.n) reply.epoch
    reply.n
    (demand (last_lwt fork == asked.lwt) (refused.Moved asked.lwt (last_lwt fork))
    >> λ _. answered by fork side asked.request.ask reply.body) fault
    (loses_moved (last_lwt fork == asked.lwt) (refused.Moved asked.lwt (last_lwt fork))
    (bad_reply side.down asked.request.ask reply.body)
    (option_map plan_of (taking by fork side.up side.down asked.request.ask reply.body)) fault
    (eq-eqb (last_lwt fork) asked.lwt unmoved)) is

-- a taking that is refused, and not lost, found no write time
pub taken_last : (name : List ℕ) (now : ℕ) (asked : Asked) (reply : Reply) (r : Replication)
    (fork : Held) (kind : HandlerKind) (fault : TakeFault) → last_lwt fork.documents ≡ asked.lwt
    → taken_by name now asked reply r fork kind ≡ Err fault → lost_as fault ≡ None
    → last_lwt fork.documents ≡ most_lwt
taken_last name now asked reply r fork kind fault unmoved is kept =
    by (accepted (resolve_for kind r) fork.documents r.side asked reply) refl is
  where
    by : (o : Result ExchangePlan AcceptFault)
        → accepted (resolve_for kind r) fork.documents r.side asked reply ≡ o
        → lifted take_fault o >> recorded name now fork r.side ≡ Err fault
        → last_lwt fork.documents ≡ most_lwt
    by (Ok plan) at is = recorded_last name now fork r.side plan fault is
    by (Err e) at is =
        let it = accepted_loses (resolve_for kind r) fork.documents r.side asked reply e unmoved
        at in
        let same : take_fault e ≡ fault = cc in
        not_none (sym kept ∙ ap lost_as (sym same) ∙ it.1)
