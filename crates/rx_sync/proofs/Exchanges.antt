-- What an exchange leaves.
use Rattle.std.proofs.Common.{◌≡◌, ◌≢◌, ◌∙◌, ℕ, ◌==◌, Bool, true, false, cond, List, [], ◌∷◌, length, Option, Some, None, option_map, Result, Ok, Err, unwrap_or, ◌&&◌, refl, sym, ap, subst, eqb-true}
use Rattle.std.proofs.lemmas.Bool.{and_parts}
use Rattle.std.proofs.lemmas.List.{nil_from_length}
use Rattle.std.specs.List.{list_all}
use Rattle.rx_value.specs.Due.{◌>>=◌, ◌>>◌, lifted, or_fault}
use Rattle.rx_value.specs.Named.{named}
use Rattle.rx_value.specs.declared.state.State.{State}
use Rattle.rx_value.proofs.Outcomes.{some_same, not_none}
use Rattle.rx_collection.specs.Held.{Held}
use Rattle.rx_handler.specs.Handlers.{Kinds}
use Rattle.rx_handler.specs.declared.kind.HandlerKind.{HandlerKind}
use Rattle.rx_wire.specs.declared.message.AskKind.{AskKind}
use Rattle.rx_wire.specs.declared.message.AskKind.TheVariants.{Push, Pull}
use Rattle.rx_wire.specs.declared.message.Reply.{Reply}
use Rattle.rx_wire.specs.declared.message.Request.{Request}
use Rattle.rx_replication.specs.Master.{body_of, master_then, reply_with, writes}
use Rattle.rx_replication.specs.Throughout.{AskPasses}
use Rattle.rx_replication.proofs.Commits.{Wrote, write_wrote}
use Rattle.rx_replication.proofs.Lists.{all_each}
use Rattle.rx_replication.proofs.Throughout.{writes_pass}
use Rattle.rx_fork.specs.Accept.{accepted}
use Rattle.rx_fork.specs.Valid.{is_valid}
use Rattle.rx_fork.specs.declared.accept.ExchangePlan.{ExchangePlan}
use Rattle.rx_fork.specs.declared.ask.Asked.{Asked}
use Rattle.rx_fork.specs.declared.fault.AcceptFault.{AcceptFault}
use Rattle.rx_fork.proofs.Accepted.{IsTaken, accepted_parts}
use Rattle.rx_fork.proofs.Validity.{resolves_keys, resolves_valid}
use Rattle.rx_record.specs.Content.{Content}
use Rattle.rx_record.specs.declared.record.MasterName.{MasterName}
use Rattle.rx_record.specs.declared.record.MasterName.TheVariants.{Local}
use Rattle.rx_world.specs.Made.{IsMadeWorld}
use Rattle.rx_world.specs.Sound.{IsSoundWorld}
use Rattle.rx_world.specs.Step.{IsValidState}
use Rattle.rx_world.specs.World.{World}
use Rattle.rx_world.specs.declared.replication.Replication.{Replication}
use Rattle.rx_world.proofs.Sounds.{exchange_fork}
use Rattle.rx_sync.specs.Asking.{fork_in}
use Rattle.rx_sync.specs.Asks.{IsLawfulRequest}
use Rattle.rx_sync.specs.Exchange.{world_after}
use Rattle.rx_sync.specs.Handling.{Handled, commits_of, handled, handled_by, handled_for, local_name}
use Rattle.rx_sync.specs.Laws.{ComeSoundly, HasAnswered, IsDueOf, IsLawfulReply, MayCome, MayComeInTurn}
use Rattle.rx_sync.specs.Taking.{changes_nothing, exchange_at, is_known, is_same_place, recorded, resolve_for, take_fault, taken, taken_by, write_time}
use Rattle.rx_sync.specs.declared.fault.TakeFault.TheVariants.{ClockEnd}
use Rattle.rx_sync.proofs.Masters.{LeavesWritten, leaves_commits}
use Rattle.rx_sync.proofs.Takings.{fork_wrote, leaves_sound, may_come, written}
use Rattle.rx_sync.proofs.Written.{WritesRows, outs_of}

-- ---- the request is handled

-- what a master did
pub record HasHandled (w : World) (m : List ℕ) (c : Held) (now : ℕ) (q : Request) (h : Handled)
    : Type 0 where
  pub leaves : LeavesWritten w m (master_then c q.ask now) h.records
  pub reply : h.reply ≡ reply_with q (body_of c.documents q.ask)

valid_writes : (w : World) (made : IsMadeWorld w) (m : List ℕ) (c : Held)
    (at : named w.collections m ≡ Some c) (q : Request) → IsLawfulRequest c.schema q → (now : ℕ)
    (cs : List Content) → commits_of m now q.ask c ≡ Some cs
    → LeavesWritten w m (master_then c q.ask now) cs
valid_writes w made m c at q lawful now cs is = by q.ask lawful.valid is
  where
    by : (ask : AskKind) → AskPasses (is_valid c.schema) ask → commits_of m now ask c ≡ Some cs
        → LeavesWritten w m (master_then c ask now) cs
    by (Push rows) valid is =
        leaves_commits w made m c at (Push rows) now cs
        (all_each (λ s. IsValidState c.schema s) (writes c.documents rows)
        (writes_pass (is_valid c.schema) c.documents rows valid)) is
    by (Pull place batch) valid is = leaves_commits w made m c at (Pull place batch) now cs tt is

pub has_handled : (w : World) → IsMadeWorld w → (m : List ℕ) (c : Held)
    → named w.collections m ≡ Some c → (q : Request) → IsLawfulRequest c.schema q → (now : ℕ)
    (h : Handled) → handled_by m now q c ≡ Some h → HasHandled w m c now q h
has_handled w made m c at q lawful now h is = by (commits_of m now q.ask c) refl is
  where
    reply : Reply
    reply = reply_with q (body_of c.documents q.ask)

    by : (o : Option (List Content)) → commits_of m now q.ask c ≡ o
        → option_map (λ records. record {
          records = records;
          reply = reply_with q (body_of c.documents q.ask);
        }) o ≡ Some h
        → HasHandled w m c now q h
    by None at' is = not_none is
    by (Some cs) at' is =
        subst (λ (h : Handled). HasHandled w m c now q h) (some_same is)
        (record { leaves = valid_writes w made m c at q lawful now cs at'; reply = refl })

-- ---- the reply is taken

-- what a fork did
pub record HasTaken (w : World) (name : List ℕ) (r : Replication) (fork : Held) (kind : HandlerKind)
    (asked : Asked) (reply : Reply) (cs : List Content) : Type 0 where
  pub plan : ExchangePlan
  pub taken_so : IsTaken (resolve_for kind r) fork.documents r.side asked reply plan
  pub come : HasAnswered w.collections r.master r.side.down asked reply → ComeSoundly w cs
  pub next : MayComeInTurn w cs
  pub new : Held
  pub there : named (world_after cs w).collections r.fork ≡ Some new
  pub wrote : Wrote fork.documents taken_so.of.taken.rows new.documents
  pub others : (k : List ℕ) → k ≢ r.fork
      → named (world_after cs w).collections k ≡ named w.collections k

module _ (w : World) (made : IsMadeWorld w) (sound : IsSoundWorld w) (name : List ℕ)
    (r : Replication) (at : named w.replications name ≡ Some r) (fork : Held)
    (held : named w.collections r.fork ≡ Some fork) (kind : HandlerKind) (now : ℕ) (asked : Asked)
    (reply : Reply) (due : IsDueOf r fork asked) (lawful : IsLawfulReply fork.schema reply) where
  module _ (plan : ExchangePlan)
      (t : IsTaken (resolve_for kind r) fork.documents r.side asked reply plan) where
    taken_none : plan.rows ≡ [] → HasTaken w name r fork kind asked reply []
    taken_none none = record {
      plan = plan;
      taken_so = t;
      come = λ answered. tt;
      next = tt;
      new = fork;
      there = held;
      wrote = subst (λ (ss : List State). Wrote fork.documents ss fork.documents)
          (sym none ∙ t.of.rows) (write_wrote fork [] now fork refl);
      others = λ k other. refl;
    }

    taken_one : (lwt : ℕ) → write_time now fork plan.rows ≡ Some lwt
        → HasTaken w name r fork kind asked reply (exchange_at name fork plan lwt ∷ [])
    taken_one lwt time =
        let by = resolve_for kind r in
        let keys = resolves_keys kind (unwrap_or r.field []) in
        let passing = resolves_valid fork.schema kind (unwrap_or r.field []) in
        let next : MayCome w (exchange_at name fork plan lwt) =
        may_come w made sound name r at fork held by keys passing asked reply due lawful plan t now
        lwt time in
        let ww : WritesRows fork plan.rows now lwt =
        written w made sound name r at fork held by keys passing asked reply due lawful plan t now
        lwt time in
        let f = exchange_fork name lwt (outs_of fork lwt plan.rows) plan.known plan.up plan.down w r
        fork at held in
        record {
          plan = plan;
          taken_so = t;
          come = λ answered. (
            next,
            leaves_sound w made sound name r at fork held by keys passing asked reply due lawful
                plan t now lwt time answered,
            tt,
          );
          next = (next, tt);
          new = ww.new;
          there = f.is ∙ ap Some ww.is;
          wrote = fork_wrote w made sound name r at fork held by keys passing asked reply due lawful
              plan t now ww.new ww.wrote;
          others = f.others;
        }

    recorded_by : (b : Bool) (o : Option ℕ) (cs : List Content)
        → changes_nothing r.side plan ≡ b → write_time now fork plan.rows ≡ o
        → cond b (Ok []) (or_fault ClockEnd (option_map (λ lwt. exchange_at name fork plan lwt ∷ [])
        o))
        ≡ Ok cs → HasTaken w name r fork kind asked reply cs
    recorded_by true o cs nothing time is =
        let same : [] ≡ cs = cc in
        let rows = length plan.rows == 0 in
        let up = is_same_place r.side.up plan.up in
        let down = is_same_place r.side.down plan.down in
        let a = and_parts (rows && up && down) (list_all (is_known r.side.known) plan.known)
        nothing in
        let b = and_parts (rows && up) down a.0 in
        let e = and_parts rows up b.0 in
        subst (λ (cs : List Content). HasTaken w name r fork kind asked reply cs) same
        (taken_none (nil_from_length plan.rows (eqb-true (length plan.rows) 0 e.0)))
    recorded_by false None cs nothing time is = absurd (cc)
    recorded_by false (Some lwt) cs nothing time is =
        let same : exchange_at name fork plan lwt ∷ [] ≡ cs = cc in
        subst (λ (cs : List Content). HasTaken w name r fork kind asked reply cs) same
        (taken_one lwt time)

  taken_from : (o : Result ExchangePlan AcceptFault) (cs : List Content)
      → accepted (resolve_for kind r) fork.documents r.side asked reply ≡ o
      → lifted take_fault o >> recorded name now fork r.side ≡ Ok cs
      → HasTaken w name r fork kind asked reply cs
  taken_from (Ok plan) cs at' is =
      recorded_by plan (accepted_parts (resolve_for kind r) fork.documents r.side asked reply plan
      at')
      (changes_nothing r.side plan) (write_time now fork plan.rows) cs refl refl is
  taken_from (Err e) cs at' is = absurd (cc)

  pub has_taken : (cs : List Content) → taken_by name now asked reply r fork kind ≡ Ok cs
      → HasTaken w name r fork kind asked reply cs
  has_taken cs is =
      taken_from (accepted (resolve_for kind r) fork.documents r.side asked reply) cs refl is

-- ---- looked up

pub taken_is : (w : World) (kinds : Kinds) (name : List ℕ) (asked : Asked) (reply : Reply) (now : ℕ)
    (r : Replication) (fork : Held) (kind : HandlerKind) → named w.replications name ≡ Some r
    → named w.collections r.fork ≡ Some fork → named kinds r.handler ≡ Some kind
    → taken w kinds name asked reply now ≡ Some (taken_by name now asked reply r fork kind)
taken_is w kinds name asked reply now r fork kind at held handler =
    ap (λ (o : Option Replication). o >>= λ r. fork_in w r >>= λ fork. named kinds r.handler
    >>= λ kind.
    Some (taken_by name now asked reply r fork kind)) at
    ∙ ap (λ (o : Option Held). o >>= λ fork. named kinds r.handler >>= λ kind.
    Some (taken_by name now asked reply r fork kind)) held
    ∙ ap (λ (o : Option HandlerKind). o >>= λ kind. Some (taken_by name now asked reply r fork
    kind))
    handler

pub handled_is : (w : World) (name : List ℕ) (q : Request) (now : ℕ) (r : Replication) (m : List ℕ)
    (c : Held) → named w.replications name ≡ Some r → r.master ≡ Local m
    → named w.collections m ≡ Some c → handled_for w name q now ≡ handled_by m now q c
handled_is w name q now r m c at local held =
    ap (λ (o : Option Replication).
    o >>= λ r. local_name r.master >>= λ master. handled w master q now) at
    ∙ ap (λ (n : MasterName). local_name n >>= λ master. handled w master q now) local
    ∙ ap (λ (o : Option Held). o >>= handled_by m now q) held
