-- What an event that is taken leaves.
use Rattle.std.proofs.Common.{◌≡◌, ◌∙◌, ℕ, ◌==◌, Bool, true, List, [], map, take, length, Option, Some, option_map, Result, Ok, Err, refl, sym, ap, subst, arith, eqb-true, eq-eqb}
use Rattle.std.proofs.lemmas.List.{nil_from_length}
use Rattle.std.specs.List.{IsDistinct}
use Rattle.std.specs.Str.{bytes_eq}
use Rattle.rx_value.specs.Due.{◌>>=◌, ◌>>◌, demand, lifted, or_fault, unless}
use Rattle.rx_value.specs.Named.{named}
use Rattle.rx_value.proofs.Outcomes.{demanded, ok_then, some_same}
use Rattle.rx_schema.specs.declared.shape.Shape.{Shape}
use Rattle.rx_document.specs.declared.place.Place.{Place}
use Rattle.rx_document.specs.declared.stored.Stored.{Stored}
use Rattle.rx_collection.specs.Held.{Held}
use Rattle.rx_collection.specs.Since.{is_above}
use Rattle.rx_collection.specs.Time.{last_lwt}
use Rattle.rx_handler.specs.declared.kind.HandlerKind.TheVariants.{MasterWins}
use Rattle.rx_wire.specs.declared.message.AskKind.TheVariants.{Pull}
use Rattle.rx_wire.specs.declared.message.Body.TheVariants.{Docs}
use Rattle.rx_wire.specs.declared.message.Reply.{Reply}
use Rattle.rx_replication.specs.Answered.{IsPullAnswered}
use Rattle.rx_replication.specs.Fitting.{IsFitting}
use Rattle.rx_replication.specs.Known.{KnownStates, pending}
use Rattle.rx_replication.specs.Request.{IsCurrent, push_or_pull, push_row}
use Rattle.rx_replication.specs.Taking.{Resolve, taking}
use Rattle.rx_replication.specs.Throughout.{AllPass}
use Rattle.rx_fork.specs.Accept.{accepted, answered, page_plan, plan_of}
use Rattle.rx_fork.specs.Valid.{is_valid}
use Rattle.rx_fork.specs.declared.accept.ExchangePlan.{ExchangePlan}
use Rattle.rx_fork.specs.declared.ask.Asked.{Asked}
use Rattle.rx_fork.specs.declared.fault.AcceptFault.{AcceptFault}
use Rattle.rx_fork.specs.declared.fault.AcceptFault.TheVariants as refused
use Rattle.rx_fork.proofs.Items.{take_nil}
use Rattle.rx_record.specs.Content.{Content}
use Rattle.rx_record.specs.declared.record.MasterName.{MasterName}
use Rattle.rx_record.specs.declared.record.MasterName.TheVariants.{Local}
use Rattle.rx_stream.specs.Events.{max_states}
use Rattle.rx_stream.specs.Good.{IsGoodEvent}
use Rattle.rx_stream.specs.declared.event.Event.{Event}
use Rattle.rx_world.specs.Linked.{HasMaster, IsLinked, IsMasterOf}
use Rattle.rx_world.specs.Made.{IsMadeWorld}
use Rattle.rx_world.specs.Sound.{IsSoundWorld}
use Rattle.rx_world.specs.World.{World}
use Rattle.rx_world.specs.declared.replication.Replication.{Replication}
use Rattle.rx_sync.specs.Asking.{fork_in, pending_in}
use Rattle.rx_sync.specs.Events.{IsGoodEventIn, event_by, event_recorded, event_taken, time_fault}
use Rattle.rx_sync.specs.Exchange.{world_after}
use Rattle.rx_sync.specs.Laws.{ComeSoundly, HasAnswered, HasMasterHere, IsDueOf, IsLawfulReply}
use Rattle.rx_sync.specs.Taking.{is_same_place, recorded, resolve_for, take_fault, taken_by}
use Rattle.rx_sync.specs.declared.fault.EventFault.TheVariants.{Old, Pending, Gap}
use Rattle.rx_sync.proofs.Exchanges.{has_taken}
use Rattle.rx_sync.proofs.Leaves.{leaves_reply, same_place}
use Rattle.rx_sync.proofs.Pulls.{pending_is, taken_leaves_none}
use Rattle.rx_sync.proofs.Refusals.{page_not_bad}
use Rattle.rx_sync.proofs.Worlds.{linked_at}

-- ---- looked up

pub event_is : (w : World) (name : List ℕ) (e : Event) (now : ℕ) (r : Replication) (fork : Held)
    → named w.replications name ≡ Some r → named w.collections r.fork ≡ Some fork
    → event_taken w name e now ≡ Some (event_by name now e r fork)
event_is w name e now r fork at held =
    ap (λ (o : Option Replication). o >>= λ r. fork_in w r >>= λ fork.
    Some (event_by name now e r fork)) at
    ∙ ap (λ (o : Option Held). o >>= λ fork. Some (event_by name now e r fork)) held

-- ---- its parts

unlifted : {A E F : Type 0} (fault : E → F) (r : Result A E) (x : A) → lifted fault r ≡ Ok x
    → r ≡ Ok x
unlifted fault (Ok y) x is = let same : y ≡ x = cc in ap Ok same
unlifted fault (Err e) x is = absurd (cc)

-- it is above down, nothing is to be pushed, it is from down, and this is its record
pub record IsEventTaken (name : List ℕ) (now : ℕ) (e : Event) (r : Replication) (fork : Held)
    (cs : List Content) : Type 0 where
  pub above : is_above r.side.down e.place ≡ true
  pub none : pending fork.documents r.side.known ≡ []
  pub from : e.from ≡ r.side.down
  pub written : recorded name now fork r.side
      (page_plan fork.documents r.side e.states (Some e.place)) ≡ Ok cs

pub event_parts : (name : List ℕ) (now : ℕ) (e : Event) (r : Replication) (fork : Held)
    (cs : List Content) → event_by name now e r fork ≡ Ok cs
    → IsEventTaken name now e r fork cs
event_parts name now e r fork cs is =
    let due = length (pending fork.documents r.side.known) in
    let above = is_above r.side.down e.place in
    let from = is_same_place e.from r.side.down in
    let a = ok_then (demand above Old) (λ _. demand (due == 0) (Pending due)
    >> λ _. demand from Gap >> λ _. event_recorded name now e r fork) cs is in
    let b = ok_then (demand (due == 0) (Pending due)) (λ _. demand from Gap
    >> λ _. event_recorded name now e r fork) cs a.2 in
    let d = ok_then (demand from Gap) (λ _. event_recorded name now e r fork) cs b.2 in
    record {
      above = demanded above Old a.0 a.1;
      none = nil_from_length (pending fork.documents r.side.known)
          (eqb-true due 0 (demanded (due == 0) (Pending due) b.0 b.1));
      from = same_place e.from r.side.down (demanded from Gap d.0 d.1);
      written = unlifted time_fault (recorded name now fork r.side
          (page_plan fork.documents r.side e.states (Some e.place))) cs d.2;
    }

-- ---- as the reply to a pull

abbrev pub event_asked : Replication → Held → Asked
event_asked r fork = record {
  request = record { epoch = 0; n = 0; ask = Pull r.side.down max_states };
  lwt = last_lwt fork.documents;
}

abbrev pub event_reply : Event → Reply
event_reply e = record { epoch = 0; n = 0; body = Docs e.states (Some e.place) }

-- it is accepted
event_accepted : (by : Resolve) (r : Replication) (fork : Held) (e : Event)
    → IsFitting (Pull r.side.down max_states) (Docs e.states (Some e.place))
    → accepted by fork.documents r.side (event_asked r fork) (event_reply e)
    ≡ Ok (page_plan fork.documents r.side e.states (Some e.place))
event_accepted by r fork e fits =
    let ask = Pull r.side.down max_states in
    let body = Docs e.states (Some e.place) in
    let lwt = last_lwt fork.documents in
    ap (λ (b : Bool). demand b (refused.Moved lwt lwt)
    >> λ _. answered by fork.documents r.side ask body) (eq-eqb lwt lwt refl)
    ∙ ap (λ (o : Option ℕ). unless refused.BadReply o (or_fault (refused.BadReply 0)
    (option_map plan_of (taking by fork.documents r.side.up r.side.down ask body))))
    (page_not_bad r.side.down max_states e.states (Some e.place) fits)

-- where nothing is to be pushed a pull is due
pub pull_current : (fork : Held) (known : KnownStates) (down : Option Place)
    → pending fork.documents known ≡ []
    → IsCurrent fork.documents known down (Pull down max_states)
pull_current fork known down none = (
  max_states,
  omega arith,
  sym (ap (λ (ds : List Stored). push_or_pull (map (push_row known) ds) down max_states)
      (ap (λ (ds : List Stored). take max_states ds) none ∙ take_nil {A = Stored} max_states)),
)

event_due : (r : Replication) (fork : Held) → pending fork.documents r.side.known ≡ []
    → IsDueOf r fork (event_asked r fork)
event_due r fork none = record {
  lawful = record { valid = tt; apart = tt };
  current = λ same. pull_current fork r.side.known r.side.down none;
}

-- ---- what it leaves

-- Its record comes soundly; nothing was to be pushed before, and nothing is afterwards.
pub record EventLeaves (w : World) (name : List ℕ) (cs : List Content) : Type 0 where
  pub come : ComeSoundly w cs
  pub before : pending_in w name ≡ Some 0
  pub settled : pending_in (world_after cs w) name ≡ Some 0

module _ (w : World) (made : IsMadeWorld w) (name : List ℕ) (here : HasMasterHere w name)
    (e : Event) (good : IsGoodEventIn w name e) (r : Replication)
    (at : named w.replications name ≡ Some r) (fork : Held)
    (held : named w.collections r.fork ≡ Some fork) where
  local : r.master ≡ Local here.master
  local = ap (λ (r : Replication). r.master) (some_same (sym at ∙ here.held)) ∙ here.local

  link : IsLinked w.collections name r
  link = linked_at w made name r at

  ends : IsMasterOf w.collections r.fork fork.schema here.master
  ends =
      subst (λ (c : Held). IsMasterOf w.collections r.fork c.schema here.master)
      (some_same (sym link.held ∙ held))
      (subst (HasMaster w.collections r.fork link.fork.schema) local link.master)

  good_here : IsGoodEvent (is_valid ends.master.schema) ends.master.documents e
  good_here = good r at here.master local ends.master ends.held

  lawful : IsLawfulReply fork.schema (event_reply e)
  lawful = record {
    valid = subst (λ (s : Shape). AllPass (is_valid s) e.states) ends.same good_here.pass;
    apart = good_here.apart;
    timed = good_here.timed;
  }

  -- no key comes twice in it
  pub event_apart : IsDistinct bytes_eq (map (λ s. s.key) e.states)
  event_apart = good_here.apart

  module _ (sound : IsSoundWorld w) (now : ℕ) (cs : List Content)
      (t : IsEventTaken name now e r fork cs) where
    answered_so : HasAnswered w.collections r.master r.side.down (event_asked r fork)
        (event_reply e)
    answered_so =
        subst (λ (m : MasterName). HasAnswered w.collections m r.side.down (event_asked r fork)
        (event_reply e)) (sym local)
        (λ master there.
        subst (λ (c : Held). IsPullAnswered c.documents r.side.down e.states (Some e.place))
        (some_same (sym ends.held ∙ there))
        (subst (λ (p : Option Place). IsPullAnswered ends.master.documents p e.states
        (Some e.place)) t.from good_here.answered))

    taken_so : taken_by name now (event_asked r fork) (event_reply e) r fork MasterWins ≡ Ok cs
    taken_so =
        ap (λ (o : Result ExchangePlan AcceptFault).
        lifted take_fault o >> recorded name now fork r.side)
        (event_accepted (resolve_for MasterWins r) r fork e
        (subst (λ (p : Option Place). IsFitting (Pull p max_states) (Docs e.states (Some e.place)))
        t.from good_here.fitting))
        ∙ t.written

    leaves_so : EventLeaves w name cs
    leaves_so =
        let asked = event_asked r fork in
        let reply = event_reply e in
        let due = event_due r fork t.none in
        record {
          come = (has_taken w made sound name r at fork held MasterWins now asked reply due lawful
              cs taken_so).come answered_so;
          before = pending_is w name r fork at held
              ∙ ap (λ (ds : List Stored). Some (length ds)) t.none;
          settled = taken_leaves_none w made name r fork held MasterWins now asked reply due lawful
              cs
              (leaves_reply w made sound name r at fork held MasterWins now asked reply due lawful
              cs taken_so) refl;
        }

  pub event_leaves : IsSoundWorld w → (now : ℕ) (cs : List Content)
      → event_by name now e r fork ≡ Ok cs → EventLeaves w name cs
  event_leaves sound now cs is = leaves_so sound now cs (event_parts name now e r fork cs is)
