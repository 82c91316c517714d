-- What the calls owe, of plain values.
use Rattle.std.proofs.Common.{◌≡◌, ◌∙◌, ℕ, ◌≤◌, List, [], map, Option, Some, Result, Ok, Err, IfOk, unwrap_or, sym, ap, subst}
use Rattle.std.specs.List.{AllByRecursion}
use Rattle.std.specs.Option.{ForSome}
use Rattle.rx_value.specs.Due.{DueBy, ◌>>◌, lifted}
use Rattle.rx_value.specs.Named.{named}
use Rattle.rx_value.proofs.Outcomes.{some_same}
use Rattle.rx_schema.specs.declared.shape.Shape.{Shape}
use Rattle.rx_document.specs.Documents.{Documents}
use Rattle.rx_collection.specs.Held.{Held}
use Rattle.rx_handler.specs.Handlers.{Kinds}
use Rattle.rx_handler.specs.Resolve.{resolve}
use Rattle.rx_handler.specs.declared.kind.HandlerKind.{HandlerKind}
use Rattle.rx_wire.specs.declared.message.AskKind.{AskKind}
use Rattle.rx_wire.specs.declared.message.AskKind.TheVariants.{Push}
use Rattle.rx_wire.specs.declared.message.PushRow.{PushRow}
use Rattle.rx_wire.specs.declared.message.Reply.{Reply}
use Rattle.rx_wire.specs.declared.message.Request.{Request}
use Rattle.rx_replication.specs.Known.{NonePendingBelow}
use Rattle.rx_replication.specs.Master.{writes}
use Rattle.rx_replication.specs.Throughout.{AskPasses, KnownPass}
use Rattle.rx_replication.specs.Updates.{KeepsPending}
use Rattle.rx_replication.proofs.Lists.{all_each}
use Rattle.rx_replication.proofs.Throughout.{writes_pass}
use Rattle.rx_replication.proofs.Updates.{taking_keeps}
use Rattle.rx_replication.proofs.Walk.{sound-none_pending}
use Rattle.rx_fork.specs.Accept.{accepted}
use Rattle.rx_fork.specs.Asked.{asked_of}
use Rattle.rx_fork.specs.Valid.{is_valid}
use Rattle.rx_fork.specs.declared.accept.ExchangePlan.{ExchangePlan}
use Rattle.rx_fork.specs.declared.ask.Asked.{Asked}
use Rattle.rx_fork.proofs.Validity.{resolves_keys}
use Rattle.rx_record.specs.Content.{Content}
use Rattle.rx_record.specs.Shown.{content}
use Rattle.rx_record.specs.declared.record.Record.{Record}
use Rattle.rx_script.specs.declared.happening.Happening.{Happening}
use Rattle.rx_world.specs.Made.{IsMadeWorld}
use Rattle.rx_world.specs.Sound.{IsSoundWorld}
use Rattle.rx_world.specs.Step.{IsValidState}
use Rattle.rx_world.specs.World.{World}
use Rattle.rx_world.specs.declared.replication.Replication.{Replication}
use Rattle.rx_world.proofs.Steps.{lawful_at}
use Rattle.rx_world.proofs.Valid.{valid_at}
use Rattle.rx_sync.specs.Asks.{IsLawfulRequest}
use Rattle.rx_sync.specs.Exchange.{world_after, behind, exchange, handled_and_taken, if_taken, once_handled, reply_taken, taken_as, when_taken}
use Rattle.rx_sync.specs.Handling.{Handled, handled_by, handled_for}
use Rattle.rx_sync.specs.Laws.{ComeSoundly, IsAnsweredIn, IsAskedIn, IsDueIn, IsDueOf, IsLawfulIn, IsLawfulReply, IsLawfulReplyIn, IsReady, KeepsPendingIn, PullLeavesNone}
use Rattle.rx_sync.specs.Shown.{planned_of, record_in}
use Rattle.rx_sync.specs.Taking.{recorded, resolve_for, take_fault, taken, taken_by}
use Rattle.rx_sync.specs.declared.exchanging.Planned.{Planned}
use Rattle.rx_sync.specs.declared.fault.TakeFault.{TakeFault}
use Rattle.rx_sync.proofs.Ends.{HasEnds, ends_of}
use Rattle.rx_sync.proofs.Exchanges.{HasTaken, has_handled, has_taken, taken_is}
use Rattle.rx_sync.proofs.Going.{due_here, fork_then, handled_well, replication_then, reply_is_lawful}
use Rattle.rx_sync.proofs.Leaves.{leaves_reply}
use Rattle.rx_sync.proofs.Messages.{due_of, known_pass}
use Rattle.rx_sync.proofs.Pulls.{taken_leaves_none}
use Rattle.rx_sync.proofs.Staying.{plain_soundly}
use Rattle.rx_sync.proofs.Turns.{exchange_well}
use Rattle.rx_sync.proofs.Worlds.{by_key_at, called_at, for_fork, fork_sound_at, linked_at}

-- what is due of each
pub due_ok : {X Y E : Type 0} (memory : E) (view : X → Y) (r : Result X E) (due : Result Y E)
    → DueBy memory view r due → IfOk r (λ x. due ≡ Ok (view x))
due_ok memory view (Ok x) due is = is
due_ok memory view (Err e) due is = tt

-- ---- asking

module _ (w : World) (made : IsMadeWorld w) (name : List ℕ) (r : Replication)
    (at : named w.replications name ≡ Some r) (fork : Held)
    (held : named w.collections r.fork ≡ Some fork) where
  pub none_pending : IsSoundWorld w → NonePendingBelow fork.documents r.side.known r.side.up
  none_pending sound =
      sound-none_pending fork.documents r.side.known r.side.up (by_key_at w made r.fork fork held)
      (fork_sound_at w made sound name r fork at held)

  pub due_in : (epoch n batch : ℕ) → 1 ≤ batch → (asked : Asked)
      → asked ≡ asked_of fork.documents r.side epoch n batch → IsDueIn w name asked
  due_in epoch n batch some asked is =
      let l = linked_at w made name r at in
      let knows : KnownPass (is_valid fork.schema) r.side.known =
      subst (λ (c : Held). KnownPass (is_valid c.schema) r.side.known) (some_same (sym l.held
      ∙ held))
      (known_pass w name r l) in
      for_fork w name r fork (λ r fork. IsDueOf r fork asked) at held
      (subst (λ (a : Asked). IsDueOf r fork a) (sym is)
      (due_of fork r epoch n batch (lawful_at w r.fork fork made.lawful held).lawful
      (valid_at w r.fork fork made.valid held) knows some))

-- ---- handling

pub writes_valid : (schema : Shape) (m : Documents) (ask : AskKind) (rows : List PushRow)
    → AskPasses (is_valid schema) ask → ask ≡ Push rows
    → AllByRecursion (IsValidState schema) (writes m rows)
writes_valid schema m ask rows valid is =
    all_each (λ s. IsValidState schema s) (writes m rows)
    (writes_pass (is_valid schema) m rows (subst (AskPasses (is_valid schema)) is valid))

pub handled_soundly : (w : World) → IsMadeWorld w → IsSoundWorld w → (m : List ℕ) (c : Held)
    → named w.collections m ≡ Some c → (q : Request) → IsLawfulRequest c.schema q → (now : ℕ)
    (h : Handled) → handled_by c.name now q c ≡ Some h → ComeSoundly w h.records
handled_soundly w made sound m c at q lawful now h is =
    let here : handled_by m now q c ≡ Some h =
    ap (λ (k : List ℕ). handled_by k now q c) (sym (called_at w made m c at)) ∙ is in
    let leaves = (has_handled w made m c at q lawful now h here).leaves in
    plain_soundly w h.records made sound leaves.plain leaves.next

-- ---- taking

pub taken_of : (name : List ℕ) (now : ℕ) (asked : Asked) (reply : Reply) (r : Replication)
    (fork : Held) (kind : HandlerKind) (field : List ℕ) → field ≡ unwrap_or r.field []
    → (plan : ExchangePlan)
    → accepted (resolve kind field) fork.documents r.side asked reply ≡ Ok plan
    → (cs : List Content)
    → recorded name now fork r.side plan ≡ Ok cs
    → taken_by name now asked reply r fork kind ≡ Ok cs
taken_of name now asked reply r fork kind field same plan is cs written =
    ap (λ o. lifted take_fault o >> recorded name now fork r.side)
    (ap (λ (f : List ℕ). accepted (resolve kind f) fork.documents r.side asked reply) (sym same)
    ∙ is)
    ∙ written

module _ (w : World) (made : IsMadeWorld w) (sound : IsSoundWorld w) (name : List ℕ)
    (r : Replication) (at : named w.replications name ≡ Some r) (fork : Held)
    (held : named w.collections r.fork ≡ Some fork) (kinds : Kinds) (kind : HandlerKind)
    (handler : named kinds r.handler ≡ Some kind) (now : ℕ) (asked : Asked) (reply : Reply)
    (due : IsDueIn w name asked) (lawful : IsLawfulReplyIn w name reply) (cs : List Content)
    (is : taken_by name now asked reply r fork kind ≡ Ok cs) where
  took : HasTaken w name r fork kind asked reply cs
  took =
      has_taken w made sound name r at fork held kind now asked reply (due r at fork held)
      (lawful r at fork held) cs is

  pub taken_soundly : IsAnsweredIn w name asked reply → ComeSoundly w cs
  taken_soundly answered = took.come (answered r at fork held)

  kept_by : (other : HandlerKind) → named kinds r.handler ≡ Some other → (new : Held)
      → named (world_after cs w).collections r.fork ≡ Some new
      → KeepsPending (resolve_for other r) r.side.known reply.body fork.documents new.documents
  kept_by other there new new_held =
      let t = took.taken_so in
      subst (λ (kind : HandlerKind). KeepsPending (resolve_for kind r) r.side.known reply.body
      fork.documents new.documents) (some_same (sym handler ∙ there))
      (subst (λ (new : Held). KeepsPending (resolve_for kind r) r.side.known reply.body
      fork.documents
      new.documents) (some_same (sym took.there ∙ new_held))
      (taking_keeps (resolve_for kind r) (resolves_keys kind (unwrap_or r.field [])) fork.documents
      r.side.known (by_key_at w made r.fork fork held) r.side.up r.side.down asked.request.ask
      reply.body
      t.of.taken took.new.documents ((due r at fork held).current t.unmoved) t.of.is took.wrote))

  pub taken_keeps : KeepsPendingIn w kinds name reply cs
  taken_keeps =
      for_fork w name r fork (λ r fork. (kind : HandlerKind) → named kinds r.handler ≡ Some kind
      → (new : Held) → named (world_after cs w).collections r.fork ≡ Some new
      → KeepsPending (resolve_for kind r) r.side.known reply.body fork.documents new.documents)
      at held kept_by

  pub taken_pulled : PullLeavesNone w name cs (Some (taken_as asked.request.ask reply.body))
  taken_pulled =
      let here = due r at fork held in
      let fits = lawful r at fork held in
      taken_leaves_none w made name r fork held kind now asked reply here fits cs
      (leaves_reply w made sound name r at fork held kind now asked reply here fits cs is)

-- ---- exchanges

module _ (w : World) (name : List ℕ) (kinds : Kinds) (ready : IsReady w name kinds) where
  -- a reply that is taken
  pub taken_shown : (asked : Asked) (reply : Reply) (now : ℕ) (entry : Option Record)
      → ForSome (taken w kinds name asked reply now) (λ due. due ≡ Ok (record_in entry))
      → Some (record_in entry) ≡ if_taken (taken w kinds name asked reply now)
  taken_shown asked reply now entry due =
      let e : HasEnds w name ready.here.replication ready.here.master = ends_of w name kinds
      ready in
      let at = taken_is w kinds name asked reply now ready.here.replication e.fork ready.kind
      ready.here.held e.held ready.handler in
      let is = due (taken_by name now asked reply ready.here.replication e.fork ready.kind) at in
      sym (ap if_taken at ∙ ap (λ (o : Result (List Content) TakeFault). if_taken (Some o)) is)

  module _ (asked : Asked) (has : IsAskedIn w name asked) (now : ℕ) where
    pub asked_due : IsDueIn w name asked
    asked_due =
        let e : HasEnds w name ready.here.replication ready.here.master = ends_of w name kinds
        ready in
        for_fork w name ready.here.replication e.fork (λ r fork. IsDueOf r fork asked)
        ready.here.held
        e.held (due_here w name kinds ready now has.0 has.1 has.2 asked has.3)

    pub asked_lawful : IsLawfulIn w name asked.request
    asked_lawful = λ r at fork held. (asked_due r at fork held).lawful

    pub handled_reply : (h : Handled) → handled_for w name asked.request now ≡ Some h
        → IsLawfulReplyIn w name h.reply
    handled_reply h is =
        let e : HasEnds w name ready.here.replication ready.here.master = ends_of w name kinds
        ready in
        let lawful = (due_here w name kinds ready now has.0 has.1 has.2 asked has.3).lawful in
        for_fork w name ready.here.replication e.fork (λ r fork. IsLawfulReply fork.schema h.reply)
        ready.here.held e.held
        (reply_is_lawful w name kinds ready now has.0 has.1 has.2 asked has.3 h
        (handled_well w name kinds ready now asked.request h lawful is))

    -- the fork takes a reply before the master's record as behind it
    pub taken_before : (h : Handled) → handled_for w name asked.request now ≡ Some h
        → taken (world_after h.records w) kinds name asked h.reply now
        ≡ taken w kinds name asked h.reply now
    taken_before h is =
        let e : HasEnds w name ready.here.replication ready.here.master = ends_of w name kinds
        ready in
        let lawful = (due_here w name kinds ready now has.0 has.1 has.2 asked has.3).lawful in
        let hh = handled_well w name kinds ready now asked.request h lawful is in
        let r = ready.here.replication in
        taken_is (world_after h.records w) kinds name asked h.reply now r e.fork ready.kind
        (replication_then w name kinds ready now has.0 has.1 has.2 asked has.3 h hh)
        (fork_then w name kinds ready now has.0 has.1 has.2 asked has.3 h hh) ready.handler
        ∙ sym (taken_is w kinds name asked h.reply now r e.fork ready.kind ready.here.held e.held
        ready.handler)

    pub handled_then_taken : (h : Handled) → handled_for w name asked.request now ≡ Some h
        → handled_and_taken (record { name = name; now = now; kinds = kinds }) asked w
        ≡ behind h.records (when_taken asked.request.ask h.reply.body
        (if_taken (taken w kinds name asked h.reply now)))
    handled_then_taken h is =
        ap (once_handled (reply_taken (record { name = name; now = now; kinds = kinds }) asked) w)
        is
        ∙ ap (λ (o : Option (Result (List Content) TakeFault)).
        behind h.records (when_taken asked.request.ask h.reply.body (if_taken o))) (taken_before h
        is)

    pub exchange_soundly : (x : Happening) (p : Planned)
        → exchange (record { name = name; now = now; kinds = kinds }) asked x w ≡ planned_of p
        → ComeSoundly w (map content p.records.items)
    exchange_soundly x p is =
        let well = exchange_well (record { name = name; now = now; kinds = kinds }) w ready has.0
        has.1
        has.2 asked has.3 x in
        subst (λ q. ComeSoundly w q.records) is well.come

    pub exchange_pulled : (x : Happening) (p : Planned)
        → exchange (record { name = name; now = now; kinds = kinds }) asked x w ≡ planned_of p
        → PullLeavesNone w name (map content p.records.items) p.came
    exchange_pulled x p is =
        let well = exchange_well (record { name = name; now = now; kinds = kinds }) w ready has.0
        has.1
        has.2 asked has.3 x in
        subst (λ q. PullLeavesNone w name q.records q.came) is well.pulled
