-- An exchange to which the link does nothing is one of the fork and the master.
use Rattle.std.proofs.Common.{◌≡◌, ◌∙◌, ℕ, ◌≤◌, List, [], ◌++◌, Option, Some, None, Result, Ok, Err, unwrap_or, refl, sym, ap, subst}
use Rattle.rx_value.specs.Due.{◌>>=◌}
use Rattle.rx_value.specs.Named.{named}
use Rattle.rx_value.proofs.Outcomes.{some_same, not_none}
use Rattle.rx_collection.specs.Held.{Held}
use Rattle.rx_handler.specs.Handlers.{Kinds}
use Rattle.rx_handler.specs.Resolve.{resolve}
use Rattle.rx_handler.specs.declared.kind.HandlerKind.{HandlerKind}
use Rattle.rx_wire.specs.declared.message.AskKind.{AskKind}
use Rattle.rx_wire.specs.declared.message.Reply.{Reply}
use Rattle.rx_replication.specs.Known.{with_learnt}
use Rattle.rx_replication.specs.Exchange.{Link, Exchange, IsLink, answered_by, asked, exchange_over_link, link_with, link_after_taking as taken_into}
use Rattle.rx_replication.specs.Master.{body_of, master_then}
use Rattle.rx_replication.specs.Request.{ask_of}
use Rattle.rx_replication.specs.Taking.{KeepsKey, Resolve, Taking, taking}
use Rattle.rx_replication.proofs.Commits.{lawful-by_key}
use Rattle.rx_fork.specs.declared.ask.Asked.{Asked}
use Rattle.rx_fork.proofs.Validity.{resolves_keys}
use Rattle.rx_record.specs.Content.{Content}
use Rattle.rx_record.specs.declared.record.MasterName.{MasterName}
use Rattle.rx_record.specs.declared.record.MasterName.TheVariants.{Local}
use Rattle.rx_reply.specs.declared.turn.Exchanged.{Exchanged}
use Rattle.rx_script.specs.declared.happening.Happening.{Happening}
use Rattle.rx_script.specs.declared.happening.Happening.TheVariants as happening
use Rattle.rx_world.specs.World.{World}
use Rattle.rx_world.specs.declared.replication.Replication.{Replication}
use Rattle.rx_sync.specs.Asking.{asked_in, fork_in}
use Rattle.rx_sync.specs.Asks.{Asks, next_number}
use Rattle.rx_sync.specs.Bound.{link_in, link_of}
use Rattle.rx_sync.specs.Exchange.{Course, Planned, Terms, world_after, behind, comes_to, course, course_by, handled_and_taken, if_taken, once_handled, reply_taken, taken_as, when_taken}
use Rattle.rx_sync.specs.Handling.{Handled, handled_for, local_name}
use Rattle.rx_sync.specs.Laws.{IsReady}
use Rattle.rx_sync.specs.Taking.{resolve_for, taken_by}
use Rattle.rx_sync.specs.declared.fault.TakeFault.{TakeFault}
use Rattle.rx_sync.proofs.Ends.{HasEnds, ends_of}
use Rattle.rx_sync.proofs.Exchanges.{HasHandled, taken_is}
use Rattle.rx_sync.proofs.Going.{asked_is, due_here, fork_then, handled_well, leaves_here, replication_then, taken_goes_well}
use Rattle.rx_sync.proofs.Leaves.{LeavesReply, with_side}
use Rattle.rx_sync.proofs.Staying.{ready_after}
use Rattle.rx_sync.proofs.Worlds.{after-append}

-- ---- the link of a replication

pub link_at : (w : World) (name : List ℕ) (r : Replication) (m : List ℕ) (fork master : Held)
    → named w.replications name ≡ Some r → r.master ≡ Local m
    → named w.collections r.fork ≡ Some fork → named w.collections m ≡ Some master
    → link_in w name ≡ Some (link_of r fork master)
link_at w name r m fork master at local held there =
    ap (λ (o : Option Replication). o >>= λ r. fork_in w r >>= λ fork. local_name r.master
    >>= λ at. named w.collections at >>= λ master. Some (link_of r fork master)) at
    ∙ ap (λ (o : Option Held). o >>= λ fork. local_name r.master >>= λ at. named w.collections at
    >>= λ master. Some (link_of r fork master)) held
    ∙ ap (λ (n : MasterName). local_name n >>= λ at. named w.collections at
    >>= λ master. Some (link_of r fork master)) local
    ∙ ap (λ (o : Option Held). o >>= λ master. Some (link_of r fork master)) there

-- exchanges may be made, by what that handler makes of conflicts, and from that link
pub record Stands (name : List ℕ) (kinds : Kinds) (by : Resolve) (w : World) (l : Link) : Type 0
  where
    pub ready : IsReady w name kinds
    pub resolves : resolve_for ready.kind ready.here.replication ≡ by
    pub is : link_in w name ≡ Some l

module _ (w : World) (name : List ℕ) (kinds : Kinds) (ready : IsReady w name kinds) where
  abbrev pub link_here : Link
  link_here =
      link_of ready.here.replication (ends_of w name kinds ready).fork
      (ends_of w name kinds ready).master

  pub link_is : link_in w name ≡ Some link_here
  link_is =
      let e = ends_of w name kinds ready in
      link_at w name ready.here.replication ready.here.master e.fork e.master ready.here.held
      ready.here.local e.held e.there

  pub stands_here : Stands name kinds (resolve_for ready.kind ready.here.replication) w link_here
  stands_here = record { ready = ready; resolves = refl; is = link_is }

  lawful_here : IsLink link_here
  lawful_here =
      let e = ends_of w name kinds ready in
      record {
        fork = lawful-by_key e.fork e.fork_lawful;
        master = lawful-by_key e.master e.lawful;
      }

module _ (w : World) (name : List ℕ) (kinds : Kinds) (by : Resolve) (l : Link)
    (s : Stands name kinds by w l) where
  same_link : link_here w name kinds s.ready ≡ l
  same_link = some_same (sym (link_is w name kinds s.ready) ∙ s.is)

  pub is_link : IsLink l
  is_link = subst IsLink same_link (lawful_here w name kinds s.ready)

  pub keeps_key : KeepsKey by
  keeps_key =
      subst KeepsKey s.resolves
      (resolves_keys s.ready.kind (unwrap_or s.ready.here.replication.field []))

-- ---- an exchange

abbrev pub at_once : ℕ → ℕ → Exchange
at_once batch now = record { batch = batch; handled = now; taken = now }

-- it is one of the link, and the replication keeps its handler and its field
pub record IsStep (w : World) (name : List ℕ) (r : Replication) (by : Resolve) (l : Link)
    (batch now : ℕ) (p : Planned) (e : Exchanged) : Type 0 where
  pub next : Link
  pub step : exchange_over_link by l (at_once batch now) ≡ Some next
  pub there : link_in (world_after p.records w) name ≡ Some next
  pub replication : Replication
  pub held : named (world_after p.records w).replications name ≡ Some replication
  pub handler : replication.handler ≡ r.handler
  pub field : replication.field ≡ r.field
  pub came : e ≡ taken_as (asked l batch) (body_of l.master.documents (asked l batch))

module _ (w : World) (name : List ℕ) (kinds : Kinds) (ready : IsReady w name kinds)
    (now n batch : ℕ) (some : 1 ≤ batch) (asked : Asked)
    (is : asked_in w name n batch ≡ Some asked) where
  abbrev r : Replication
  r = ready.here.replication

  abbrev e : HasEnds w name ready.here.replication ready.here.master
  e = ends_of w name kinds ready

  abbrev by : Resolve
  by = resolve_for ready.kind ready.here.replication

  abbrev l : Link
  l = link_here w name kinds ready

  ask_is : asked.request.ask ≡ ask_of l.fork.documents l.known l.down batch
  ask_is =
      ap (λ (a : Asked). a.request.ask)
      (sym (asked_is w name kinds ready now n batch some asked is))

  module _ (h : Handled) (hh : HasHandled w ready.here.master e.master now asked.request h)
      (cs : List Content)
      (lr : LeavesReply (world_after h.records w) name r e.fork ready.kind asked h.reply now cs)
    where
      abbrev tk : Taking
      tk = lr.taken_so.of.taken

      abbrev next : Link
      next = record {
        fork = lr.leaves.new;
        master = hh.leaves.new;
        known = with_learnt r.side.known tk.known;
        up = tk.up;
        down = tk.down;
      }

      body_is : h.reply.body ≡ body_of e.master.documents asked.request.ask
      body_is = ap (λ (r : Reply). r.body) hh.reply

      step_is : exchange_over_link by l (at_once batch now) ≡ Some next
      step_is =
          subst (λ (a : AskKind). answered_by by l a (master_then l.master a now) now ≡ Some next)
          ask_is
          (ap (λ (o : Option Held). answered_by by l asked.request.ask o now) hh.leaves.is
          ∙ ap (λ (o : Option Taking). taken_into l hh.leaves.new o now)
          (ap (taking by e.fork.documents r.side.up r.side.down asked.request.ask) (sym body_is)
          ∙ lr.taken_so.of.is)
          ∙ ap (link_with l hh.leaves.new tk) lr.leaves.wrote)

      same_world : world_after (h.records ++ (cs ++ [])) w
          ≡ world_after cs (world_after h.records w)
      same_world =
          after-append h.records (cs ++ []) w ∙ after-append cs [] (world_after h.records w)

      abbrev s : Replication
      s = with_side r (with_learnt r.side.known tk.known) tk.up tk.down

      is_step : (ex : Exchanged) → Some (taken_as asked.request.ask h.reply.body) ≡ Some ex
          → IsStep w name r by l batch now
          (behind h.records (behind cs (comes_to (taken_as asked.request.ask h.reply.body)))) ex
      is_step ex came = record {
        next = next;
        step = step_is;
        there = ap (λ (v : World). link_in v name) same_world
            ∙ link_at
            (world_after cs (world_after h.records w)) name s ready.here.master lr.leaves.new
            hh.leaves.new lr.leaves.learnt ready.here.local lr.leaves.there
            (lr.leaves.others ready.here.master e.other ∙ hh.leaves.there);
        replication = s;
        held = ap (λ (v : World). named v.replications name) same_world ∙ lr.leaves.learnt;
        handler = refl;
        field = refl;
        came = sym (some_same came)
            ∙ ap (taken_as asked.request.ask) body_is
            ∙ ap (λ (a : AskKind). taken_as a (body_of e.master.documents a)) ask_is;
      }

  module _ (h : Handled) (at : handled_for w name asked.request now ≡ Some h) where
    abbrev hh : HasHandled w ready.here.master e.master now asked.request h
    hh =
        handled_well w name kinds ready now asked.request h
        (due_here w name kinds ready now n batch some asked is).lawful at

    step_by : (ex : Exchanged) (o : Result (List Content) TakeFault)
        → taken_by name now asked h.reply r e.fork ready.kind ≡ o
        → (when_taken asked.request.ask h.reply.body (if_taken (Some o))).came ≡ Some ex
        → IsStep w name r by l batch now
        (behind h.records (when_taken asked.request.ask h.reply.body (if_taken (Some o)))) ex
    step_by ex (Ok cs) at' came =
        is_step h hh cs
        (leaves_here w name kinds ready now n batch some asked is h hh cs at') ex came
    step_by ex (Err fault) at' came = not_none came

    step_taken : (ex : Exchanged)
        → (reply_taken (record { name = name; now = now; kinds = kinds }) asked h
        (world_after h.records w)).came ≡ Some ex
        → IsStep w name r by l batch now
        (behind h.records (reply_taken (record { name = name; now = now; kinds = kinds }) asked h
        (world_after h.records w))) ex
    step_taken ex =
        subst (λ (o : Option (Result (List Content) TakeFault)).
        (when_taken asked.request.ask h.reply.body (if_taken o)).came ≡ Some ex
        → IsStep w name r by l batch now
        (behind h.records (when_taken asked.request.ask h.reply.body (if_taken o))) ex)
        (sym (taken_is (world_after h.records w) kinds name asked h.reply now r e.fork ready.kind
        (replication_then w name kinds ready now n batch some asked is h hh)
        (fork_then w name kinds ready now n batch some asked is h hh) ready.handler))
        (step_by ex (taken_by name now asked h.reply r e.fork ready.kind) refl)

  step_handled : (ex : Exchanged) (o : Option Handled)
      → handled_for w name asked.request now ≡ o
      → (once_handled (reply_taken (record { name = name; now = now; kinds = kinds }) asked) w
      o).came ≡ Some ex
      → IsStep w name r by l batch now
      (once_handled (reply_taken (record { name = name; now = now; kinds = kinds }) asked) w o) ex
  step_handled ex None at came = not_none came
  step_handled ex (Some h) at came = step_taken h at ex came

  pub exchange_step : (ex : Exchanged)
      → (handled_and_taken (record { name = name; now = now; kinds = kinds }) asked w).came
      ≡ Some ex
      → IsStep w name r by l batch now
      (handled_and_taken (record { name = name; now = now; kinds = kinds }) asked w) ex
  exchange_step ex came =
      step_handled ex (handled_for w name asked.request now) refl came

-- ---- with all that belongs to it

-- it is one of the link, and others may follow
pub record CourseSteps (t : Terms) (batch : ℕ) (by : Resolve) (w : World) (l : Link) (c : Course)
    (e : Exchanged) : Type 0 where
  pub next : Link
  pub step : exchange_over_link by l (at_once batch t.now) ≡ Some next
  pub stands : Stands t.name t.kinds by (world_after c.records w) next
  pub came : e ≡ taken_as (asked l batch) (body_of l.master.documents (asked l batch))

module _ (t : Terms) (batch : ℕ) (some : 1 ≤ batch) (w : World) (a : Asks)
    (ready : IsReady w t.name t.kinds) (ex : Exchanged) where
  course_is : (asked : Asked) → asked_in w t.name (next_number a) batch ≡ Some asked
      → IsStep w t.name ready.here.replication (resolve_for ready.kind ready.here.replication)
      (link_here w t.name t.kinds ready) batch t.now (handled_and_taken t asked w) ex
      → CourseSteps t batch (resolve_for ready.kind ready.here.replication) w
      (link_here w t.name t.kinds ready) (course_by t happening.Ok w a (Some asked)) ex
  course_is asked is s =
      let come = (taken_goes_well w t.name t.kinds ready t.now (next_number a) batch some asked
      is).come in
      let next : IsReady (world_after (handled_and_taken t asked w).records w) t.name t.kinds =
      ready_after (handled_and_taken t asked w).records w t.name t.kinds ready come in
      let same : next.here.replication ≡ s.replication =
      some_same (sym next.here.held ∙ s.held) in
      let same_kind : next.kind ≡ ready.kind =
      some_same (sym next.handler
      ∙ ap (named t.kinds) (ap (λ (r : Replication). r.handler) same ∙ s.handler)
      ∙ ready.handler) in
      record {
        next = s.next;
        step = s.step;
        stands = record {
          ready = next;
          resolves = ap (λ (k : HandlerKind). resolve_for k next.here.replication) same_kind
              ∙ ap (λ (f : Option (List ℕ)). resolve ready.kind (unwrap_or f []))
              (ap (λ (r : Replication). r.field) same ∙ s.field);
          is = s.there;
        };
        came = s.came;
      }

  course_by_asked : (o : Option Asked) → asked_in w t.name (next_number a) batch ≡ o
      → (course_by t happening.Ok w a o).came ≡ Some ex
      → CourseSteps t batch (resolve_for ready.kind ready.here.replication) w
      (link_here w t.name t.kinds ready) (course_by t happening.Ok w a o) ex
  course_by_asked None is came = not_none came
  course_by_asked (Some asked) is came =
      course_is asked is
      (exchange_step w t.name t.kinds ready t.now (next_number a) batch some asked is ex came)

pub course_steps : (t : Terms) (batch : ℕ) → 1 ≤ batch → (by : Resolve) (w : World) (l : Link)
    (a : Asks) → Stands t.name t.kinds by w l → (x : Happening) → x ≡ happening.Ok
    → (ex : Exchanged) → (course t batch x w a).came ≡ Some ex
    → CourseSteps t batch by w l (course t batch x w a) ex
course_steps t batch some by w l a s x ok ex =
    subst (λ (x : Happening). (course t batch x w a).came ≡ Some ex
    → CourseSteps t batch by w l (course t batch x w a) ex) (sym ok)
    (λ came. subst (λ (by : Resolve). CourseSteps t batch by w l
    (course t batch happening.Ok w a) ex) s.resolves
    (subst (λ (l : Link). CourseSteps t batch (resolve_for s.ready.kind s.ready.here.replication)
    w l (course t batch happening.Ok w a) ex)
    (same_link w t.name t.kinds by l s)
    (course_by_asked t batch some w a s.ready ex (asked_in w t.name (next_number a) batch) refl
    came)))
