-- What the link does to a request that was made is a list of steps.
use Rattle.std.proofs.Common.{◌≡◌, ◌∙◌, ℕ, ◌≤◌, true, ◌&&◌, ◌==◌, List, [], ◌∷◌, Option, Some, None, IfSome, Result, Ok, Err, IfOk, slice_get, take, refl, sym, ap, subst, eq-eqb}
use Rattle.std.specs.List.{AllByRecursion}
use Rattle.rx_value.specs.Named.{named}
use Rattle.rx_value.specs.declared.state.State.{State}
use Rattle.rx_value.proofs.Outcomes.{some_same}
use Rattle.rx_schema.specs.declared.shape.Shape.{Shape}
use Rattle.rx_document.specs.declared.place.Place.{Place}
use Rattle.rx_collection.specs.Held.{Held}
use Rattle.rx_collection.specs.Time.{last_lwt}
use Rattle.rx_handler.specs.Handlers.{Kinds}
use Rattle.rx_wire.specs.declared.message.AskKind.{AskKind}
use Rattle.rx_wire.specs.declared.message.AskKind.TheVariants.{Push, Pull}
use Rattle.rx_wire.specs.declared.message.Reply.{Reply}
use Rattle.rx_wire.specs.declared.message.Request.{Request}
use Rattle.rx_replication.specs.Known.{KnownStates, with_learnt}
use Rattle.rx_replication.specs.Master.{body_of, master_then, reply_with, writes}
use Rattle.rx_replication.specs.Request.{IsCurrent}
use Rattle.rx_replication.specs.Steps.{System, MadeReply, Step, is_awaited, system_after, with_reply, with_taking}
use Rattle.rx_replication.specs.Steps.Step.{Handle, Arrive}
use Rattle.rx_replication.specs.Taking.{Resolve, Taking, taking}
use Rattle.rx_replication.specs.Write.{write, AreByKey}
use Rattle.rx_replication.proofs.Commits.{lawful-by_key, write_wrote}
use Rattle.rx_fork.specs.declared.ask.Asked.{Asked}
use Rattle.rx_record.specs.Content.{Content}
use Rattle.rx_reply.specs.declared.turn.Exchanged.{Exchanged}
use Rattle.rx_reply.specs.declared.turn.Lost.{Lost}
use Rattle.rx_reply.specs.declared.turn.Lost.TheVariants as lost
use Rattle.rx_script.specs.declared.happening.Happening.{Happening}
use Rattle.rx_script.specs.declared.happening.Happening.TheVariants as link
use Rattle.rx_sync.specs.Asking.{asked_in}
use Rattle.rx_sync.specs.Asks.{Asks}
use Rattle.rx_sync.specs.Exchange.{Terms, Planned, behind, comes_to, exchange, if_taken, lost_by, once_handled, reply_lost, reply_taken, taken_as, when_taken, world_after}
use Rattle.rx_sync.specs.Handling.{Handled, handled_for}
use Rattle.rx_sync.specs.Laws.{IsReady}
use Rattle.rx_sync.specs.Taking.{resolve_for, taken, taken_by}
use Rattle.rx_sync.specs.declared.fault.TakeFault.{TakeFault}
use Rattle.rx_sync.proofs.Apart.{each_taken}
use Rattle.rx_sync.proofs.Ends.{HasEnds, ends_of}
use Rattle.rx_sync.proofs.Exchanges.{HasHandled, taken_is}
use Rattle.rx_sync.proofs.Going.{current_here, due_here, fork_then, handled_well, leaves_here, replication_then}
use Rattle.rx_sync.proofs.Leaves.{LeavesReply, with_side}
use Rattle.rx_sync.proofs.Repeats.{twice_is_once}
use Rattle.rx_sync.proofs.Twice.{nothing_again}
use Rattle.rx_world.specs.World.{World, Replications}
use Rattle.rx_world.specs.declared.replication.Replication.{Replication}
use Rattle.rx_steps.specs.Exchanging.{answer_steps}
use Rattle.rx_steps.specs.Shows.{of_schema}
use Rattle.rx_steps.proofs.Going.{Goes, KeepsEpoch, epoch_stays, goes_behind, goes_end, goes_on, goes_stop}
use Rattle.rx_steps.proofs.Shown.{IsRest, shows_of}
use Rattle.rx_steps.proofs.Standing.{IsShown}
use Rattle.rx_steps.proofs.Systems.{Wrote, arrived_step, handled_step, then-of_schema, wrote_of, write-of_schema}

-- the request is the open one, and the newest of those that may be handled
pub record Waits (asked : Asked) (s : System) : Type 0 where
  pub waits : s.waiting ≡ Some (record { request = asked.request; lwt = asked.lwt })
  pub newest : slice_get (take s.since s.requests) 0 ≡ Some asked.request

-- ---- a request is handled

module _ (w : World) (name : List ℕ) (kinds : Kinds) (ready : IsReady w name kinds) (now : ℕ)
    (a : Asks) (z : Shape) (s : System)
    (x : IsShown w name ready.here.replication ready.here.master z s) (rest : IsRest a w s)
    (q : Request) (h : Handled)
    (hh : HasHandled w ready.here.master (ends_of w name kinds ready).master now q h) where
  abbrev e : HasEnds w name ready.here.replication ready.here.master
  e = ends_of w name kinds ready

  pub master_written : Wrote z (master_then s.master q.ask now) hh.leaves.new
  master_written =
      let same : e.master ≡ of_schema z s.master = some_same (sym e.there ∙ x.master) in
      wrote_of z (master_then s.master q.ask now) (master_then (of_schema z s.master) q.ask now)
      hh.leaves.new (then-of_schema z s.master q.ask now)
      (ap (λ (c : Held). master_then c q.ask now) (sym same) ∙ hh.leaves.is)

  -- the system then
  abbrev pub handled_so : System
  handled_so = with_reply s q (Some master_written.new)

  pub handled_shown : IsShown (world_after h.records w) name ready.here.replication
      ready.here.master z handled_so
  handled_shown = record {
    held = ap (λ (rs : Replications). named rs name) hh.leaves.replications ∙ x.held;
    local = x.local;
    fork =
        hh.leaves.others ready.here.replication.fork (λ same. e.other (sym same)) ∙ x.fork;
    master = hh.leaves.there ∙ ap Some (sym master_written.shown);
    known = x.known;
    up = x.up;
    down = x.down;
  }

  pub handled_rest : IsRest a (world_after h.records w) handled_so
  handled_rest = record {
    epoch = rest.epoch ∙ sym hh.leaves.epoch;
    n = rest.n;
    remembered = rest.remembered;
    requests = rest.requests;
  }

  pub reply_made : h.reply ≡ reply_with q (body_of s.master.documents q.ask)
  reply_made =
      let same : e.master ≡ of_schema z s.master = some_same (sym e.there ∙ x.master) in
      hh.reply ∙ ap (λ (c : Held). reply_with q (body_of c.documents q.ask)) same

  pub handled_to : (by : Resolve) (j : ℕ) → slice_get (take s.since s.requests) j ≡ Some q
      → system_after by s (Handle j now) ≡ handled_so
  handled_to by j at = handled_step by s j now q master_written.new at master_written.is

-- ---- its reply arrives

awaited_so : (a b c d e f : ℕ) → a ≡ b → c ≡ d → e ≡ f → (a == b && c == d && e == f) ≡ true
awaited_so a b c d e f p q r = λ i. eq-eqb a b p i && eq-eqb c d q i && eq-eqb e f r i

module _ (w : World) (name : List ℕ) (kinds : Kinds) (ready : IsReady w name kinds)
    (now n batch : ℕ) (some : 1 ≤ batch) (asked : Asked)
    (is : asked_in w name n batch ≡ Some asked) (h : Handled)
    (hh : HasHandled w ready.here.master (ends_of w name kinds ready).master now asked.request h)
    (a : Asks) (z : Shape) (s : System)
    (x : IsShown (world_after h.records w) name ready.here.replication ready.here.master z s)
    (rest : IsRest a (world_after h.records w) s) (waits : Waits asked s) (i : ℕ) (made : MadeReply)
    (at : slice_get s.replies i ≡ Some made) (same : made.reply ≡ h.reply) where
  abbrev r : Replication
  r = ready.here.replication

  abbrev fork_here : Held
  fork_here = (ends_of w name kinds ready).fork

  abbrev by : Resolve
  by = resolve_for ready.kind ready.here.replication

  abbrev then : World
  then = world_after h.records w

  fork_is : fork_here ≡ of_schema z s.fork
  fork_is =
      some_same (sym (fork_then w name kinds ready now n batch some asked is h hh) ∙ x.fork)

  epoch_is : (o : Option (Result (List Content) TakeFault)) (cs : List Content)
      → taken then kinds name asked h.reply now ≡ o → o ≡ Some (Ok cs)
      → (world_after cs then).epoch ≡ then.epoch
  epoch_is o cs at' is' =
      epoch_stays cs then
      (subst (λ (o : Option (Result (List Content) TakeFault)).
      IfSome o (λ x. IfOk x (AllByRecursion KeepsEpoch))) (at' ∙ is')
      (each_taken KeepsEpoch name (λ lwt written known up down k. refl) then kinds asked h.reply
      now))

  module _ (cs : List Content)
      (lr : LeavesReply then name r fork_here ready.kind asked h.reply now cs)
      (keeps : (world_after cs then).epoch ≡ then.epoch) where
    abbrev tk : Taking
    tk = lr.taken_so.of.taken

    written : Wrote z (write s.fork tk.rows now) lr.leaves.new
    written =
        wrote_of z (write s.fork tk.rows now) (write (of_schema z s.fork) tk.rows now)
        lr.leaves.new (write-of_schema z s.fork tk.rows now)
        (ap (λ (c : Held). write c tk.rows now) (sym fork_is) ∙ lr.leaves.wrote)

    abbrev arrived_so : System
    arrived_so = with_taking s tk (Some written.new)

    arrived_shown : IsShown (world_after cs then) name
        (with_side r (with_learnt r.side.known tk.known) tk.up tk.down) ready.here.master z
        arrived_so
    arrived_shown = record {
      held = lr.leaves.learnt;
      local = ready.here.local;
      fork = lr.leaves.there ∙ ap Some (sym written.shown);
      master =
          lr.leaves.others ready.here.master (ends_of w name kinds ready).other ∙ x.master;
      known = ap (λ (k : KnownStates). with_learnt k tk.known) x.known;
      up = refl;
      down = refl;
    }

    arrived_rest : IsRest a (world_after cs then) arrived_so
    arrived_rest = record {
      epoch = rest.epoch ∙ sym keeps;
      n = rest.n;
      remembered = rest.remembered;
      requests = rest.requests;
    }

    is_due : is_awaited s (record { request = asked.request; lwt = asked.lwt }) made.reply ≡ true
    is_due =
        awaited_so made.reply.epoch asked.request.epoch made.reply.n asked.request.n
        (last_lwt s.fork.documents) asked.lwt
        (ap (λ (y : Reply). y.epoch) (same ∙ hh.reply)) (ap (λ (y : Reply). y.n) (same ∙ hh.reply))
        (ap (λ (c : Held). last_lwt c.documents) (sym fork_is) ∙ lr.taken_so.unmoved)

    taking_is : taking by s.fork.documents s.up s.down asked.request.ask made.reply.body ≡ Some tk
    taking_is =
        ap (λ (c : Held). taking by c.documents s.up s.down asked.request.ask made.reply.body)
        (sym fork_is)
        ∙ ap (λ (p : Option Place). taking by fork_here.documents p s.down asked.request.ask
        made.reply.body) (sym x.up)
        ∙ ap (λ (p : Option Place). taking by fork_here.documents r.side.up p asked.request.ask
        made.reply.body) (sym x.down)
        ∙ ap (λ (y : Reply). taking by fork_here.documents r.side.up r.side.down asked.request.ask
        y.body) same
        ∙ lr.taken_so.of.is

    arrived_goes : (o : Option Exchanged) → Goes by s a (world_after cs then) name
        (Arrive i now ∷ []) o
    arrived_goes o =
        goes_on by a (world_after cs then) name s arrived_so [] o (Arrive i now) tt
        (arrived_step by s i now (record { request = asked.request; lwt = asked.lwt }) made tk
        written.new waits.waits at is_due taking_is written.is)
        (goes_end by a (world_after cs then) name arrived_so o
        (shows_of a (world_after cs then) name
        (with_side r (with_learnt r.side.known tk.known) tk.up tk.down) ready.here.master z
        arrived_so arrived_shown arrived_rest))

  reply_by : (o : Result (List Content) TakeFault)
      → taken_by name now asked h.reply r fork_here ready.kind ≡ o
      → taken then kinds name asked h.reply now ≡ Some o
      → Goes by s a
      (world_after (when_taken asked.request.ask h.reply.body (if_taken (Some o))).records then)
      name (Arrive i now ∷ []) (when_taken asked.request.ask h.reply.body (if_taken (Some o))).came
  reply_by (Ok cs) at' is' =
      goes_behind by s a then name (Arrive i now ∷ []) cs
      (comes_to (taken_as asked.request.ask h.reply.body))
      (arrived_goes cs (leaves_here w name kinds ready now n batch some asked is h hh cs at')
      (epoch_is (taken then kinds name asked h.reply now) cs refl is')
      (Some (taken_as asked.request.ask h.reply.body)))
  reply_by (Err fault) at' is' =
      goes_stop by a then name s (Arrive i now ∷ [])
      (shows_of a then name r ready.here.master z s x rest)

  pub reply_goes : Goes by s a
      (world_after (reply_taken (record { name = name; now = now; kinds = kinds }) asked h
      then).records then) name (Arrive i now ∷ [])
      (reply_taken (record { name = name; now = now; kinds = kinds }) asked h then).came
  reply_goes =
      let there : taken then kinds name asked h.reply now
      ≡ Some (taken_by name now asked h.reply r fork_here ready.kind) =
      taken_is then kinds name asked h.reply now r fork_here ready.kind
      (replication_then w name kinds ready now n batch some asked is h hh)
      (fork_then w name kinds ready now n batch some asked is h hh) ready.handler in
      subst (λ (o : Option (Result (List Content) TakeFault)). Goes by s a
      (world_after (when_taken asked.request.ask h.reply.body (if_taken o)).records then) name
      (Arrive i now ∷ []) (when_taken asked.request.ask h.reply.body (if_taken o)).came) (sym there)
      (reply_by (taken_by name now asked h.reply r fork_here ready.kind) refl there)

-- ---- a master that is asked again

-- writes nothing
again_same : (fork c new : Held) (known : KnownStates) (down : Option Place) (now : ℕ)
    (ask : AskKind) → AreByKey fork.documents → AreByKey c.documents
    → IsCurrent fork.documents known down ask → master_then c ask now ≡ Some new
    → (x : Held) → x.documents ≡ new.documents → master_then x ask now ≡ Some x
again_same fork c new known down now (Push rows) fork_by_key by_key current is x same =
    let none : writes x.documents rows ≡ [] =
    ap (λ documents. writes documents rows) same
    ∙ nothing_again fork.documents known down fork_by_key rows current c.documents by_key
    new.documents (write_wrote c (writes c.documents rows) now new is) in
    ap (λ (ss : List State). write x ss now) none
again_same fork c new known down now (Pull p b) fork_by_key by_key current is x same = refl

-- ---- all that the link may do

module _ (w : World) (name : List ℕ) (kinds : Kinds) (ready : IsReady w name kinds)
    (now n batch : ℕ) (some : 1 ≤ batch) (asked : Asked)
    (is : asked_in w name n batch ≡ Some asked) (a : Asks) (z : Shape) (s : System)
    (x : IsShown w name ready.here.replication ready.here.master z s) (rest : IsRest a w s)
    (waits : Waits asked s) where
  abbrev terms : Terms
  terms = record { name = name; now = now; kinds = kinds }

  abbrev here : Resolve
  here = resolve_for ready.kind ready.here.replication

  goes_none : (all : List Step) → Goes here s a w name all None
  goes_none all =
      goes_stop here a w name s all
      (shows_of a w name ready.here.replication ready.here.master z s x rest)

  module _ (h : Handled) (at : handled_for w name asked.request now ≡ Some h) where
    hh : HasHandled w ready.here.master (ends_of w name kinds ready).master now asked.request h
    hh =
        handled_well w name kinds ready now asked.request h
        (due_here w name kinds ready now n batch some asked is).lawful at

    abbrev next : System
    next = handled_so w name kinds ready now a z s x rest asked.request h hh

    to_next : system_after here s (Handle 0 now) ≡ next
    to_next =
        handled_to w name kinds ready now a z s x rest asked.request h hh here 0 waits.newest

    next_shown : IsShown (world_after h.records w) name ready.here.replication ready.here.master z
        next
    next_shown = handled_shown w name kinds ready now a z s x rest asked.request h hh

    next_rest : IsRest a (world_after h.records w) next
    next_rest = handled_rest w name kinds ready now a z s x rest asked.request h hh

    next_waits : Waits asked next
    next_waits = record { waits = waits.waits; newest = waits.newest }

    reply_is : reply_with asked.request (body_of s.master.documents asked.request.ask) ≡ h.reply
    reply_is = sym (reply_made w name kinds ready now a z s x rest asked.request h hh)

    abbrev made : MadeReply
    made = record {
      reply = reply_with asked.request (body_of s.master.documents asked.request.ask);
      master = next.master;
    }

    -- a step that leads there, and what follows
    once : (all : List Step) (p : Planned)
        → Goes here next a (world_after p.records (world_after h.records w)) name all p.came
        → Goes here s a (world_after (behind h.records p).records w) name (Handle 0 now ∷ all)
        (behind h.records p).came
    once all p g =
        goes_behind here s a w name (Handle 0 now ∷ all) h.records p
        (goes_on here a (world_after p.records (world_after h.records w)) name s next all p.came
        (Handle 0 now) tt to_next g)

    once_taken : Goes here s a
        (world_after (behind h.records (reply_taken terms asked h
        (world_after h.records w))).records w) name (Handle 0 now ∷ Arrive 0 now ∷ [])
        (reply_taken terms asked h (world_after h.records w)).came
    once_taken =
        once (Arrive 0 now ∷ []) (reply_taken terms asked h (world_after h.records w))
        (reply_goes w name kinds ready now n batch some asked is h hh a z next next_shown next_rest
        next_waits 0 made refl reply_is)

    once_lost : (why : Lost) → Goes here s a
        (world_after (behind h.records (comes_to (lost_by why asked.request.ask))).records w) name
        (Handle 0 now ∷ []) (Some (lost_by why asked.request.ask))
    once_lost why =
        once [] (comes_to (lost_by why asked.request.ask))
        (goes_end here a (world_after h.records w) name next
        (Some (lost_by why asked.request.ask))
        (shows_of a (world_after h.records w) name ready.here.replication ready.here.master z next
        next_shown next_rest))

    -- the request is handled again
    abbrev again : System
    again = with_reply next asked.request (Some next.master)

    to_again : system_after here next (Handle 0 now) ≡ again
    to_again =
        let e = ends_of w name kinds ready in
        handled_step here next 0 now asked.request next.master waits.newest
        (again_same e.fork e.master hh.leaves.new ready.here.replication.side.known
        ready.here.replication.side.down now asked.request.ask
        (lawful-by_key e.fork e.fork_lawful) (lawful-by_key e.master e.lawful)
        (current_here w name kinds ready now n batch some asked is) hh.leaves.is next.master
        (ap (λ (c : Held). c.documents)
        (master_written w name kinds ready now a z s x rest asked.request h hh).shown))

    again_shown : IsShown (world_after h.records w) name ready.here.replication ready.here.master z
        again
    again_shown = record {
      held = next_shown.held;
      local = next_shown.local;
      fork = next_shown.fork;
      master = next_shown.master;
      known = next_shown.known;
      up = next_shown.up;
      down = next_shown.down;
    }

    again_rest : IsRest a (world_after h.records w) again
    again_rest = record {
      epoch = next_rest.epoch;
      n = next_rest.n;
      remembered = next_rest.remembered;
      requests = next_rest.requests;
    }

    twice_taken : Goes here s a
        (world_after (behind h.records (reply_taken terms asked h
        (world_after h.records w))).records w) name
        (Handle 0 now ∷ Handle 0 now ∷ Arrive 1 now ∷ [])
        (reply_taken terms asked h (world_after h.records w)).came
    twice_taken =
        let p : Planned = reply_taken terms asked h (world_after h.records w) in
        once (Handle 0 now ∷ Arrive 1 now ∷ []) p
        (goes_on here a (world_after p.records (world_after h.records w)) name next again
        (Arrive 1 now ∷ []) p.came (Handle 0 now) tt to_again
        (reply_goes w name kinds ready now n batch some asked is h hh a z again again_shown
        again_rest (record { waits = waits.waits; newest = waits.newest }) 1 made refl reply_is))

  ok_by : (o : Option Handled) → handled_for w name asked.request now ≡ o
      → Goes here s a (world_after (once_handled (reply_taken terms asked) w o).records w) name
      (Handle 0 now ∷ Arrive 0 now ∷ []) (once_handled (reply_taken terms asked) w o).came
  ok_by None at = goes_none (Handle 0 now ∷ Arrive 0 now ∷ [])
  ok_by (Some h) at = once_taken h at

  twice_by : (o : Option Handled) → handled_for w name asked.request now ≡ o
      → Goes here s a (world_after (once_handled (reply_taken terms asked) w o).records w) name
      (Handle 0 now ∷ Handle 0 now ∷ Arrive 1 now ∷ [])
      (once_handled (reply_taken terms asked) w o).came
  twice_by None at = goes_none (Handle 0 now ∷ Handle 0 now ∷ Arrive 1 now ∷ [])
  twice_by (Some h) at = twice_taken h at

  lost_goes : (why : Lost) (o : Option Handled) → handled_for w name asked.request now ≡ o
      → Goes here s a (world_after (once_handled (reply_lost why asked) w o).records w) name
      (Handle 0 now ∷ []) (once_handled (reply_lost why asked) w o).came
  lost_goes why None at = goes_none (Handle 0 now ∷ [])
  lost_goes why (Some h) at = once_lost h at why

  pub answer_goes : (y : Happening) → Goes here s a
      (world_after (exchange terms asked y w).records w) name (answer_steps now y)
      (exchange terms asked y w).came
  answer_goes link.Ok = ok_by (handled_for w name asked.request now) refl
  answer_goes (link.Late j) = ok_by (handled_for w name asked.request now) refl
  answer_goes link.LoseRequest =
      goes_end here a w name s (Some (lost_by lost.LoseRequest asked.request.ask))
      (shows_of a w name ready.here.replication ready.here.master z s x rest)
  answer_goes link.LoseReply =
      lost_goes lost.LoseReply (handled_for w name asked.request now) refl
  answer_goes link.Stale = lost_goes lost.Stale (handled_for w name asked.request now) refl
  answer_goes link.Twice =
      subst (λ (p : Planned). Goes here s a (world_after p.records w) name
      (answer_steps now link.Twice) p.came)
      (sym (twice_is_once terms w ready asked (n, batch, some, is)))
      (twice_by (handled_for w name asked.request now) refl)
