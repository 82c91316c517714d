-- That what a master of the same journal does with a request is the step `Handle`.
use Rattle.std.proofs.Common.{◌≡◌, ◌∙◌, ℕ, List, [], ◌∷◌, map, Option, Some, None, option_map, refl, sym, ap, subst}
use Rattle.rx_value.proofs.Outcomes.{none_mapped, not_none, some_same}
use Rattle.rx_value.specs.declared.state.State.{State}
use Rattle.rx_schema.specs.declared.shape.Shape.{Shape}
use Rattle.rx_collection.specs.Commit.{rows_of, with_rows}
use Rattle.rx_collection.specs.Held.{Held}
use Rattle.rx_collection.specs.Time.{stamp}
use Rattle.rx_handler.specs.Handlers.{Kinds}
use Rattle.rx_record.specs.Content.{Content, rows}
use Rattle.rx_wire.specs.declared.message.AskKind.{AskKind}
use Rattle.rx_wire.specs.declared.message.AskKind.TheVariants.{Push, Pull}
use Rattle.rx_wire.specs.declared.message.Reply.{Reply}
use Rattle.rx_wire.specs.declared.message.Request.{Request}
use Rattle.rx_replication.specs.Master.{body_of, master_then, reply_with, writes}
use Rattle.rx_replication.specs.Steps.{System, system_after, with_reply}
use Rattle.rx_replication.specs.Steps.Step.{Handle}
use Rattle.rx_replication.specs.Taking.{Resolve}
use Rattle.rx_replication.specs.Write.{write}
use Rattle.rx_sync.specs.Asks.{Asks}
use Rattle.rx_sync.specs.Exchange.{world_after}
use Rattle.rx_sync.specs.Handling.{Handled, commits_of, handled_by, handled_for, written_by}
use Rattle.rx_sync.specs.Laws.{IsLawfulIn, IsReady}
use Rattle.rx_sync.proofs.Ends.{HasEnds, ends_of}
use Rattle.rx_sync.proofs.Exchanges.{handled_is}
use Rattle.rx_sync.proofs.Going.{handled_well}
use Rattle.rx_world.specs.Commit.{commit_to, out_of}
use Rattle.rx_world.specs.World.{World}
use Rattle.rx_world.specs.declared.replication.Replication.{Replication}
use Rattle.rx_steps.specs.Served.{HandlingsAreSteps, IsHandledTo, MayBeHandled, reply_of}
use Rattle.rx_steps.specs.Shows.{Shows, of_schema}
use Rattle.rx_steps.proofs.Exchanges.{handled_rest, handled_shown, handled_so, handled_to, reply_made}
use Rattle.rx_steps.proofs.Shown.{IsRest, rest_of, shown_as, shown_in, shows_of}
use Rattle.rx_steps.proofs.Standing.{IsShown}
use Rattle.rx_steps.proofs.Systems.{handled_by_step, then-of_schema}

-- ---- no write time

module _ (name : List ℕ) (now : ℕ) (c : Held) where
  none_written : (ss : List State) → written_by name now c ss ≡ None → write c ss now ≡ None
  none_written [] is = not_none (sym is)
  none_written (s ∷ ss) is =
      let no_record : commit_to name (s ∷ ss) now c ≡ None =
      none_mapped (λ (r : Content). r ∷ []) (commit_to name (s ∷ ss) now c) is in
      ap (option_map (λ lwt. with_rows c (rows_of c (s ∷ ss) lwt)))
      (none_mapped
      (λ lwt. rows name lwt (map out_of (rows_of c (s ∷ ss) lwt))) (stamp c.documents now)
      no_record)

  none_then : (ask : AskKind) → commits_of name now ask c ≡ None → master_then c ask now ≡ None
  none_then (Push changes) is = none_written (writes c.documents changes) is
  none_then (Pull place batch) is = not_none (sym is)

  none_handled : (q : Request) → handled_by name now q c ≡ None → master_then c q.ask now ≡ None
  none_handled q is =
      none_then q.ask
      (none_mapped (λ (records : List Content). record {
        records = records;
        reply = reply_with q (body_of c.documents q.ask);
      }) (commits_of name now q.ask c) is)

-- ---- the law

module _ (w : World) (a : Asks) (name : List ℕ) (kinds : Kinds) (by : Resolve) (s : System)
    (which now : ℕ) (q : Request) (ready : IsReady w name kinds) (lawful : IsLawfulIn w name q)
    (shows : Shows a w name s) (at : MayBeHandled s which q) where
  abbrev r : Replication
  r = ready.here.replication

  abbrev m : List ℕ
  m = ready.here.master

  abbrev e : HasEnds w name r m
  e = ends_of w name kinds ready

  abbrev z : Shape
  z = shows.schema

  x : IsShown w name r m z s
  x =
      shown_as w name z s (shown_in w name z s shows.link) r m ready.here.held ready.here.local

  rest : IsRest a w s
  rest = rest_of a w name s shows

  stays : handled_for w name q now ≡ None → system_after by s (Handle which now) ≡ s
  stays is =
      let same : e.master ≡ of_schema z s.master = some_same (sym e.there ∙ x.master) in
      let none : master_then (of_schema z s.master) q.ask now ≡ None =
      ap (λ (c : Held). master_then c q.ask now) (sym same)
      ∙ none_handled m now e.master q
      (sym (handled_is w name q now r m e.master ready.here.held ready.here.local e.there) ∙ is)
      in
      handled_by_step by s which now q at
      ∙ ap (with_reply s q)
      (none_mapped (of_schema z) (master_then s.master q.ask now)
      (sym (then-of_schema z s.master q.ask now) ∙ none))

  goes : (h : Handled) → handled_for w name q now ≡ Some h
      → IsHandledTo a w name s (system_after by s (Handle which now)) (Some h)
  goes h is =
      let hh = handled_well w name kinds ready now q h (lawful r ready.here.held e.fork e.held) is
      in
      let next : System = handled_so w name kinds ready now a z s x rest q h hh in
      subst (λ (t : System). IsHandledTo a w name s t (Some h))
      (sym (handled_to w name kinds ready now a z s x rest q h hh by which at)) (
        shows_of a (world_after h.records w) name r m z next
            (handled_shown w name kinds ready now a z s x rest q h hh)
            (handled_rest w name kinds ready now a z s x rest q h hh),
        ap (λ (reply : Reply).
            record s { master = next.master; replies = reply_of reply next.master ∷ s.replies })
            (sym (reply_made w name kinds ready now a z s x rest q h hh)),
      )

  either : (o : Option Handled) → handled_for w name q now ≡ o
      → IsHandledTo a w name s (system_after by s (Handle which now)) o
  either None is = stays is
  either (Some h) is = goes h is

pub handlings_are_steps : HandlingsAreSteps
handlings_are_steps w a name kinds by s which now q ready lawful shows at =
    either w a name kinds by s which now q ready lawful shows at (handled_for w name q now) refl
