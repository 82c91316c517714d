-- An exchange is a list of steps.
use Rattle.std.proofs.Common.{◌≡◌, ◌∙◌, ℕ, suc, ◌+◌, ◌≤◌, ◌<◌, List, ◌∷◌, ◌++◌, Option, Some, None, option_map, slice_get, take, refl, sym, ap, subst}
use Rattle.rx_value.specs.Due.{◌>>=◌}
use Rattle.rx_value.specs.Named.{named}
use Rattle.rx_value.proofs.Outcomes.{some_same}
use Rattle.rx_schema.specs.declared.shape.Shape.{Shape}
use Rattle.rx_collection.specs.Held.{Held}
use Rattle.rx_collection.specs.Time.{last_lwt}
use Rattle.rx_handler.specs.declared.kind.HandlerKind.{HandlerKind}
use Rattle.rx_wire.specs.declared.message.Request.{Request}
use Rattle.rx_replication.specs.Request.{ask_of}
use Rattle.rx_replication.specs.Steps.{System, request_of, with_request}
use Rattle.rx_replication.specs.Steps.Step.{Ask, Handle}
use Rattle.rx_replication.specs.Taking.{Resolve}
use Rattle.rx_replication.proofs.Lists.{all_at, from_slice_get}
use Rattle.rx_fork.specs.Asked.{asked_of}
use Rattle.rx_fork.specs.declared.ask.Asked.{Asked}
use Rattle.rx_script.specs.declared.happening.Happening.{Happening}
use Rattle.rx_script.specs.declared.happening.Happening.TheVariants as link
use Rattle.rx_sync.specs.Asking.{asked_by, asked_in}
use Rattle.rx_sync.specs.Asks as asks
use Rattle.rx_sync.specs.Asks.{Asks, IsLawfulRequest, earlier, most_number, next_number}
use Rattle.rx_sync.specs.Exchange.{Terms, Planned, behind, course, course_by, exchange, late_records, late_request, once_late, world_after}
use Rattle.rx_sync.specs.Handling.{Handled, handled_for}
use Rattle.rx_sync.specs.Laws.{IsReady, MayTurn, RemembersLawful}
use Rattle.rx_sync.specs.Taking.{resolve_for}
use Rattle.rx_sync.proofs.Ends.{HasEnds, ends_of}
use Rattle.rx_sync.proofs.Exchanges.{HasHandled}
use Rattle.rx_sync.proofs.Going.{due_here, handled_come, handled_well}
use Rattle.rx_sync.proofs.Staying.{ready_after}
use Rattle.rx_sync.proofs.Turns.{late_asked, remembers_more}
use Rattle.rx_world.specs.World.{World, Replications}
use Rattle.rx_world.specs.declared.replication.Replication.{Replication}
use Rattle.rx_steps.specs.Exchanging.{ExchangesAreSteps, LeadsToCourse, answer_steps, late_steps}
use Rattle.rx_steps.specs.Shows.{Resolves, Shows, of_schema}
use Rattle.rx_steps.proofs.Exchanges.{Waits, answer_goes, handled_rest, handled_shown, handled_so, handled_to}
use Rattle.rx_steps.proofs.Going.{Goes, goes_behind, goes_on, goes_stop}
use Rattle.rx_steps.proofs.Shown.{IsRest, rest_of, shown_as, shown_in, shows_of}
use Rattle.rx_steps.proofs.Standing.{IsShown}
use Rattle.rx_steps.proofs.Systems.{from_front, next_is, take_twice}

-- ---- the request is made

-- what is asked of a replication whose fork is held
asked_of_fork : (w : World) (name : List ℕ) (n batch : ℕ) (r : Replication) (fork : Held)
    → named w.replications name ≡ Some r → named w.collections r.fork ≡ Some fork
    → asked_in w name n batch ≡ Some (asked_of fork.documents r.side w.epoch n batch)
asked_of_fork w name n batch r fork at held =
    ap (λ (o : Option Replication). o >>= asked_by w n batch) at
    ∙ ap (λ (o : Option Held). o >>= λ fork. Some (asked_of fork.documents r.side w.epoch n
    batch)) held

module _ (t : Terms) (batch : ℕ) (w : World) (a : Asks) (few : a.n < most_number)
    (ready : IsReady w t.name t.kinds) (z : Shape) (s : System)
    (x : IsShown w t.name ready.here.replication ready.here.master z s) (rest : IsRest a w s) where
  abbrev r : Replication
  r = ready.here.replication

  abbrev pub asked : Asked
  asked =
      asked_of (ends_of w t.name t.kinds ready).fork.documents r.side w.epoch (next_number a) batch

  pub asked_is : asked_in w t.name (next_number a) batch ≡ Some asked
  asked_is =
      let e = ends_of w t.name t.kinds ready in
      asked_of_fork w t.name (next_number a) batch r e.fork ready.here.held e.held

  abbrev pub requested : System
  requested = with_request s (request_of s batch)

  fork_is : (ends_of w t.name t.kinds ready).fork ≡ of_schema z s.fork
  fork_is = some_same (sym (ends_of w t.name t.kinds ready).held ∙ x.fork)

  number_is : s.n + 1 ≡ next_number a
  number_is = ap (λ (n : ℕ). n + 1) rest.n ∙ sym (next_is a.n most_number few)

  request_is : request_of s batch ≡ asked.request
  request_is = λ i. record {
    epoch = rest.epoch i;
    n = number_is i;
    ask = ask_of (sym fork_is i).documents (sym x.known i) (sym x.down i) batch;
  }

  pub requested_waits : Waits asked requested
  requested_waits = record {
    waits = λ i. Some (record {
      request = request_is i;
      lwt = last_lwt (sym fork_is i).documents;
    });
    newest = ap Some request_is;
  }

  pub requested_shown : IsShown w t.name r ready.here.master z requested
  requested_shown = record {
    held = x.held;
    local = x.local;
    fork = x.fork;
    master = x.master;
    known = x.known;
    up = x.up;
    down = x.down;
  }

  pub requested_rest : IsRest (asks.with_request asked.request a) w requested
  requested_rest =
      let front = take_twice 16 rest.remembered (take s.since s.requests) in
      record {
        epoch = rest.epoch;
        n = number_is;
        remembered = suc front.0;
        requests =
            ap (λ (q : Request). q ∷ take 16 a.requests) (sym request_is)
            ∙ ap (λ (qs : List Request). request_of s batch ∷ take 16 qs) rest.requests
            ∙ ap (λ (qs : List Request). request_of s batch ∷ qs) front.1;
      }

-- ---- an earlier one comes late

module _ (t : Terms) (batch n : ℕ) (some : 1 ≤ batch) (w : World)
    (ready : IsReady w t.name t.kinds) (asked : Asked) (is : asked_in w t.name n batch ≡ Some asked)
    (a : Asks) (lawful : RemembersLawful w t.name a) (z : Shape) (s : System)
    (x : IsShown w t.name ready.here.replication ready.here.master z s) (rest : IsRest a w s)
    (waits : Waits asked s) where
  abbrev by_so : Resolve
  by_so = resolve_for ready.kind ready.here.replication

  answer : (y : Happening) → Goes by_so s a (world_after (exchange t asked y w).records w) t.name
      (answer_steps t.now y) (exchange t asked y w).came
  answer y = answer_goes w t.name t.kinds ready t.now n batch some asked is a z s x rest waits y

  module _ (j : ℕ) (q : Request) (there : earlier j a ≡ Some q) where
    all_lawful : IsLawfulRequest (ends_of w t.name t.kinds ready).fork.schema q
    all_lawful =
        let e = ends_of w t.name t.kinds ready in
        all_at (IsLawfulRequest e.fork.schema) a.requests q
        (lawful ready.here.replication ready.here.held e.fork e.held)
        (from_slice_get a.requests j q there)

    stands : slice_get (take s.since s.requests) j ≡ Some q
    stands =
        from_front rest.remembered (take s.since s.requests) j q
        (ap (λ (qs : List Request). slice_get qs j) (sym rest.requests) ∙ there)

    module _ (h : Handled) (at : handled_for w t.name q t.now ≡ Some h) where
      hh : HasHandled w ready.here.master (ends_of w t.name t.kinds ready).master t.now q h
      hh = handled_well w t.name t.kinds ready t.now q h all_lawful at

      abbrev then : World
      then = world_after h.records w

      abbrev ready_then : IsReady (world_after h.records w) t.name t.kinds
      ready_then =
          let next = ready_after h.records w t.name t.kinds ready
          (handled_come w t.name t.kinds ready t.now q h hh) in
          record {
            made = next.made;
            sound = next.sound;
            here = record {
              replication = ready.here.replication;
              held =
                  ap (λ (rs : Replications). named rs t.name) hh.leaves.replications
                  ∙ ready.here.held;
              master = ready.here.master;
              local = ready.here.local;
            };
            kind = ready.kind;
            handler = ready.handler;
          }

      asked_then : asked_in then t.name n batch ≡ Some asked
      asked_then =
          late_asked t w ready n batch some asked is (link.Late j) a lawful h.records
          (ap (late_records t.name t.now w) there ∙ ap (option_map (λ (h : Handled). h.records)) at)

      abbrev next : System
      next = handled_so w t.name t.kinds ready t.now a z s x rest q h hh

      late_goes : Goes by_so s a
          (world_after (behind h.records (exchange t asked (link.Late j) then)).records w) t.name
          (Handle j t.now ∷ answer_steps t.now (link.Late j))
          (exchange t asked (link.Late j) then).came
      late_goes =
          let p : Planned = exchange t asked (link.Late j) then in
          goes_behind by_so s a w t.name
          (Handle j t.now ∷ answer_steps t.now (link.Late j)) h.records
          p
          (goes_on by_so a (world_after p.records then) t.name s next
          (answer_steps t.now (link.Late j)) p.came (Handle j t.now) tt
          (handled_to w t.name t.kinds ready t.now a z s x rest q h hh by_so j stands)
          (answer_goes then t.name t.kinds ready_then t.now n batch some asked asked_then a z next
          (handled_shown w t.name t.kinds ready t.now a z s x rest q h hh)
          (handled_rest w t.name t.kinds ready t.now a z s x rest q h hh)
          (record { waits = waits.waits; newest = waits.newest }) (link.Late j)))

    late_by : (o : Option Handled) → handled_for w t.name q t.now ≡ o → Goes by_so s a
        (world_after (once_late t asked (link.Late j) w (option_map (λ h. h.records) o)).records w)
        t.name (Handle j t.now ∷ answer_steps t.now (link.Late j))
        (once_late t asked (link.Late j) w (option_map (λ h. h.records) o)).came
    late_by None at =
        goes_stop by_so a w t.name s (Handle j t.now ∷ answer_steps t.now (link.Late j))
        (shows_of a w t.name ready.here.replication ready.here.master z s x rest)
    late_by (Some h) at = late_goes h at

  abbrev planned : Happening → Option Request → Planned
  planned y o = once_late t asked y w (late_records t.name t.now w o)

  late_either : (j : ℕ) (o : Option Request) → earlier j a ≡ o → Goes by_so s a
      (world_after (planned (link.Late j) o).records w) t.name
      (late_steps t.now (link.Late j) o ++ answer_steps t.now (link.Late j))
      (planned (link.Late j) o).came
  late_either j None at = answer (link.Late j)
  late_either j (Some q) at = late_by j q at (handled_for w t.name q t.now) refl

  pub once_goes : (y : Happening) → Goes by_so s a
      (world_after (planned y (late_request y a)).records w) t.name
      (late_steps t.now y (late_request y a) ++ answer_steps t.now y)
      (planned y (late_request y a)).came
  once_goes (link.Late j) = late_either j (earlier j a) refl
  once_goes link.Ok = answer link.Ok
  once_goes link.LoseRequest = answer link.LoseRequest
  once_goes link.LoseReply = answer link.LoseReply
  once_goes link.Twice = answer link.Twice
  once_goes link.Stale = answer link.Stale

-- ---- all of it

module _ (t : Terms) (batch : ℕ) (y : Happening) (w : World) (a : Asks) (s : System)
    (some : 1 ≤ batch) (may : MayTurn t w a) (few : a.n < most_number)
    (shows : Shows a w t.name s) where
  abbrev ready : IsReady w t.name t.kinds
  ready = may.ready

  abbrev by_here : Resolve
  by_here = resolve_for ready.kind ready.here.replication

  abbrev z : Shape
  z = shows.schema

  x : IsShown w t.name ready.here.replication ready.here.master z s
  x =
      shown_as w t.name z s (shown_in w t.name z s shows.link) ready.here.replication
      ready.here.master ready.here.held ready.here.local

  rest : IsRest a w s
  rest = rest_of a w t.name s shows

  abbrev q : Asked
  q = asked t batch w a few ready z s x rest

  course_goes : LeadsToCourse t batch y by_here s w (course_by t y w a (Some q))
  course_goes =
      let e : HasEnds w t.name ready.here.replication ready.here.master =
      ends_of w t.name t.kinds ready in
      let is = asked_is t batch w a few ready z s x rest in
      let lawful : IsLawfulRequest e.fork.schema q.request =
      (due_here w t.name t.kinds ready t.now (next_number a) batch some q is).lawful in
      let remembers : RemembersLawful w t.name (asks.with_request q.request a) =
      remembers_more w t.name ready.here.replication e.fork q.request a ready.here.held e.held
      lawful may.asks in
      let c = course_by t y w a (Some q) in
      let next : System = requested t batch w a few ready z s x rest in
      let later = once_goes t batch (next_number a) some w ready q is
      (asks.with_request q.request a) remembers z next
      (requested_shown t batch w a few ready z s x rest)
      (requested_rest t batch w a few ready z s x rest)
      (requested_waits t batch w a few ready z s x rest) y in
      let all = goes_on by_here c.asks (world_after c.records w) t.name s next
      (late_steps t.now y (late_request y c.asks) ++ answer_steps t.now y) c.came (Ask batch) some
      refl later in
      (all.leads, all.first)

  pub course_leads : LeadsToCourse t batch y by_here s w (course t batch y w a)
  course_leads =
      subst (λ (o : Option Asked). LeadsToCourse t batch y by_here s w (course_by t y w a o))
      (sym (asked_is t batch w a few ready z s x rest)) course_goes

-- what resolves conflicts is what the handler does
pub resolved_so : (t : Terms) (w : World) (by : Resolve) (ready : IsReady w t.name t.kinds)
    → Resolves t.kinds w t.name by → resolve_for ready.kind ready.here.replication ≡ by
resolved_so t w by ready by_so =
    let same : ready.here.replication ≡ by_so.replication =
    some_same (sym ready.here.held ∙ by_so.held) in
    let kinds : ready.kind ≡ by_so.kind =
    some_same (sym ready.handler
    ∙ ap (λ (r : Replication). named t.kinds r.handler) same ∙ by_so.handler) in
    ap (λ (k : HandlerKind). resolve_for k ready.here.replication) kinds
    ∙ ap (resolve_for by_so.kind) same ∙ by_so.is

pub exchanges_are_steps : ExchangesAreSteps
exchanges_are_steps t batch y w a by s some may few by_so shows =
    subst (λ (by : Resolve). LeadsToCourse t batch y by s w (course t batch y w a))
    (resolved_so t w by may.ready by_so) (course_leads t batch y w a s some may few shows)
