-- That whoever hands the master a request takes the step `Handle`.
use Rattle.std.proofs.Common.{◌≡◌, ◌∙◌, ℕ, List, [], ◌∷◌, ◌++◌, Option, Some, None, option_map, Result, refl, sym, ap, subst, append_assoc}
use Rattle.std.proofs.lemmas.List.{reverse-append}
use Rattle.std.specs.List.{flat_map}
use Rattle.rx_schema.specs.declared.shape.Shape.{Shape}
use Rattle.rx_collection.specs.Held.{Held}
use Rattle.rx_wire.specs.Writing.{reply_text}
use Rattle.rx_wire.specs.declared.fault.WireFault.{WireFault}
use Rattle.rx_wire.specs.declared.message.Reply.{Reply}
use Rattle.rx_wire.specs.declared.message.Request.{Request}
use Rattle.rx_replication.specs.Master.{body_of, master_then, reply_with}
use Rattle.rx_replication.specs.Steps.{System, MadeReply, run, system_after, with_reply}
use Rattle.rx_replication.specs.Steps.Step.{Handle}
use Rattle.rx_replication.specs.Taking.{Resolve}
use Rattle.rx_serve.specs.Answered.{Gives, answered_at, commit_by}
use Rattle.rx_serve.specs.Served.{Served, as_line, line_then, moment_for, moments_after, reply_then, served_lines}
use Rattle.rx_steps.specs.Served.{AnswersAreSteps, AreToBeHandled, ConnectionsAreSteps, IsItsMaster, IsServedBySteps, IsStepTo, IsWithReply, MayBeHandled, reply_of}
use Rattle.rx_steps.specs.Shows.{of_schema}
use Rattle.rx_steps.proofs.Systems.{handled_by_step, then-of_schema}

-- a reply and the collection after it
abbrev answer_to : System → Request → Held → Reply × Held
answer_to s q new = (reply_with q (body_of s.master.documents q.ask), new)

-- ---- one answer

module _ (by : Resolve) (s : System) (z : Shape) (which now : ℕ) (q : Request)
    (at : MayBeHandled s which q) where
  abbrev c : Held
  c = of_schema z s.master

  -- the answer, by what the system's master comes to
  answered_so : answered_at c now q
      ≡ option_map (answer_to s q) (option_map (of_schema z) (master_then s.master q.ask now))
  answered_so = ap (option_map (answer_to s q)) (then-of_schema z s.master q.ask now)

  gives_step : (o : Option Held) (new : Held) (reply : Option Reply)
      → Gives (option_map (answer_to s q) (option_map (of_schema z) o)) c reply new
      → IsStepTo s (with_reply s q o) new reply
  gives_step None new reply g = record {
    master = subst (λ (x : Held). IsItsMaster x s) (sym g.1) refl;
    reply = subst (IsWithReply s s) (sym g.0) refl;
  }
  gives_step (Some m) new reply g =
      let next = with_reply s q (Some m) in
      record {
        master = subst (λ (x : Held). IsItsMaster x next) (sym g.1) refl;
        reply = subst (IsWithReply s next) (sym g.0) refl;
      }

  answer_steps : (new : Held) (reply : Option Reply) → Gives (answered_at c now q) c reply new
      → IsStepTo s (system_after by s (Handle which now)) new reply
  answer_steps new reply g =
      subst (λ (next : System). IsStepTo s next new reply)
      (sym (handled_by_step by s which now q at))
      (gives_step (master_then s.master q.ask now) new reply
      (subst (λ (o : Option (Reply × Held)). Gives o c reply new) answered_so g))

pub answers_are_steps : AnswersAreSteps
answers_are_steps by s which now q c new reply at same gives =
    answer_steps by s c.schema which now q at new reply
    (subst (λ (x : Held). Gives (answered_at x now q) x reply new) same gives)

-- ---- a connection

-- a reply as a line
abbrev line_of : MadeReply → List ℕ
line_of r = as_line (reply_text r.reply)

module _ (by : Resolve) (z : Shape) where
  abbrev ServesSo : System → List ℕ → List (List ℕ) → Type 0
  ServesSo s moments ls = IsServedBySteps by s (served_lines (of_schema z s.master) moments ls)

  module _ (s : System) (moments : List ℕ) (ls : List (List ℕ)) (which : ℕ) (q : Request)
      (at : MayBeHandled s which q) where
    abbrev now : ℕ
    now = moment_for q.ask moments

    abbrev here : Held
    here = of_schema z s.master

    abbrev later : Held → Served
    later after = served_lines after (moments_after q.ask moments) ls

    once : (o : Option Held) → master_then s.master q.ask now ≡ o
        → ((new : Held)
        → ServesSo (with_reply s q (Some new)) (moments_after q.ask moments) ls)
        → IsServedBySteps by s
        (reply_then here (commit_by here q.ask now)
        (option_map (answer_to s q) (option_map (of_schema z) o)) later)
    once None is rest = record {
      steps = [];
      handles = tt;
      master = refl;
      made = [];
      joined = refl;
      due = refl;
    }
    once (Some new) is rest =
        let next : System = with_reply s q (Some new) in
        let r : MadeReply =
        reply_of (reply_with q (body_of s.master.documents q.ask)) new in
        let more = rest new in
        let to : next ≡ system_after by s (Handle which now) =
        ap (with_reply s q) (sym is) ∙ sym (handled_by_step by s which now q at) in
        record {
          steps = Handle which now ∷ more.steps;
          handles = ((which, now, refl), more.handles);
          master = subst (λ (t : System). IsItsMaster (later (of_schema z new)).after
              (run by more.steps t)) to more.master;
          made = more.made ++ r ∷ [];
          joined = ap (λ (t : System). (run by more.steps t).replies) (sym to) ∙ more.joined
              ∙ sym (append_assoc more.made (r ∷ []) s.replies);
          due = ap (λ (bytes : List ℕ). line_of r ++ bytes) more.due
              ∙ ap (λ (rs : List MadeReply). flat_map line_of rs)
              (sym (reverse-append more.made (r ∷ [])));
        }

  serves : (ls : List (List ℕ)) (s : System) (moments : List ℕ) → AreToBeHandled z s ls
      → ServesSo s moments ls
  serves [] s moments all = record {
    steps = [];
    handles = tt;
    master = refl;
    made = [];
    joined = refl;
    due = refl;
  }
  serves (l ∷ ls) s moments all =
      let first = all.0 in
      let q : Request = first.1 in
      let c : Held = of_schema z s.master in
      let now = moment_for q.ask moments in
      let next : Held → List ℕ → Served = λ after later. served_lines after later ls in
      let one = once s moments ls first.0 q first.3 (master_then s.master q.ask now) refl
      (λ new. serves ls (with_reply s q (Some new)) (moments_after q.ask moments) all.1) in
      subst (λ (read : Result Request WireFault).
      IsServedBySteps by s (line_then c moments read next)) (sym first.2)
      (subst (λ (o : Option (Reply × Held)). IsServedBySteps by s
      (reply_then c (commit_by c q.ask now) o (λ after. next after (moments_after q.ask moments))))
      (sym (answered_so by s z first.0 now q first.3)) one)

pub connections_are_steps : ConnectionsAreSteps
connections_are_steps by s c moments lines same all =
    subst (λ (x : Held). IsServedBySteps by s (served_lines x moments lines)) (sym same)
    (serves by c.schema lines s moments all)
