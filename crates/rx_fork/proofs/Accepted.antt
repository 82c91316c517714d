-- What holds of a plan that was made.
use Rattle.std.proofs.Common.{◌≡◌, ℕ, true, ◌==◌, ◌&&◌, List, [], ◌∷◌, map, Option, Some, None, option_map, Result, Ok, Err, refl, sym, ap, ◌∙◌, subst, eqb-true}
use Rattle.std.specs.List.{AllByRecursion, IsDistinct}
use Rattle.std.specs.Map.{values_of}
use Rattle.std.specs.Prelude.{IfOk, Bool}
use Rattle.std.specs.Str.{bytes_eq}
use Rattle.rx_value.specs.Due.{Due, ◌>>◌, demand, unless, or_fault}
use Rattle.rx_value.specs.declared.state.State.{State}
use Rattle.rx_value.proofs.Outcomes.{ok_then, some_of, some_same, not_none, demanded}
use Rattle.rx_document.specs.Documents.{Documents}
use Rattle.rx_document.specs.declared.place.Place.{Place}
use Rattle.rx_collection.specs.Commit.{by_key}
use Rattle.rx_collection.specs.Time.{last_lwt}
use Rattle.rx_collection.proofs.Named.{all_put}
use Rattle.rx_meta.specs.Side.{Side}
use Rattle.rx_wire.specs.declared.message.AskKind.{AskKind}
use Rattle.rx_wire.specs.declared.message.AskKind.TheVariants.{Push, Pull}
use Rattle.rx_wire.specs.declared.message.Body.{Body}
use Rattle.rx_wire.specs.declared.message.Body.TheVariants.{Conflicts, Docs}
use Rattle.rx_wire.specs.declared.message.Reply.{Reply}
use Rattle.rx_replication.specs.Taking.{Resolve, KeepsKey, Taking, taking}
use Rattle.rx_replication.specs.Throughout.{AllPass, AskPasses, BodyPasses, KeepsPassing}
use Rattle.rx_replication.proofs.Distinct.{KeysDiffer, resolutions_differ, differences_differ}
use Rattle.rx_replication.proofs.Lists.{all_at, all_each, from_values_of}
use Rattle.rx_replication.proofs.Throughout.{taking_passes}
use Rattle.rx_fork.specs.Accept.{plan_of, answered, accepted}
use Rattle.rx_fork.specs.Asked.{HasRowsApart, HasStatesApart}
use Rattle.rx_fork.specs.BadReply.{bad_reply}
use Rattle.rx_fork.specs.declared.accept.ExchangePlan.{ExchangePlan}
use Rattle.rx_fork.specs.declared.ask.Asked.{Asked}
use Rattle.rx_fork.specs.declared.fault.AcceptFault.{AcceptFault}
use Rattle.rx_fork.specs.declared.fault.AcceptFault.TheVariants.{Foreign, Moved, BadReply, Memory}

-- ---- it is of a taking

no_fault : (o : Option ℕ) (rest : Result ExchangePlan AcceptFault) (plan : ExchangePlan)
    → unless BadReply o rest ≡ Ok plan → rest ≡ Ok plan
no_fault None rest plan h = h
no_fault (Some at) rest plan h = absurd (cc)

-- the taking that a plan is of
pub record IsOf (by : Resolve) (fork : Documents) (side : Side) (ask : AskKind) (body : Body)
    (plan : ExchangePlan) : Type 0 where
  pub taken : Taking
  pub is : taking by fork side.up side.down ask body ≡ Some taken
  pub rows : plan.rows ≡ taken.rows
  pub known : plan.known ≡ values_of (by_key taken.known)
  pub up : plan.up ≡ taken.up
  pub down : plan.down ≡ taken.down

of_taking : (by : Resolve) (fork : Documents) (side : Side) (ask : AskKind) (body : Body)
    (plan : ExchangePlan) (o : Option Taking) → taking by fork side.up side.down ask body ≡ o
    → option_map plan_of o ≡ Some plan → IsOf by fork side ask body plan
of_taking by fork side ask body plan None is h = not_none h
of_taking by fork side ask body plan (Some t) is h =
    let same : plan_of t ≡ plan = some_same h in
    record {
      taken = t;
      is = is;
      rows = ap (λ (p : ExchangePlan). p.rows) (sym same);
      known = ap (λ (p : ExchangePlan). p.known) (sym same);
      up = ap (λ (p : ExchangePlan). p.up) (sym same);
      down = ap (λ (p : ExchangePlan). p.down) (sym same);
    }

answered_of : (by : Resolve) (fork : Documents) (side : Side) (ask : AskKind) (body : Body)
    (plan : ExchangePlan) → answered by fork side ask body ≡ Ok plan
    → IsOf by fork side ask body plan
answered_of by fork side ask body plan h =
    let tk = taking by fork side.up side.down ask body in
    of_taking by fork side ask body plan tk refl
    (some_of (BadReply 0) (option_map plan_of tk) plan
    (no_fault (bad_reply side.down ask body) (or_fault (BadReply 0) (option_map plan_of tk)) plan
    h))

-- a reply that is taken: the fork wasn't written since the asking, and nothing is at fault
pub record IsTaken (by : Resolve) (fork : Documents) (side : Side) (asked : Asked) (reply : Reply)
    (plan : ExchangePlan) : Type 0 where
  pub unmoved : last_lwt fork ≡ asked.lwt
  pub fits : bad_reply side.down asked.request.ask reply.body ≡ None
  pub of : IsOf by fork side asked.request.ask reply.body plan

without_fault : (o : Option ℕ) (rest : Result ExchangePlan AcceptFault) (plan : ExchangePlan)
    → unless BadReply o rest ≡ Ok plan → o ≡ None
without_fault None rest plan h = refl
without_fault (Some at) rest plan h = absurd (cc)

pub accepted_parts : (by : Resolve) (fork : Documents) (side : Side) (asked : Asked) (reply : Reply)
    (plan : ExchangePlan) → accepted by fork side asked reply ≡ Ok plan
    → IsTaken by fork side asked reply plan
accepted_parts by fork side asked reply plan h =
    let ask = asked.request.ask in
    let unmoved = last_lwt fork == asked.lwt in
    let a = ok_then (demand (reply.epoch == asked.request.epoch && reply.n == asked.request.n)
    (Foreign reply.epoch reply.n)) (λ _. demand unmoved (Moved asked.lwt (last_lwt fork))
    >> λ _. answered by fork side ask reply.body) plan h in
    let b = ok_then (demand unmoved (Moved asked.lwt (last_lwt fork)))
    (λ _. answered by fork side ask reply.body) plan a.2 in
    record {
      unmoved = eqb-true (last_lwt fork) asked.lwt
          (demanded unmoved (Moved asked.lwt (last_lwt fork)) b.0 b.1);
      fits = without_fault (bad_reply side.down ask reply.body)
          (or_fault (BadReply 0)
          (option_map plan_of (taking by fork side.up side.down ask reply.body))) plan b.2;
      of = answered_of by fork side ask reply.body plan b.2;
    }

-- ---- what holds of takings holds of what was answered

pub when_made : {P : ExchangePlan → Type 0} (by : Resolve) (fork : Documents) (side : Side)
    (asked : Asked) (reply : Reply) (r : Result ExchangePlan AcceptFault)
    → Due Memory r (accepted by fork side asked reply)
    → ((plan : ExchangePlan) → IsOf by fork side asked.request.ask reply.body plan → P plan)
    → IfOk r P
when_made by fork side asked reply (Ok plan) due each =
    each plan (accepted_parts by fork side asked reply plan due).of
when_made by fork side asked reply (Err e) due each = tt

-- the keys of the rows differ
taking_apart : (by : Resolve) → KeepsKey by → (fork : Documents) (up down : Option Place)
    (ask : AskKind) (body : Body) (t : Taking) → HasRowsApart ask → HasStatesApart body
    → taking by fork up down ask body ≡ Some t → KeysDiffer t.rows
taking_apart by law fork up down (Push rows) (Conflicts cs) t apart states is =
    subst (λ (t : Taking). KeysDiffer t.rows) (some_same is)
    (resolutions_differ by law cs rows apart)
taking_apart by law fork up down (Pull p b) (Docs ss to) t apart states is =
    subst (λ (t : Taking). KeysDiffer t.rows) (some_same is) (differences_differ fork ss states)
taking_apart by law fork up down (Push rows) (Docs ss to) t apart states is = not_none is
taking_apart by law fork up down (Pull p b) (Conflicts cs) t apart states is = not_none is

pub plan_apart : (by : Resolve) → KeepsKey by → (fork : Documents) (side : Side) (ask : AskKind)
    (body : Body) (plan : ExchangePlan) → HasRowsApart ask → HasStatesApart body
    → IsOf by fork side ask body plan → IsDistinct bytes_eq (map (λ s. s.key) plan.rows)
plan_apart by law fork side ask body plan apart states of =
    subst KeysDiffer (sym of.rows)
    (taking_apart by law fork side.up side.down ask body of.taken apart states of.is)

-- ---- states that pass

module _ (test : State → Bool) where
  in_order_pass : (ss : List State) → AllByRecursion (λ s. test s ≡ true) ss
      → AllByRecursion (λ e. test e.1 ≡ true) (by_key ss)
  in_order_pass [] all = tt
  in_order_pass (s ∷ ss) all =
      all_put (λ k t. test t ≡ true) (by_key ss) s.key s all.0 (in_order_pass ss all.1)

  -- the states in another order
  pub by_key_pass : (ss : List State) → AllPass test ss → AllPass test (values_of (by_key ss))
  by_key_pass ss pass s h =
      let e = from_values_of (by_key ss) s h in
      ap test e.2
      ∙ all_at (λ e. test e.1 ≡ true) (by_key ss) e.0
      (in_order_pass ss (all_each (λ s. test s ≡ true) ss pass)) e.1

  pub plan_passes : (by : Resolve) → KeepsPassing test by → (fork : Documents) (side : Side)
      (ask : AskKind) (body : Body) (plan : ExchangePlan) → AskPasses test ask
      → BodyPasses test body → IsOf by fork side ask body plan
      → AllPass test plan.rows × AllPass test plan.known
  plan_passes by law fork side ask body plan asks pass of =
      let both =
      taking_passes test by law fork side.up side.down ask body of.taken asks pass of.is in (
        subst (AllPass test) (sym of.rows) both.0,
        subst (AllPass test) (sym of.known) (by_key_pass of.taken.known both.1),
      )
