-- What a step makes of a system, where what it needs is there.
use Rattle.std.proofs.Common.{◌≡◌, ℕ, zero, suc, ◌+◌, ◌<◌, ◌≤◌, min, max, ◌==◌, Bool, true, false, cond, arith, eqb-true, List, [], ◌∷◌, take, Option, Some, None, option_map, slice_get, refl, sym, ap, ◌∙◌}
use Rattle.rx_value.specs.declared.state.State.{State}
use Rattle.rx_value.proofs.Outcomes.{some_same, not_none}
use Rattle.rx_document.specs.declared.stored.Stored.{Stored}
use Rattle.rx_schema.specs.declared.shape.Shape.{Shape}
use Rattle.rx_collection.specs.Commit.{rows_of, with_row, with_rows}
use Rattle.rx_collection.specs.Held.{Held}
use Rattle.rx_collection.specs.Time.{most_lwt, stamp, time_after}
use Rattle.rx_wire.specs.declared.message.AskKind.{AskKind}
use Rattle.rx_wire.specs.declared.message.AskKind.TheVariants.{Push, Pull}
use Rattle.rx_wire.specs.declared.message.Request.{Request}
use Rattle.rx_replication.specs.Master.{master_then, writes}
use Rattle.rx_replication.specs.Steps.{System, OpenRequest, MadeReply, handled_in, with_reply, is_awaited, arrived_in, taken_in, with_taking, system_after}
use Rattle.rx_replication.specs.Steps.Step.{Handle, Arrive}
use Rattle.rx_replication.specs.Taking.{Resolve, Taking, taking}
use Rattle.rx_replication.specs.Write.{write}
use Rattle.rx_steps.specs.Shows.{of_schema}

module _ (by : Resolve) (s : System) where
  pub handled_by_step : (j now : ℕ) (q : Request) → slice_get (take s.since s.requests) j ≡ Some q
      → system_after by s (Handle j now) ≡ with_reply s q (master_then s.master q.ask now)
  handled_by_step j now q at = ap (λ (o : Option Request). handled_in s o now) at

  pub handled_step : (j now : ℕ) (q : Request) (new : Held)
      → slice_get (take s.since s.requests) j ≡ Some q → master_then s.master q.ask now ≡ Some new
      → system_after by s (Handle j now) ≡ with_reply s q (Some new)
  handled_step j now q new at is =
      handled_by_step j now q at ∙ ap (with_reply s q) is

  pub arrived_step : (i now : ℕ) (o : OpenRequest) (r : MadeReply) (t : Taking) (new : Held)
      → s.waiting ≡ Some o → slice_get s.replies i ≡ Some r → is_awaited s o r.reply ≡ true
      → taking by s.fork.documents s.up s.down o.request.ask r.reply.body ≡ Some t
      → write s.fork t.rows now ≡ Some new
      → system_after by s (Arrive i now) ≡ with_taking s t (Some new)
  arrived_step i now o r t new waits at awaited is wrote =
      ap (λ (x : Option OpenRequest). arrived_in by s x (slice_get s.replies i) now) waits
      ∙ ap (λ (x : Option MadeReply). arrived_in by s (Some o) x now) at
      ∙ ap (λ (b : Bool). cond b (taken_in s (taking by s.fork.documents s.up s.down o.request.ask
      r.reply.body) now) s) awaited
      ∙ ap (λ (x : Option Taking). taken_in s x now) is
      ∙ ap (with_taking s t) wrote

-- ---- what is taken of a front

module _ {A : Type 0} where
  -- a front of a front is a front
  pub take_twice : (m k : ℕ) (xs : List A) → (n : ℕ) × (take m (take k xs) ≡ take n xs)
  take_twice zero k xs = (0, refl)
  take_twice (suc m) zero xs = (0, refl)
  take_twice (suc m) (suc k) [] = (0, refl)
  take_twice (suc m) (suc k) (x ∷ xs) =
      let rest = take_twice m k xs in (suc rest.0, ap (λ ys. x ∷ ys) rest.1)

  -- one that stands in a front stands there
  pub from_front : (k : ℕ) (xs : List A) (j : ℕ) (x : A) → slice_get (take k xs) j ≡ Some x
      → slice_get xs j ≡ Some x
  from_front zero xs j x at = not_none at
  from_front (suc k) [] j x at = not_none at
  from_front (suc k) (y ∷ ys) zero x at = at
  from_front (suc k) (y ∷ ys) (suc j) x at = from_front k ys j x at

-- ---- numbers and times

pub next_is : (n most : ℕ) → n < most → min (n + 1) most ≡ n + 1
next_is n most few = omega (arith, few)

pub stamp_is : (last lwt : ℕ) → last < lwt → lwt ≤ most_lwt → time_after last lwt ≡ Some lwt
stamp_is last lwt later range =
    elim (last == most_lwt) as (λ b. (last == most_lwt) ≡ b
    → cond b None (Some (max (min lwt most_lwt) (last + 1))) ≡ Some lwt) [
      | true ↦
          (λ is. let same = eqb-true last most_lwt is in absurd (omega (arith, same, later, range)))
      | false ↦ (λ isnt.
          let cut : max (min lwt most_lwt) (last + 1) ≡ lwt = omega (arith, later, range) in
          ap Some cut)
    ] refl

-- ---- no write regards a schema

module _ (z : Shape) where
  rows-of_schema : (c : Held) (rows : List Stored)
      → with_rows (of_schema z c) rows ≡ of_schema z (with_rows c rows)
  rows-of_schema c [] = refl
  rows-of_schema c (row ∷ rows) = rows-of_schema (with_row c row) rows

  pub write-of_schema : (c : Held) (ss : List State) (now : ℕ)
      → write (of_schema z c) ss now ≡ option_map (of_schema z) (write c ss now)
  write-of_schema c [] now = refl
  write-of_schema c (s ∷ ss) now =
      elim (stamp c.documents now)
      as (λ o.
      option_map (λ lwt. with_rows (of_schema z c) (rows_of (of_schema z c) (s ∷ ss) lwt)) o
      ≡ option_map (of_schema z) (option_map (λ lwt. with_rows c (rows_of c (s ∷ ss) lwt)) o)) [
        | None ↦ refl
        | Some lwt ↦ ap Some (rows-of_schema c (rows_of c (s ∷ ss) lwt))
      ]

  pub then-of_schema : (c : Held) (ask : AskKind) (now : ℕ)
      → master_then (of_schema z c) ask now ≡ option_map (of_schema z) (master_then c ask now)
  then-of_schema c (Push rows) now = write-of_schema c (writes c.documents rows) now
  then-of_schema c (Pull place batch) now = refl

  -- what a write left, but for the schema
  pub record Wrote (o : Option Held) (x : Held) : Type 0 where
    pub new : Held
    pub is : o ≡ Some new
    pub shown : of_schema z new ≡ x

  pub wrote_of : (o p : Option Held) (x : Held) → p ≡ option_map (of_schema z) o → p ≡ Some x
      → Wrote o x
  wrote_of None p x same is = not_none (sym same ∙ is)
  wrote_of (Some new) p x same is =
      record { new = new; is = refl; shown = some_same (sym same ∙ is) }
