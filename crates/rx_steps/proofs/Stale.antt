-- That an earlier reply changes nothing.
use Rattle.std.proofs.Common.{◌≡◌, ◌≢◌, ◌∙◌, ℕ, suc, ◌≤◌, ◌==◌, ◌&&◌, Bool, true, false, cond, List, Option, Some, None, slice_get, true≢false, refl, sym, ap, inl, inr, eq-eqb, eqb-true}
use Rattle.rx_value.proofs.Outcomes.{some_same}
use Rattle.rx_collection.specs.Held.{Held}
use Rattle.rx_collection.specs.Time.{last_lwt}
use Rattle.rx_fork.specs.declared.ask.Asked.{Asked}
use Rattle.rx_wire.specs.declared.message.Reply.{Reply}
use Rattle.rx_wire.specs.declared.message.Request.{Request}
use Rattle.rx_replication.specs.Interleaving.{Always, number_of, reply_number}
use Rattle.rx_replication.specs.Master.{master_then}
use Rattle.rx_replication.specs.Member.{Member}
use Rattle.rx_replication.specs.Steps.{System, MadeReply, OpenRequest, arrived_in, is_awaited, request_of, system_after, taken_in, with_reply, with_request}
use Rattle.rx_replication.specs.Steps.Step.{Arrive}
use Rattle.rx_replication.specs.Taking.{Resolve, taking}
use Rattle.rx_replication.proofs.EachStep.{kept_made, same_request}
use Rattle.rx_replication.proofs.Kept.{IsKept}
use Rattle.rx_replication.proofs.Lists.{from_slice_get}
use Rattle.rx_replication.proofs.Runs.{always}
use Rattle.rx_steps.specs.Stale.{EarlierAreStale, IsStale, OthersAreStale, StaleIsLost, StaleIsNoChange, StaleIsRefused}
use Rattle.rx_steps.specs.Takings.{IsForeign}
use Rattle.rx_steps.proofs.Refused.{foreign_is_refused}

-- ---- which replies are stale

pub others_are_stale : OthersAreStale
others_are_stale by s apart awaited waits among q known other r its = λ o at e.
    let same : o ≡ awaited = some_same (sym at ∙ waits) in
    other (same_request s.requests q awaited.request apart known among
    (sym its ∙ e ∙ ap (λ (o : OpenRequest). number_of o.request) same))

-- no reply that is there has the numbers of the next request
earlier_differ : (s : System) → IsKept s → (batch : ℕ) → 1 ≤ batch → (r : MadeReply)
    → Member r s.replies → reply_number r.reply ≢ number_of (request_of s batch)
earlier_differ s k batch some r there e =
    let l = k.linked r there in
    (kept_made s batch some k).differ.0 l.0 l.1 (l.2 ∙ e)

abbrev asked : System → ℕ → System
asked s batch = with_request s (request_of s batch)

earlier_stale : (s : System) → IsKept s → (batch : ℕ) → 1 ≤ batch → (t : System)
    → t.waiting ≡ (asked s batch).waiting → (r : MadeReply) → Member r s.replies → IsStale t r
earlier_stale s k batch some t waits r there = λ o at e.
    earlier_differ s k batch some r there
    (e ∙ sym (ap (λ (o : OpenRequest). number_of o.request) (some_same (sym waits ∙ at))))

pub earlier_are_stale : Always EarlierAreStale
earlier_are_stale =
    always EarlierAreStale (λ by law s k batch some r there.
    earlier_stale s k batch some (asked s batch) refl r there)

-- ---- what becomes of them

not_all : (a b c : Bool) → (a ≡ true → b ≡ true → ⊥) → (a && b && c) ≡ false
not_all true true c never = absurd (never refl refl)
not_all true false c never = refl
not_all false b c never = refl

not_awaited : (s : System) (o : OpenRequest) (r : Reply) → reply_number r ≢ number_of o.request
    → is_awaited s o r ≡ false
not_awaited s o r other =
    not_all (r.epoch == o.request.epoch) (r.n == o.request.n)
    (last_lwt s.fork.documents == o.lwt)
    (λ epochs counts. other (λ i. (
      eqb-true r.epoch o.request.epoch epochs i,
      eqb-true r.n o.request.n counts i,
    )))

stale_arrived : (by : Resolve) (s : System) (o : Option OpenRequest) (r : MadeReply) (now : ℕ)
    → s.waiting ≡ o → IsStale s r → arrived_in by s o (Some r) now ≡ s
stale_arrived by s None r now at stale = refl
stale_arrived by s (Some o) r now at stale =
    ap (λ (b : Bool). cond b (taken_in s (taking by s.fork.documents s.up s.down o.request.ask
    r.reply.body) now) s) (not_awaited s o r.reply (stale o at))

pub stale_is_no_change : StaleIsNoChange
stale_is_no_change by s which now r comes stale =
    ap (λ (x : Option MadeReply). arrived_in by s s.waiting x now) comes
    ∙ stale_arrived by s s.waiting r now refl stale

-- where there is no reply, nothing arrives
none_arrived : (by : Resolve) (s : System) (o : Option OpenRequest) (now : ℕ)
    → arrived_in by s o None now ≡ s
none_arrived by s None now = refl
none_arrived by s (Some o) now = refl

-- whichever of some replies arrives, where all of them are stale
each_no_change : (by : Resolve) (s : System) (rs : List MadeReply) (which later : ℕ)
    → ((r : MadeReply) → Member r rs → IsStale s r) → (x : Option MadeReply)
    → slice_get rs which ≡ x → arrived_in by s s.waiting x later ≡ s
each_no_change by s rs which later stale None at = none_arrived by s s.waiting later
each_no_change by s rs which later stale (Some r) at =
    stale_arrived by s s.waiting r later refl (stale r (from_slice_get rs which r at))

module _ (by : Resolve) (s : System) (k : IsKept s) (batch : ℕ) (some : 1 ≤ batch) where
  abbrev q : Request
  q = request_of s batch

  -- from place 1 on, behind the reply that was made, and from place 0 where none was
  lost_so : (o : Option Held) (which later : ℕ)
      → system_after by (with_reply (asked s batch) q o) (Arrive (suc which) later)
      ≡ with_reply (asked s batch) q o
  lost_so None which later =
      each_no_change by (asked s batch) s.replies (suc which) later
      (λ r there. earlier_stale s k batch some (asked s batch) refl r there)
      (slice_get s.replies (suc which)) refl
  lost_so (Some master) which later =
      let t = with_reply (asked s batch) q (Some master) in
      each_no_change by t s.replies which later
      (λ r there. earlier_stale s k batch some t refl r there) (slice_get s.replies which) refl

pub stale_is_lost : Always StaleIsLost
stale_is_lost =
    always StaleIsLost (λ by law s k batch now which later some.
    lost_so by s k batch some (master_then s.master (request_of s batch).ask now) which later)

-- ---- in a world

-- of two numbers that differ one part does
parts_differ : (asked : Asked) (reply : Reply) (x : Bool)
    → (reply.epoch == asked.request.epoch) ≡ x → reply_number reply ≢ number_of asked.request
    → IsForeign asked reply
parts_differ asked reply true is other =
    inr (λ same. other (λ i. (eqb-true reply.epoch asked.request.epoch is i, same i)))
parts_differ asked reply false is other =
    inl (λ same. true≢false (sym (eq-eqb reply.epoch asked.request.epoch same) ∙ is))

pub stale_is_refused : StaleIsRefused
stale_is_refused w kinds name asked reply now other =
    foreign_is_refused w kinds name asked reply now
    (parts_differ asked reply (reply.epoch == asked.request.epoch) refl other)
