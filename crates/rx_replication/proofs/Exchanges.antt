-- An exchange is three steps.
use Rattle.std.proofs.Common.{◌≡◌, ℕ, ◌+◌, Bool, true, cond, ◌&&◌, ◌==◌, Option, Some, None, refl, ap, ◌∙◌, eq-eqb}
use Rattle.rx_value.proofs.Outcomes.{some_same, not_none}
use Rattle.rx_collection.specs.Held.{Held}
use Rattle.rx_collection.specs.Time.{last_lwt}
use Rattle.rx_replication.specs.Exchange.{Link, Exchange, asked, link_with, link_after_taking, answered_by}
use Rattle.rx_replication.specs.Left.{link_of, ExchangesAreSteps}
use Rattle.rx_replication.specs.Master.{body_of, master_then}
use Rattle.rx_replication.specs.Steps.{System, request_of, with_request, with_reply, with_taking, taken_in, system_after}
use Rattle.rx_replication.specs.Steps.Step.{Arrive}
use Rattle.rx_replication.specs.Taking.{Resolve, Taking, taking}
use Rattle.rx_replication.specs.Write.{write}

module _ (resolve : Resolve) (w : System) (x : Exchange) (next : Link) where
  abbrev requested : System
  requested = with_request w (request_of w x.batch)

  abbrev handled : Held → System
  handled m = with_reply requested (request_of w x.batch) (Some m)

  same_both : (a b c : ℕ) → (a == a && b == b && c == c) ≡ true
  same_both a b c =
      λ i. eq-eqb a a refl i && eq-eqb b b refl i && eq-eqb c c refl i

  taken_step : (m : Held) (t : Taking) (o : Option Held)
      → link_with (link_of w) m t o ≡ Some next → link_of (with_taking (handled m) t o) ≡ next
  taken_step m t None e = not_none e
  taken_step m t (Some fork) e = some_same e

  arrived_step : (m : Held) (o : Option Taking)
      → link_after_taking (link_of w) m o x.taken ≡ Some next
      → link_of (taken_in (handled m) o x.taken) ≡ next
  arrived_step m None e = not_none e
  arrived_step m (Some t) e = taken_step m t (write w.fork t.rows x.taken) e

  handled_step : (o : Option Held)
      → answered_by resolve (link_of w) (asked (link_of w) x.batch) o x.taken ≡ Some next
      → link_of
      (system_after resolve (with_reply requested (request_of w x.batch) o) (Arrive 0 x.taken))
      ≡ next
  handled_step None e = not_none e
  handled_step (Some m) e =
      ap (λ (b : Bool). link_of (cond b (taken_in (handled m)
      (taking resolve w.fork.documents w.up w.down (asked (link_of w) x.batch)
      (body_of w.master.documents (asked (link_of w) x.batch))) x.taken) (handled m)))
      (same_both w.epoch (w.n + 1) (last_lwt w.fork.documents))
      ∙ arrived_step m (taking resolve w.fork.documents w.up w.down (asked (link_of w) x.batch)
      (body_of w.master.documents (asked (link_of w) x.batch))) e

-- of every moment
pub exchange_steps : ExchangesAreSteps
exchange_steps resolve w x next e =
    handled_step resolve w x next
    (master_then w.master (asked (link_of w) x.batch) x.handled) e
