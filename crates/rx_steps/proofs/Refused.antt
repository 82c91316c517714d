-- Which replies are never taken.
use Rattle.std.proofs.Common.{◌≡◌, ◌≢◌, ◌∙◌, ℕ, ◌==◌, ◌&&◌, Bool, true, false, List, Result, Err, refl, sym, ap, subst, inl, inr, eq-eqb}
use Rattle.std.proofs.lemmas.Bool.{ne_eqb}
use Rattle.rx_value.specs.Due.{◌>>◌, demand, lifted}
use Rattle.rx_value.specs.Named.{named}
use Rattle.rx_value.proofs.Outcomes.{some_same}
use Rattle.rx_document.specs.Documents.{Documents}
use Rattle.rx_collection.specs.Held.{Held}
use Rattle.rx_collection.specs.Time.{last_lwt}
use Rattle.rx_meta.specs.Side.{Side}
use Rattle.rx_wire.specs.declared.message.Reply.{Reply}
use Rattle.rx_replication.specs.Taking.{Resolve}
use Rattle.rx_handler.specs.declared.kind.HandlerKind.{HandlerKind}
use Rattle.rx_fork.specs.Accept.{accepted, answered}
use Rattle.rx_fork.specs.declared.accept.ExchangePlan.{ExchangePlan}
use Rattle.rx_fork.specs.declared.ask.Asked.{Asked}
use Rattle.rx_fork.specs.declared.fault.AcceptFault.{AcceptFault}
use Rattle.rx_fork.specs.declared.fault.AcceptFault.TheVariants as refused
use Rattle.rx_world.specs.declared.replication.Replication.{Replication}
use Rattle.rx_sync.specs.Taking.{recorded, resolve_for, take_fault, taken_by}
use Rattle.rx_sync.specs.declared.fault.TakeFault.TheVariants.{Moved}
use Rattle.rx_steps.specs.Takings.{ForeignIsRefused, IsForeign, MovedIsRefused}
use Rattle.rx_steps.proofs.Found.{taking_of}

-- a fault of what was accepted is that of the taking
refused_by : (name : List ℕ) (now : ℕ) (asked : Asked) (reply : Reply) (r : Replication)
    (fork : Held) (kind : HandlerKind) (fault : AcceptFault)
    → accepted (resolve_for kind r) fork.documents r.side asked reply ≡ Err fault
    → taken_by name now asked reply r fork kind ≡ Err (take_fault fault)
refused_by name now asked reply r fork kind fault is =
    ap (λ (o : Result ExchangePlan AcceptFault).
    lifted take_fault o >> recorded name now fork r.side) is

never_both : (a : Bool) → (a && false) ≡ false
never_both true = refl
never_both false = refl

numbers_differ : (asked : Asked) (reply : Reply) → IsForeign asked reply
    → (reply.epoch == asked.request.epoch && reply.n == asked.request.n) ≡ false
numbers_differ asked reply (inl other) =
    ap (λ (b : Bool). b && reply.n == asked.request.n)
    (ne_eqb reply.epoch asked.request.epoch other)
numbers_differ asked reply (inr other) =
    ap (λ (b : Bool). reply.epoch == asked.request.epoch && b)
    (ne_eqb reply.n asked.request.n other)
    ∙ never_both (reply.epoch == asked.request.epoch)

numbers_agree : (asked : Asked) (reply : Reply) → reply.epoch ≡ asked.request.epoch
    → reply.n ≡ asked.request.n
    → (reply.epoch == asked.request.epoch && reply.n == asked.request.n) ≡ true
numbers_agree asked reply epoch n =
    ap (λ (b : Bool). b && reply.n == asked.request.n)
    (eq-eqb reply.epoch asked.request.epoch epoch)
    ∙ eq-eqb reply.n asked.request.n n

module _ (by : Resolve) (fork : Documents) (side : Side) (asked : Asked) (reply : Reply) where
  abbrev once_moved : Bool → Result ExchangePlan AcceptFault
  once_moved b =
      demand b (refused.Moved asked.lwt (last_lwt fork))
      >> λ _. answered by fork side asked.request.ask reply.body

  abbrev once_foreign : Bool → Result ExchangePlan AcceptFault
  once_foreign b =
      demand b (refused.Foreign reply.epoch reply.n)
      >> λ _. once_moved (last_lwt fork == asked.lwt)

  foreign_refused : IsForeign asked reply
      → accepted by fork side asked reply ≡ Err (refused.Foreign reply.epoch reply.n)
  foreign_refused other = ap once_foreign (numbers_differ asked reply other)

  moved_refused : reply.epoch ≡ asked.request.epoch → reply.n ≡ asked.request.n
      → last_lwt fork ≢ asked.lwt
      → accepted by fork side asked reply ≡ Err (refused.Moved asked.lwt (last_lwt fork))
  moved_refused epoch n other =
      ap once_foreign (numbers_agree asked reply epoch n)
      ∙ ap once_moved (ne_eqb (last_lwt fork) asked.lwt other)

-- ---- the laws

pub foreign_is_refused : ForeignIsRefused
foreign_is_refused w kinds name asked reply now other due is =
    let f = taking_of w kinds name asked reply now due is in
    sym f.is
    ∙ refused_by name now asked reply f.r f.fork f.kind (refused.Foreign reply.epoch reply.n)
    (foreign_refused (resolve_for f.kind f.r) f.fork.documents f.r.side asked reply other)

pub moved_is_refused : MovedIsRefused
moved_is_refused w kinds name asked reply now epoch n r at fork held other due is =
    let f = taking_of w kinds name asked reply now due is in
    let same : f.r ≡ r = some_same (sym f.at ∙ at) in
    let fork_is : f.fork ≡ fork =
    some_same (sym f.held ∙ ap (λ (r : Replication). named w.collections r.fork) same ∙ held) in
    subst (λ (fork : Held). last_lwt fork.documents ≢ asked.lwt
    → due ≡ Err (Moved asked.lwt (last_lwt fork.documents))) fork_is
    (λ other. sym f.is
    ∙ refused_by name now asked reply f.r f.fork f.kind
    (refused.Moved asked.lwt (last_lwt f.fork.documents))
    (moved_refused (resolve_for f.kind f.r) f.fork.documents f.r.side asked reply epoch n other))
    other
