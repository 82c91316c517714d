-- A pull from a master elsewhere leaves nothing to be pushed, whoever answered it, and if nobody
-- did.
use Rattle.std.proofs.Common.{◌≡◌, ◌∙◌, ℕ, ◌≤◌, true, List, [], length, Option, Some, None, Result, Ok, Err, refl, sym, ap, subst, append-nil}
use Rattle.rx_value.specs.Named.{named}
use Rattle.rx_value.proofs.Outcomes.{some_same}
use Rattle.rx_document.specs.declared.place.Place.{Place}
use Rattle.rx_document.specs.declared.stored.Stored.{Stored}
use Rattle.rx_replication.specs.Request.{IsCurrent}
use Rattle.rx_replication.proofs.Taken.{current_pull, none_pending-known}
use Rattle.rx_schema.specs.declared.shape.Shape.{Shape}
use Rattle.rx_wire.specs.Spelling.{reply_of}
use Rattle.rx_wire.specs.declared.fault.WireFault.{WireFault}
use Rattle.rx_wire.specs.declared.message.AskKind.{AskKind}
use Rattle.rx_wire.specs.declared.message.AskKind.TheVariants.{Push, Pull}
use Rattle.rx_wire.specs.declared.message.Body.{Body}
use Rattle.rx_wire.specs.declared.message.Body.TheVariants.{Conflicts, Docs}
use Rattle.rx_wire.specs.declared.message.Reply.{Reply}
use Rattle.rx_fork.specs.declared.ask.Asked.{Asked}
use Rattle.rx_record.specs.Content.{Content}
use Rattle.rx_reply.specs.declared.turn.Exchanged.{Exchanged}
use Rattle.rx_reply.specs.declared.turn.Lost.{Lost}
use Rattle.rx_reply.specs.declared.turn.Lost.TheVariants as lost
use Rattle.rx_world.specs.Made.{IsMadeWorld}
use Rattle.rx_world.specs.World.{World}
use Rattle.rx_world.specs.declared.replication.Replication.{Replication}
use Rattle.rx_sync.specs.Asking.{asked_in, pending_in}
use Rattle.rx_sync.specs.Asks.{Asks, next_number}
use Rattle.rx_sync.specs.Exchange.{Planned, Terms, world_after, asked_to_pull, has_pulled, lost_by, taken_as}
use Rattle.rx_sync.specs.Laws.{IsDueIn, IsLawfulReplyIn}
use Rattle.rx_sync.specs.Remote.{Heard, no_dial, no_wire, no_line, line, heard_course, heard_exchange, lost_as, lost_or_no_time, once_heard, once_read, once_taken, schema_in}
use Rattle.rx_sync.specs.RemoteLaws.{IsReadyElsewhere, MayCall}
use Rattle.rx_sync.specs.Taking.{taken}
use Rattle.rx_sync.specs.declared.fault.TakeFault.{TakeFault}
use Rattle.rx_sync.proofs.Elsewhere.{due_there, fork_there, lawful_there}
use Rattle.rx_sync.proofs.Exchanges.{taken_is}
use Rattle.rx_sync.proofs.Leaves.{leaves_reply}
use Rattle.rx_sync.proofs.Messages.{asked_at}
use Rattle.rx_sync.proofs.Pulls.{none_pending, pending_is, taken_leaves_none}
use Rattle.rx_sync.proofs.Worlds.{by_key_at, linked_at}

-- where a lost exchange asked for a pull, that was its request
lost_pull : (why : Lost) (ask : AskKind) → asked_to_pull (Some (lost_by why ask)) ≡ true
    → (p : Option Place) × (b : ℕ) × (ask ≡ Pull p b)
lost_pull why (Push rows) is = absurd (cc)
lost_pull why (Pull p b) is = (p, b, refl)

-- of a reply that is taken, to have pulled and to have asked for it is the same
taken_pull : (ask : AskKind) (body : Body)
    → has_pulled (Some (taken_as ask body)) ≡ asked_to_pull (Some (taken_as ask body))
taken_pull (Push rows) (Conflicts cs) = refl
taken_pull (Push rows) (Docs ss to) = refl
taken_pull (Pull p b) (Conflicts cs) = refl
taken_pull (Pull p b) (Docs ss to) = refl

-- a pull is asked for only where nothing is to be pushed
pub lost_leaves_none : (w : World) → IsMadeWorld w → (name : List ℕ) (r : Replication)
    → named w.replications name ≡ Some r → (n batch : ℕ) → 1 ≤ batch → (asked : Asked)
    → asked_in w name n batch ≡ Some asked → (why : Lost)
    → asked_to_pull (Some (lost_by why asked.request.ask)) ≡ true → pending_in w name ≡ Some 0
lost_leaves_none w made name r at n batch some asked is why pulls =
    let pull = lost_pull why asked.request.ask pulls in
    let l = linked_at w made name r at in
    let same = asked_at w name n batch asked r l.fork at l.held is in
    let current : IsCurrent l.fork.documents r.side.known r.side.down (Pull pull.0 pull.1) =
    subst (IsCurrent l.fork.documents r.side.known r.side.down) pull.2
    (subst (λ (a : Asked). IsCurrent l.fork.documents r.side.known r.side.down a.request.ask) same
    (batch, some, refl)) in
    let by_key = by_key_at w made r.fork l.fork l.held in
    pending_is w name r l.fork at l.held
    ∙ ap (λ (ds : List Stored). Some (length ds))
    (none_pending l.fork.documents r.side.known by_key
    (none_pending-known l.fork.documents r.side.known by_key
    (current_pull l.fork.documents r.side.known r.side.down pull.0 pull.1 by_key current)))

module _ (t : Terms) (w : World) (ready : IsReadyElsewhere w t.name t.kinds) (n batch : ℕ)
    (some : 1 ≤ batch) (asked : Asked) (is_asked : asked_in w t.name n batch ≡ Some asked)
    (due : IsDueIn w t.name asked) where
  abbrev ask : AskKind
  ask = asked.request.ask

  -- after such records, where it asked for a pull, nothing is to be pushed
  abbrev NoneAfter : List Content → Option Exchanged → Type 0
  NoneAfter cs came = asked_to_pull came ≡ true → pending_in (world_after cs w) t.name ≡ Some 0

  abbrev LeavesNone : Planned → Type 0
  LeavesNone p = NoneAfter p.records p.came

  lost_leaves : (why : Lost) → NoneAfter [] (Some (lost_by why ask))
  lost_leaves why =
      lost_leaves_none w ready.made t.name ready.there.replication ready.there.held n batch some
      asked is_asked why

  taken_pulls : (reply : Reply) → IsLawfulReplyIn w t.name reply → (cs : List Content)
      → taken w t.kinds t.name asked reply t.now ≡ Some (Ok cs)
      → NoneAfter cs (Some (taken_as ask reply.body))
  taken_pulls reply lawful cs is pulled =
      let r : Replication = ready.there.replication in
      let f = fork_there w t.name t.kinds ready in
      let at = ready.there.held in
      let here = due r at f.fork f.held in
      let fits = lawful r at f.fork f.held in
      taken_leaves_none w ready.made t.name r f.fork f.held ready.kind t.now asked reply here fits
      cs
      (leaves_reply w ready.made ready.sound t.name r at f.fork f.held ready.kind t.now asked reply
      here fits cs
      (some_same (sym (taken_is w t.kinds t.name asked reply t.now r f.fork ready.kind at f.held
      ready.handler) ∙ is))) (taken_pull ask reply.body ∙ pulled)

  lost_or_none : (o : Option Lost) → LeavesNone (lost_or_no_time ask o)
  lost_or_none None = λ is. absurd (cc)
  lost_or_none (Some why) = lost_leaves why

  taken_leaves : (reply : Reply) → IsLawfulReplyIn w t.name reply
      → (o : Option (Result (List Content) TakeFault))
      → taken w t.kinds t.name asked reply t.now ≡ o → LeavesNone (once_taken ask reply.body o)
  taken_leaves reply lawful None is = λ same. absurd (cc)
  taken_leaves reply lawful (Some (Ok cs)) is =
      subst (λ (cs : List Content). NoneAfter cs (Some (taken_as ask reply.body)))
      (sym (append-nil cs)) (taken_pulls reply lawful cs is)
  taken_leaves reply lawful (Some (Err fault)) is = lost_or_none (lost_as fault)

  read_leaves : (schema : Shape) → schema_in w t.name ≡ Some schema → (bytes : List ℕ)
      → (o : Result Reply WireFault) → reply_of schema bytes ≡ o
      → LeavesNone (once_read t asked w o)
  read_leaves schema at bytes (Err fault) is = lost_leaves lost.Reply
  read_leaves schema at bytes (Ok reply) is =
      taken_leaves reply (lawful_there t w ready asked due schema at bytes reply is)
      (taken w t.kinds t.name asked reply t.now) refl

  line_leaves : (bytes : List ℕ) (o : Option Shape) → schema_in w t.name ≡ o
      → LeavesNone (once_heard t asked w bytes o)
  line_leaves bytes None at = λ is. absurd (cc)
  line_leaves bytes (Some schema) at = read_leaves schema at bytes (reply_of schema bytes) refl

  -- whatever was heard
  heard_leaves : (h : Heard) → LeavesNone (heard_exchange t asked h w)
  heard_leaves no_dial = lost_leaves lost.Dial
  heard_leaves no_wire = lost_leaves lost.Wire
  heard_leaves no_line = lost_leaves lost.Reply
  heard_leaves (line bytes) = line_leaves bytes (schema_in w t.name) refl

-- after an exchange that asked for a pull nothing is to be pushed
pub heard_course_pulled : (t : Terms) (batch : ℕ) → 1 ≤ batch → (h : Heard) (w : World) (a : Asks)
    → MayCall t w a
    → (let c = heard_course t h w a (asked_in w t.name (next_number a) batch) in
    asked_to_pull c.came ≡ true → pending_in (world_after c.records w) t.name ≡ Some 0)
heard_course_pulled t batch some h w a may = by (asked_in w t.name (next_number a) batch) refl
  where
    by : (o : Option Asked) → asked_in w t.name (next_number a) batch ≡ o
        → asked_to_pull (heard_course t h w a o).came ≡ true
        → pending_in (world_after (heard_course t h w a o).records w) t.name ≡ Some 0
    by None is = λ same. absurd (cc)
    by (Some asked) is =
        heard_leaves t w may.ready (next_number a) batch some asked is
        (due_there w t.name t.kinds may.ready (next_number a) batch some asked is) h
