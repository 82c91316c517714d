-- What a line comes to can be done.
use Rattle.std.proofs.Common.{◌≡◌, ◌∙◌, ◌&&◌, ap, sym, subst, refl, ℕ, List, [], ◌∷◌, Bool, true, false, Option, Some, None, is_some, Result, Ok, Err, IfOk}
use Rattle.std.specs.Bool.{⊤}
use Rattle.std.specs.List.{AllByRecursion, list_all}
use Rattle.std.specs.Option.{option_map_or}
use Rattle.std.specs.Prelude.{IsSome}
use Rattle.rx_value.specs.Due.{◌>>◌, demand, lifted, or_fault}
use Rattle.rx_value.specs.Named.{named}
use Rattle.rx_value.proofs.Outcomes.{some_same}
use Rattle.rx_collection.specs.Held.{Held}
use Rattle.rx_handler.specs.Handlers.{Kinds}
use Rattle.rx_handler.specs.declared.kind.HandlerKind.{HandlerKind}
use Rattle.rx_record.specs.declared.record.MasterName.{MasterName}
use Rattle.rx_record.specs.declared.record.MasterName.TheVariants.{Local, Port}
use Rattle.rx_reply.specs.declared.refusal.Refusal.TheVariants.{NoHandler, NoStream}
use Rattle.rx_script.specs.Asked.{Asked, Collection, Insert, Bulk, Upsert, Patch, Update, Remove, Hook, Migrate, Get, Find, Count, Observe, Unobserve, Explain, Replicate, Turn, Sweep, Stream, Deliver, Unstream, Changes, Tick, Restart, Digest}
use Rattle.rx_script.specs.Line.{line_of}
use Rattle.rx_script.specs.declared.delivery.Delivery.{Delivery}
use Rattle.rx_script.specs.declared.fault.LineFault.{LineFault}
use Rattle.rx_script.specs.declared.happening.Happening.{Happening}
use Rattle.rx_session.specs.Session.{Session, stream_of}
use Rattle.rx_stream.specs.declared.stream.Stream.{Stream as StreamHere}
use Rattle.rx_sync.specs.Sweep.{HasHandler, sweep_steps}
use Rattle.rx_sync.specs.declared.sweeping.Step.{Step}
use Rattle.rx_world.specs.World.{World}
use Rattle.rx_world.specs.declared.replication.Replication.{Replication}
use Rattle.rx_writes.specs.Faults.{of_line}
use Rattle.rx_writes.specs.declared.fault.Fault.{Fault}
use Rattle.rx_writes.specs.declared.fault.Fault.TheVariants.{Refused, Memory}
use Rattle.rx_engine.specs.Calling.{CanCall}
use Rattle.rx_engine.specs.Lines.{Task, answered, turns, calls, sweeps, delivers, asked_outcome, asked_task, line_task, task, task_or_refusal, turn_to}
use Rattle.rx_engine.specs.Outcome.{collection_at}
use Rattle.rx_engine.specs.Replicate.{has_handler, takes_field}
use Rattle.rx_engine.specs.Streams.{deliver_over, replication_at}
use Rattle.rx_engine.specs.Sweeping.{WantedSweep, is_step_handled, swept_at}
use Rattle.rx_engine.specs.Turning.{CanTurn, is_handled, turned_at}

-- ---- what can be done

-- these are the turns of the tree of a collection, and their handlers are there
pub record IsSweptAt (kinds : Kinds) (root : List ℕ) (s : Session) (v : WantedSweep) : Type 0 where
  pub steps : v.steps ≡ sweep_steps s.world root
  pub handled : AllByRecursion (λ (step : Step). HasHandler kinds s.world step.name)
      (sweep_steps s.world root)

-- The replication of a turn is there with its master and its handler, that of a delivery has a
-- stream, and the turns of a sweep are those of a tree.
abbrev pub CanDo : Kinds → Session → Task → Type 0
CanDo kinds s (answered o) = Unit {0}
CanDo kinds s (turns u) = CanTurn kinds s u.name
CanDo kinds s (calls c) = CanCall kinds s c.name
CanDo kinds s (sweeps v) = (root : List ℕ) × IsSweptAt kinds root s v
CanDo kinds s (delivers d) = IsSome (stream_of d.name s)

-- ---- what was demanded

demanded : {A : Type 0} (b : Bool) (fault : Fault) (f : ⊤ → Result A Fault) (x : A)
    → (demand b fault >> f) ≡ Ok x → (b ≡ true) × (f tt ≡ Ok x)
demanded true fault f x is = (refl, is)
demanded false fault f x is = absurd (cc)

there : {A B : Type 0} (o : Option A) (fault : Fault) (f : A → Result B Fault) (x : B)
    → (or_fault fault o >> f) ≡ Ok x → (a : A) × (o ≡ Some a) × (f a ≡ Ok x)
there (Some a) fault f x is = (a, refl, is)
there None fault f x is = absurd (cc)

holds_of : {A : Type 0} (o : Option A) (f : A → Bool) → option_map_or f o false ≡ true
    → (a : A) × (o ≡ Some a) × (f a ≡ true)
holds_of (Some a) f is = (a, refl, is)
holds_of None f is = absurd (cc)

mapped : {A : Type 0} (P : Task → Type 0) (f : A → Task) (r : Result A Fault)
    → IfOk r (λ x. P (f x)) → IfOk (r >> λ x. Ok (f x)) P
mapped P f (Ok x) is = is
mapped P f (Err fault) is = tt

-- ---- a turn

-- the replication is held, and its handler is there
record IsTurnedAt (kinds : Kinds) (name : List ℕ) (s : Session) (r : Replication) : Type 0 where
  pub held : named s.world.replications name ≡ Some r
  pub kind : HandlerKind
  pub handler : named kinds r.handler ≡ Some kind

turned_so : (kinds : Kinds) (name : List ℕ) (s : Session) (r : Replication)
    → turned_at kinds name s ≡ Ok r → IsTurnedAt kinds name s r
turned_so kinds name s r is =
    let t = there (named s.world.replications name) (Refused _) _ r is in
    let d = demanded (is_handled kinds s t.0) (Refused _) _ r t.2 in
    let same : t.0 ≡ r = cc in
    let fork = holds_of (named s.world.collections t.0.fork)
    (λ fork. has_handler kinds fork.schema t.0.handler t.0.field) d.0 in
    let kind = holds_of (named kinds t.0.handler) (takes_field fork.0.schema t.0.field) fork.2 in
    subst (IsTurnedAt kinds name s) same
    (record { held = t.1; kind = kind.0; handler = kind.1 })

module _ (kinds : Kinds) (s : Session) (name : List ℕ) where
  module _ (batch budget : ℕ) where
    module _ (r : Replication) (at : IsTurnedAt kinds name s r) where
      turned_there : (port : ℕ) → r.master ≡ Port port → (link : Option (List Happening))
          → IfOk (turn_to (Port port) name batch budget link) (CanDo kinds s)
      turned_there port remote None = record {
        there = record { replication = r; held = at.held; port = port; remote = remote };
        kind = at.kind;
        handler = at.handler;
      }
      turned_there port remote (Some over) = tt

      turned_to : (m : MasterName) → r.master ≡ m → (link : Option (List Happening))
          → IfOk (turn_to m name batch budget link) (CanDo kinds s)
      turned_to (Local master) local link = record {
        here = record { replication = r; held = at.held; master = master; local = local };
        kind = at.kind;
        handler = at.handler;
      }
      turned_to (Port port) remote link = turned_there port remote link

    turned_by : (link : Option (List Happening)) (r : Result Replication Fault)
        → turned_at kinds name s ≡ r
        → IfOk (r >> λ r. turn_to r.master name batch budget link) (CanDo kinds s)
    turned_by link (Ok r) is = turned_to r (turned_so kinds name s r is) r.master refl link
    turned_by link (Err fault) is = tt

  -- ---- a delivery

  stream_by : (link : Option (List Delivery)) (o : Option StreamHere) → stream_of name s ≡ o
      → IfOk (or_fault (Refused NoStream) o >> λ st. Ok (delivers (deliver_over name link)))
      (CanDo kinds s)
  stream_by link (Some st) is = subst (λ (o : Option StreamHere). IsSome o) (sym is) refl
  stream_by link None is = tt

  delivered_by : (link : Option (List Delivery)) (r : Result Replication Fault)
      → IfOk ((r >> λ r. or_fault (Refused NoStream) (stream_of name s)) >> λ st.
      Ok (delivers (deliver_over name link))) (CanDo kinds s)
  delivered_by link (Ok r) = stream_by link (stream_of name s) refl
  delivered_by link (Err fault) = tt

-- ---- a sweep

kind_of : (o : Option HandlerKind) → is_some o ≡ true → (kind : HandlerKind) × (o ≡ Some kind)
kind_of (Some kind) is = (kind, refl)
kind_of None is = absurd (cc)

handler_of : (kinds : Kinds) (o : Option Replication)
    → option_map_or (λ r. is_some (named kinds r.handler)) o false ≡ true → (r : Replication)
    → o ≡ Some r → (kind : HandlerKind) × (named kinds r.handler ≡ Some kind)
handler_of kinds (Some x) is r at =
    let found = kind_of (named kinds x.handler) is in
    (found.0, ap (λ (y : Replication). named kinds y.handler) (sym (some_same at)) ∙ found.1)
handler_of kinds None is r at = absurd (cc)

both_hold : (a b : Bool) → (a && b) ≡ true → (a ≡ true) × (b ≡ true)
both_hold true true is = (refl, refl)
both_hold true false is = absurd (cc)
both_hold false b is = absurd (cc)

handled_all : (kinds : Kinds) (w : World) (steps : List Step)
    → list_all (is_step_handled kinds w) steps ≡ true
    → AllByRecursion (λ (step : Step). HasHandler kinds w step.name) steps
handled_all kinds w [] handled = tt
handled_all kinds w (step ∷ steps) handled =
    let both = both_hold (is_step_handled kinds w step)
    (list_all (is_step_handled kinds w) steps) handled in
    (handler_of kinds (named w.replications step.name) both.0, handled_all kinds w steps both.1)

module _ (kinds : Kinds) (s : Session) (root : List ℕ) (batch budget : ℕ) where
  abbrev swept_steps : List Step
  swept_steps = sweep_steps s.world root

  abbrev swept_so : WantedSweep
  swept_so = record { steps = swept_steps; batch = batch; budget = budget }

  checked : (b : Bool) → list_all (is_step_handled kinds s.world) swept_steps ≡ b
      → IfOk (demand b (Refused NoHandler) >> λ _. Ok swept_so) (IsSweptAt kinds root s)
  checked true all =
      record { steps = refl; handled = handled_all kinds s.world swept_steps all }
  checked false all = tt

  found : (r : Result Held Fault)
      → IfOk (r >> λ _. demand (list_all (is_step_handled kinds s.world) swept_steps)
      (Refused NoHandler) >> λ _. Ok swept_so) (IsSweptAt kinds root s)
  found (Ok c) = checked (list_all (is_step_handled kinds s.world) swept_steps) refl
  found (Err fault) = tt

  pub swept_by : IfOk (swept_at kinds root batch budget s) (IsSweptAt kinds root s)
  swept_by = found (collection_at root s)

  with_root : (r : Result WantedSweep Fault) → IfOk r (IsSweptAt kinds root s)
      → IfOk r (λ v. (root : List ℕ) × IsSweptAt kinds root s v)
  with_root (Ok v) is = (root, is)
  with_root (Err fault) is = tt

  swept_some : IfOk (swept_at kinds root batch budget s)
      (λ v. (root : List ℕ) × IsSweptAt kinds root s v)
  swept_some = with_root (swept_at kinds root batch budget s) swept_by

-- ---- a line

module _ (kinds : Kinds) (s : Session) where
  plain : (ask : Asked)
      → IfOk (asked_outcome kinds ask s >> λ o. Ok (answered o)) (CanDo kinds s)
  plain ask =
      mapped (CanDo kinds s) (λ o. answered o) (asked_outcome kinds ask s)
      (anything (asked_outcome kinds ask s))
    where
      anything : {A : Type 0} (r : Result A Fault) → IfOk r (λ x. Unit {0})
      anything (Ok x) = tt
      anything (Err fault) = tt

  can_ask : (ask : Asked) → IfOk (asked_task kinds ask s) (CanDo kinds s)
  can_ask (Turn name batch budget link) =
      turned_by kinds s name batch budget link (turned_at kinds name s) refl
  can_ask (Sweep name batch budget) =
      mapped (CanDo kinds s) (λ v. sweeps v) (swept_at kinds name batch budget s)
      (swept_some kinds s name batch budget)
  can_ask (Deliver name link) = delivered_by kinds s name link (replication_at name s)
  can_ask (Collection name schema) = plain (Collection name schema)
  can_ask (Insert coll doc) = plain (Insert coll doc)
  can_ask (Bulk coll docs) = plain (Bulk coll docs)
  can_ask (Upsert coll doc) = plain (Upsert coll doc)
  can_ask (Patch coll key set rev) = plain (Patch coll key set rev)
  can_ask (Update coll key update rev) = plain (Update coll key update rev)
  can_ask (Remove coll key rev) = plain (Remove coll key rev)
  can_ask (Hook coll when hook field) = plain (Hook coll when hook field)
  can_ask (Migrate coll schema steps) = plain (Migrate coll schema steps)
  can_ask (Get coll key) = plain (Get coll key)
  can_ask (Find coll query) = plain (Find coll query)
  can_ask (Count coll query) = plain (Count coll query)
  can_ask (Observe name coll query) = plain (Observe name coll query)
  can_ask (Unobserve name) = plain (Unobserve name)
  can_ask (Explain name) = plain (Explain name)
  can_ask (Replicate name fork master handler field) =
      plain (Replicate name fork master handler field)
  can_ask (Stream name) = plain (Stream name)
  can_ask (Unstream name) = plain (Unstream name)
  can_ask (Changes coll since batch) = plain (Changes coll since batch)
  can_ask (Tick at) = plain (Tick at)
  can_ask Restart = plain Restart
  can_ask (Digest coll) = plain (Digest coll)

  can_read : (read : Result Asked LineFault)
      → IfOk (lifted of_line read >> λ ask. asked_task kinds ask s) (CanDo kinds s)
  can_read (Ok ask) = can_ask ask
  can_read (Err fault) = tt

  can_task : (r : Result Task Fault) → IfOk r (CanDo kinds s) → CanDo kinds s (task_or_refusal r)
  can_task (Ok t) is = is
  can_task (Err (Refused refusal)) is = tt
  can_task (Err Memory) is = tt

  -- the task that a line is
  pub can_do : (line : List ℕ) → CanDo kinds s (task kinds line s)
  can_do line = can_task (line_task kinds line s) (can_read (line_of line))
