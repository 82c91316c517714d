-- What a taking keeps whatever was answered.
use Rattle.std.proofs.Common.{◌≡◌, ◌≢◌, ◌∙◌, ℕ, true, List, [], Some, Ok, unwrap_or, refl, sym, ap, subst}
use Rattle.rx_value.specs.Due.{◌>>=◌}
use Rattle.rx_value.specs.Named.{named}
use Rattle.rx_value.proofs.Outcomes.{some_then, some_same}
use Rattle.rx_schema.specs.declared.shape.Shape.{Shape}
use Rattle.rx_collection.specs.Held.{Held}
use Rattle.rx_handler.specs.Handlers.{Kinds}
use Rattle.rx_handler.specs.declared.kind.HandlerKind.{HandlerKind}
use Rattle.rx_wire.specs.declared.message.Reply.{Reply}
use Rattle.rx_replication.specs.Known.{with_learnt}
use Rattle.rx_replication.specs.Request.{IsCurrent}
use Rattle.rx_replication.specs.Sound.{IsForkSound}
use Rattle.rx_replication.specs.Taking.{KeepsKey, Resolve, Taking}
use Rattle.rx_replication.specs.Throughout.{DocumentsPass, KnownPass}
use Rattle.rx_replication.specs.Write.{AreByKey}
use Rattle.rx_replication.proofs.Commits.{write_wrote}
use Rattle.rx_replication.proofs.Takings.{taking_fork_side, taking_up_risen}
use Rattle.rx_fork.specs.Valid.{is_valid}
use Rattle.rx_fork.specs.declared.ask.Asked.{Asked}
use Rattle.rx_fork.proofs.Validity.{resolves_keys}
use Rattle.rx_record.specs.Content.{Content}
use Rattle.rx_record.specs.declared.record.MasterName.{MasterName}
use Rattle.rx_record.specs.declared.record.MasterName.TheVariants.{Port}
use Rattle.rx_world.specs.Made.{IsMadeWorld}
use Rattle.rx_world.specs.Replicating.{stays_or_rises}
use Rattle.rx_world.specs.Sound.{IsSoundWorld}
use Rattle.rx_world.specs.World.{World}
use Rattle.rx_world.specs.declared.replication.Replication.{Replication}
use Rattle.rx_world.proofs.Steps.{lawful_at}
use Rattle.rx_world.proofs.Valid.{valid_at}
use Rattle.rx_sync.specs.AnyReply.{ChangesNothingElse, EveryTaking, LosesNoUpdate, LowersNoCheckpoint, MayBeKept, StaysForkSound, StaysMade, StaysSoundAtPort, StaysValid, Through}
use Rattle.rx_sync.specs.Asking.{fork_in}
use Rattle.rx_sync.specs.Exchange.{world_after}
use Rattle.rx_sync.specs.Laws.{ComeSoundly, HasAnswered, IsDueIn, IsLawfulReplyIn}
use Rattle.rx_sync.specs.Taking.{resolve_for, taken, taken_by}
use Rattle.rx_sync.proofs.Calls.{taken_keeps}
use Rattle.rx_sync.proofs.Exchanges.{HasTaken, has_taken}
use Rattle.rx_sync.proofs.Leaves.{LeavesReply, leaves_reply, with_side}
use Rattle.rx_sync.proofs.Messages.{documents_pass, known_pass}
use Rattle.rx_sync.proofs.Staying.{made_after, stay_after}
use Rattle.rx_sync.proofs.Takings.{answer_differs, down_risen, rises_by}
use Rattle.rx_sync.proofs.Worlds.{by_key_at, fork_sound_at, linked_at}

-- what a taking that gave records was of
record IsFound (w : World) (kinds : Kinds) (name : List ℕ) (asked : Asked) (reply : Reply) (now : ℕ)
    (cs : List Content) : Type 0 where
  pub r : Replication
  pub at : named w.replications name ≡ Some r
  pub fork : Held
  pub held : named w.collections r.fork ≡ Some fork
  pub kind : HandlerKind
  pub handler : named kinds r.handler ≡ Some kind
  pub is : taken_by name now asked reply r fork kind ≡ Ok cs

found : (w : World) (kinds : Kinds) (name : List ℕ) (asked : Asked) (reply : Reply) (now : ℕ)
    (cs : List Content) → taken w kinds name asked reply now ≡ Some (Ok cs)
    → IsFound w kinds name asked reply now cs
found w kinds name asked reply now cs is =
    let a = some_then (named w.replications name) (λ r. fork_in w r >>= λ fork.
    named kinds r.handler >>= λ kind. Some (taken_by name now asked reply r fork kind)) (Ok cs)
    is in
    let b = some_then (fork_in w a.0) (λ fork. named kinds a.0.handler >>= λ kind.
    Some (taken_by name now asked reply a.0 fork kind)) (Ok cs) a.2 in
    let d = some_then (named kinds a.0.handler) (λ kind.
    Some (taken_by name now asked reply a.0 b.0 kind)) (Ok cs) b.2 in
    record {
      r = a.0;
      at = a.1;
      fork = b.0;
      held = b.1;
      kind = d.0;
      handler = d.1;
      is = some_same d.2;
    }

module _ (w : World) (kinds : Kinds) (name : List ℕ) (asked : Asked) (reply : Reply) (now : ℕ)
    (made : IsMadeWorld w) (sound : IsSoundWorld w) (due : IsDueIn w name asked)
    (lawful : IsLawfulReplyIn w name reply) (cs : List Content)
    (f : IsFound w kinds name asked reply now cs) where
  took : HasTaken w name f.r f.fork f.kind asked reply cs
  took =
      has_taken w made sound name f.r f.at f.fork f.held f.kind now asked reply
      (due f.r f.at f.fork f.held) (lawful f.r f.at f.fork f.held) cs f.is

  abbrev leaves : LeavesReply w name f.r f.fork f.kind asked reply now cs
  leaves =
      leaves_reply w made sound name f.r f.at f.fork f.held f.kind now asked reply
      (due f.r f.at f.fork f.held) (lawful f.r f.at f.fork f.held) cs f.is

  abbrev by : Resolve
  by = resolve_for f.kind f.r

  abbrev tk : Taking
  tk = leaves.taken_so.of.taken

  abbrev new : Held
  new = leaves.leaves.new

  abbrev next : Replication
  next = with_side f.r (with_learnt f.r.side.known tk.known) tk.up tk.down

  through : (P : Replication → Held → Replication → Held → Type 0) → P f.r f.fork next new
      → Through w cs name P
  through P kept = record {
    before = f.r;
    held = f.at;
    fork = f.fork;
    fork_held = f.held;
    next = next;
    then_held = leaves.leaves.learnt;
    same_fork = refl;
    new = new;
    new_held = leaves.leaves.there;
    kept = kept;
  }

  keys : KeepsKey by
  keys = resolves_keys f.kind (unwrap_or f.r.field [])

  by_key : AreByKey f.fork.documents
  by_key = by_key_at w made f.r.fork f.fork f.held

  fork_sound : IsForkSound f.fork.documents f.r.side.known f.r.side.up
  fork_sound = fork_sound_at w made sound name f.r f.fork f.at f.held

  current : IsCurrent f.fork.documents f.r.side.known f.r.side.down asked.request.ask
  current = (due f.r f.at f.fork f.held).current leaves.taken_so.unmoved

  up_rises : stays_or_rises f.r.side.up tk.up ≡ true
  up_rises =
      rises_by f.r.side.up tk.up
      (taking_up_risen by keys f.fork.documents f.r.side.known f.r.side.up f.r.side.down by_key
      fork_sound asked.request.ask reply.body tk current leaves.taken_so.of.is)

  down_rises : stays_or_rises f.r.side.down tk.down ≡ true
  down_rises =
      rises_by f.r.side.down tk.down
      (down_risen by f.fork f.r.side.up f.r.side.down asked.request.ask reply.body tk
      leaves.taken_so.fits leaves.taken_so.of.is)

  made_then : IsMadeWorld (world_after cs w)
  made_then = made_after w cs made took.next

  same_schema : new.schema ≡ f.fork.schema
  same_schema =
      let d = (stay_after cs w took.next).held f.r.fork f.fork f.held in
      ap (λ (c : Held). c.schema) (some_same (sym leaves.leaves.there ∙ d.1)) ∙ d.2

  documents_valid : DocumentsPass (is_valid f.fork.schema) new.documents
  documents_valid =
      subst (λ (s : Shape). DocumentsPass (is_valid s) new.documents) same_schema
      (documents_pass new
      (lawful_at (world_after cs w) f.r.fork new made_then.lawful leaves.leaves.there).lawful
      (valid_at (world_after cs w) f.r.fork new made_then.valid leaves.leaves.there))

  known_valid : KnownPass (is_valid f.fork.schema) next.side.known
  known_valid =
      let l = linked_at (world_after cs w) made_then name next leaves.leaves.learnt in
      subst (λ (s : Shape). KnownPass (is_valid s) next.side.known)
      (ap (λ (c : Held). c.schema) (some_same (sym l.held ∙ leaves.leaves.there)) ∙ same_schema)
      (known_pass (world_after cs w) name next l)

  stays_sound : IsForkSound new.documents next.side.known next.side.up
  stays_sound =
      taking_fork_side by keys f.fork.documents f.r.side.known f.r.side.up f.r.side.down by_key
      fork_sound asked.request.ask reply.body tk new.documents current
      (answer_differs reply.body (lawful f.r f.at f.fork f.held).apart) leaves.taken_so.of.is
      (write_wrote f.fork tk.rows now new leaves.leaves.wrote)

  at_port : (r : Replication) → named w.replications name ≡ Some r → (port : ℕ)
      → r.master ≡ Port port → ComeSoundly w cs
  at_port r r_at port is =
      let same : f.r.master ≡ Port port =
      ap (λ (r : Replication). r.master) (some_same (sym f.at ∙ r_at)) ∙ is in
      took.come (subst (λ (m : MasterName).
      HasAnswered w.collections m f.r.side.down asked reply) (sym same) tt)

-- ---- the laws

pub taking_may_come : EveryTaking MayBeKept
taking_may_come w kinds name asked reply now made sound due lawful cs is =
    (took w kinds name asked reply now made sound due lawful cs
    (found w kinds name asked reply now cs is)).next

pub taking_stays_made : EveryTaking StaysMade
taking_stays_made w kinds name asked reply now made sound due lawful cs is =
    made_then w kinds name asked reply now made sound due lawful cs
    (found w kinds name asked reply now cs is)

pub taking_lowers_none : EveryTaking LowersNoCheckpoint
taking_lowers_none w kinds name asked reply now made sound due lawful cs is =
    let f = found w kinds name asked reply now cs is in
    through w kinds name asked reply now made sound due lawful cs f
    (λ r fork next new. (stays_or_rises r.side.up next.side.up ≡ true)
    × (stays_or_rises r.side.down next.side.down ≡ true)) (
      up_rises w kinds name asked reply now made sound due lawful cs f,
      down_rises w kinds name asked reply now made sound due lawful cs f,
    )

pub taking_stays_valid : EveryTaking StaysValid
taking_stays_valid w kinds name asked reply now made sound due lawful cs is =
    let f = found w kinds name asked reply now cs is in
    through w kinds name asked reply now made sound due lawful cs f
    (λ r fork next new. DocumentsPass (is_valid fork.schema) new.documents
    × KnownPass (is_valid fork.schema) next.side.known) (
      documents_valid w kinds name asked reply now made sound due lawful cs f,
      known_valid w kinds name asked reply now made sound due lawful cs f,
    )

pub taking_stays_sound : EveryTaking StaysForkSound
taking_stays_sound w kinds name asked reply now made sound due lawful cs is =
    let f = found w kinds name asked reply now cs is in
    through w kinds name asked reply now made sound due lawful cs f
    (λ r fork next new. IsForkSound new.documents next.side.known next.side.up)
    (stays_sound w kinds name asked reply now made sound due lawful cs f)

pub taking_loses_none : EveryTaking LosesNoUpdate
taking_loses_none w kinds name asked reply now made sound due lawful cs is =
    let f = found w kinds name asked reply now cs is in
    taken_keeps w made sound name f.r f.at f.fork f.held kinds f.kind f.handler now asked reply due
    lawful cs f.is

pub taking_changes_nothing_else : EveryTaking ChangesNothingElse
taking_changes_nothing_else w kinds name asked reply now made sound due lawful cs is =
    let f = found w kinds name asked reply now cs is in
    let l = leaves w kinds name asked reply now made sound due lawful cs f in
    through w kinds name asked reply now made sound due lawful cs f
    (λ r fork next new.
    ((k : List ℕ) → k ≢ r.fork → named (world_after cs w).collections k ≡ named w.collections k)
    × ((k : List ℕ) → k ≢ name → named (world_after cs w).replications k ≡ named w.replications k))
    (l.leaves.others, l.leaves.apart)

pub taking_sound_at_port : EveryTaking StaysSoundAtPort
taking_sound_at_port w kinds name asked reply now made sound due lawful cs is =
    at_port w kinds name asked reply now made sound due lawful cs
    (found w kinds name asked reply now cs is)
