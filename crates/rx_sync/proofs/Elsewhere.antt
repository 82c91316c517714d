-- What a turn to a master that is elsewhere keeps, whatever is heard of it.
use Rattle.std.proofs.Common.{◌≡◌, ◌⊎◌, ◌∙◌, inl, inr, ℕ, zero, suc, ◌≤◌, List, [], ◌∷◌, Option, Some, None, Result, Ok, Err, refl, sym, ap, subst, arith, append-nil}
use Rattle.std.specs.List.{AllByRecursion}
use Rattle.std.specs.Option.{ForSome}
use Rattle.rx_value.specs.Due.{◌>>=◌}
use Rattle.rx_value.specs.Named.{named}
use Rattle.rx_value.specs.declared.state.State.{State}
use Rattle.rx_value.proofs.Outcomes.{some_same}
use Rattle.rx_schema.specs.declared.shape.Shape.{Shape}
use Rattle.rx_collection.specs.Held.{Held}
use Rattle.rx_wire.specs.Lawful.{IsBody, IsReply, IsState}
use Rattle.rx_wire.specs.Spelling.{reply_of}
use Rattle.rx_wire.specs.declared.fault.WireFault.{WireFault}
use Rattle.rx_wire.specs.declared.message.AskKind.{AskKind}
use Rattle.rx_wire.specs.declared.message.AskKind.TheVariants.{Push, Pull}
use Rattle.rx_wire.specs.declared.message.Body.{Body}
use Rattle.rx_wire.specs.declared.message.Body.TheVariants.{Conflicts, Docs}
use Rattle.rx_wire.specs.declared.message.Reply.{Reply}
use Rattle.rx_wire.proofs.Lawful.{reply_lawful}
use Rattle.rx_replication.proofs.Lists.{all_at}
use Rattle.rx_replication.specs.Throughout.{AllPass, KnownPass}
use Rattle.rx_handler.specs.Handlers.{Kinds}
use Rattle.rx_fork.specs.Valid.{is_valid}
use Rattle.rx_fork.specs.declared.ask.Asked.{Asked}
use Rattle.rx_record.specs.Content.{Content}
use Rattle.rx_reply.specs.declared.turn.Lost.{Lost}
use Rattle.rx_reply.specs.declared.turn.Lost.TheVariants as lost
use Rattle.rx_reply.specs.declared.turn.TurnEnd.{TurnEnd}
use Rattle.rx_reply.specs.declared.turn.TurnEnd.TheVariants as ended
use Rattle.rx_world.specs.World.{World}
use Rattle.rx_world.specs.declared.replication.Replication.{Replication}
use Rattle.rx_world.proofs.States.{valid_state}
use Rattle.rx_world.proofs.Steps.{lawful_at}
use Rattle.rx_world.proofs.Valid.{valid_at}
use Rattle.rx_sync.specs.Asking.{asked_in, fork_in}
use Rattle.rx_sync.specs.Asks.{Asks, AsksAreLawful, next_number, with_request}
use Rattle.rx_sync.specs.Exchange.{Course, Terms, world_after, lost_by}
use Rattle.rx_sync.specs.Laws.{ComeSoundly, IsDueIn, IsDueOf, IsLawfulReply, IsLawfulReplyIn, MayComeInTurn, RemembersLawful}
use Rattle.rx_sync.specs.Remote.{Heard, no_dial, no_wire, no_line, line, RemoteTurned, heard_course, heard_exchange, heard_on, lost_as, lost_or_no_time, once_heard, once_read, once_taken, over_wire, remote_turn, schema_in}
use Rattle.rx_sync.specs.RemoteLaws.{EachIsUnharmed, EveryCall, IsCallSound, IsHeardReply, IsReadyElsewhere, IsTakenUnharmed, IsUnharmed, MayCall, MayCallAgain}
use Rattle.rx_sync.specs.Taking.{taken}
use Rattle.rx_sync.specs.Turn.{course_in, end_by}
use Rattle.rx_sync.specs.declared.fault.TakeFault.{TakeFault}
use Rattle.rx_sync.specs.declared.fault.TakeFault.TheVariants as refused
use Rattle.rx_sync.proofs.AnyReply.{taking_changes_nothing_else, taking_loses_none, taking_lowers_none, taking_sound_at_port, taking_stays_sound, taking_stays_valid}
use Rattle.rx_sync.proofs.EveryTurn.{GoesOn, IsWellTurned, each_by, turn_by_well}
use Rattle.rx_sync.proofs.Exchanges.{taken_is}
use Rattle.rx_sync.proofs.Messages.{asked_at, due_of, known_pass, place_time}
use Rattle.rx_sync.proofs.Staying.{made_after, soundly_in_turn, stay_after, still_after}
use Rattle.rx_sync.proofs.Turns.{remembers_more}
use Rattle.rx_sync.proofs.Worlds.{for_fork, linked_at, sound_after}

-- ---- a reply that was read

each_valid : (s : Shape) (states : List State) → AllByRecursion (IsState s) states
    → AllPass (is_valid s) states
each_valid s states all = λ x member.
    let is = all_at (IsState s) states x all member in
    valid_state s x is.valid is.carried

lawful_by : (s : Shape) (reply : Reply) (body : Body) → IsBody s body
    → IsLawfulReply s (record reply { body = body })
lawful_by s reply (Conflicts states) is =
    record { valid = each_valid s states is.each; apart = is.distinct; timed = tt }
lawful_by s reply (Docs states (Some place)) is = record {
  valid = each_valid s states is.given.each;
  apart = is.given.distinct;
  timed = place_time place is.last;
}
lawful_by s reply (Docs states None) is =
    record { valid = each_valid s states is.given.each; apart = is.given.distinct; timed = tt }

-- it is lawful
pub read_lawful : (s : Shape) (bytes : List ℕ) (reply : Reply) → reply_of s bytes ≡ Ok reply
    → IsLawfulReply s reply
read_lawful s bytes reply is = lawful_by s reply reply.body (reply_lawful s bytes reply is).body

-- ---- the fork

pub record HasForkThere (w : World) (name : List ℕ) (r : Replication) : Type 0 where
  pub fork : Held
  pub held : named w.collections r.fork ≡ Some fork
  pub schema : schema_in w name ≡ Some fork.schema

module _ (w : World) (name : List ℕ) (kinds : Kinds) (ready : IsReadyElsewhere w name kinds) where
  abbrev here : Replication
  here = ready.there.replication

  pub fork_there : HasForkThere w name here
  fork_there =
      let l = linked_at w ready.made name here ready.there.held in
      record {
        fork = l.fork;
        held = l.held;
        schema = ap (λ (o : Option Replication).
            o >>= λ r. fork_in w r >>= λ fork. Some fork.schema) ready.there.held
            ∙ ap (λ (o : Option Held). o >>= λ fork. Some fork.schema) l.held;
      }

  -- what it asked is due
  pub due_there : (n batch : ℕ) → 1 ≤ batch → (asked : Asked)
      → asked_in w name n batch ≡ Some asked → IsDueIn w name asked
  due_there n batch some asked is = λ r at fork held.
      let l = linked_at w ready.made name r at in
      let fork_is : l.fork ≡ fork = some_same (sym l.held ∙ held) in
      subst (λ (a : Asked). IsDueOf r fork a)
      (asked_at w name n batch asked r fork at held is)
      (due_of fork r w.epoch n batch (lawful_at w r.fork fork ready.made.lawful held).lawful
      (valid_at w r.fork fork ready.made.valid held)
      (subst (λ (c : Held). KnownPass (is_valid c.schema) r.side.known) fork_is
      (known_pass w name r l)) some)

-- ---- an exchange

module _ (t : Terms) (w : World) (ready : IsReadyElsewhere w t.name t.kinds) (asked : Asked)
    (due : IsDueIn w t.name asked) where
  -- a reply that is lawful is taken soundly
  pub taken_there : (reply : Reply) → IsLawfulReplyIn w t.name reply → (cs : List Content)
      → taken w t.kinds t.name asked reply t.now ≡ Some (Ok cs) → ComeSoundly w cs
  taken_there reply lawful cs is =
      taking_sound_at_port w t.kinds t.name asked reply t.now ready.made ready.sound due lawful cs
      is ready.there.replication ready.there.held ready.there.port ready.there.remote

  lost_come : (ask : AskKind) (o : Option Lost) → ComeSoundly w (lost_or_no_time ask o).records
  lost_come ask None = tt
  lost_come ask (Some why) = tt

  taken_come : (reply : Reply) → IsLawfulReplyIn w t.name reply
      → (o : Option (Result (List Content) TakeFault))
      → taken w t.kinds t.name asked reply t.now ≡ o
      → ComeSoundly w (once_taken asked.request.ask reply.body o).records
  taken_come reply lawful None is = tt
  taken_come reply lawful (Some (Ok cs)) is =
      subst (λ (cs : List Content). ComeSoundly w cs) (sym (append-nil cs))
      (taken_there reply lawful cs is)
  taken_come reply lawful (Some (Err fault)) is = lost_come asked.request.ask (lost_as fault)

  -- one that was read is lawful
  pub lawful_there : (schema : Shape) → schema_in w t.name ≡ Some schema → (bytes : List ℕ)
      → (reply : Reply) → reply_of schema bytes ≡ Ok reply → IsLawfulReplyIn w t.name reply
  lawful_there schema at bytes reply is =
      let f = fork_there w t.name t.kinds ready in
      let same : schema ≡ f.fork.schema = some_same (sym at ∙ f.schema) in
      for_fork w t.name ready.there.replication f.fork
      (λ r fork. IsLawfulReply fork.schema reply) ready.there.held f.held
      (subst (λ (s : Shape). IsLawfulReply s reply) same (read_lawful schema bytes reply is))

  read_come : (schema : Shape) → schema_in w t.name ≡ Some schema → (bytes : List ℕ)
      → (o : Result Reply WireFault) → reply_of schema bytes ≡ o
      → ComeSoundly w (once_read t asked w o).records
  read_come schema at bytes (Err fault) is = tt
  read_come schema at bytes (Ok reply) is =
      taken_come reply (lawful_there schema at bytes reply is)
      (taken w t.kinds t.name asked reply t.now) refl

  heard_by : (bytes : List ℕ) (o : Option Shape) → schema_in w t.name ≡ o
      → ComeSoundly w (once_heard t asked w bytes o).records
  heard_by bytes None at = tt
  heard_by bytes (Some schema) at = read_come schema at bytes (reply_of schema bytes) refl

  -- whatever was heard
  pub heard_come : (h : Heard) → ComeSoundly w (heard_exchange t asked h w).records
  heard_come no_dial = tt
  heard_come no_wire = tt
  heard_come no_line = tt
  heard_come (line bytes) = heard_by bytes (schema_in w t.name) refl

  -- ---- nor does it harm the fork

  -- records that do no harm
  abbrev Harmless : Heard → List Content → Type 0
  Harmless h cs = (cs ≡ []) ⊎ IsTakenUnharmed w t.kinds t.name h cs

  -- those of a reply that was heard, and so is lawful
  unharmed_there : (h : Heard) (reply : Reply) → IsHeardReply w t.name h reply
      → IsLawfulReplyIn w t.name reply → (cs : List Content)
      → taken w t.kinds t.name asked reply t.now ≡ Some (Ok cs)
      → IsTakenUnharmed w t.kinds t.name h cs
  unharmed_there h reply heard lawful cs is = record {
    reply = reply;
    was_heard = heard;
    valid = taking_stays_valid w t.kinds t.name asked reply t.now ready.made ready.sound due
        lawful cs is;
    sound = taking_stays_sound w t.kinds t.name asked reply t.now ready.made ready.sound due
        lawful cs is;
    checkpoints = taking_lowers_none w t.kinds t.name asked reply t.now ready.made ready.sound due
        lawful cs is;
    updates = taking_loses_none w t.kinds t.name asked reply t.now ready.made ready.sound due
        lawful cs is;
    others = taking_changes_nothing_else w t.kinds t.name asked reply t.now ready.made
        ready.sound due lawful cs is;
  }

  lost_harmless : (ask : AskKind) (o : Option Lost) → (lost_or_no_time ask o).records ≡ []
  lost_harmless ask None = refl
  lost_harmless ask (Some why) = refl

  taken_harmless : (h : Heard) (reply : Reply) → IsHeardReply w t.name h reply
      → IsLawfulReplyIn w t.name reply → (o : Option (Result (List Content) TakeFault))
      → taken w t.kinds t.name asked reply t.now ≡ o
      → Harmless h (once_taken asked.request.ask reply.body o).records
  taken_harmless h reply heard lawful None is = inl refl
  taken_harmless h reply heard lawful (Some (Ok cs)) is =
      inr (subst (λ (cs : List Content). IsTakenUnharmed w t.kinds t.name h cs)
      (sym (append-nil cs)) (unharmed_there h reply heard lawful cs is))
  taken_harmless h reply heard lawful (Some (Err fault)) is =
      inl (lost_harmless asked.request.ask (lost_as fault))

  read_harmless : (schema : Shape) → schema_in w t.name ≡ Some schema → (bytes : List ℕ)
      → (o : Result Reply WireFault) → reply_of schema bytes ≡ o
      → Harmless (line bytes) (once_read t asked w o).records
  read_harmless schema at bytes (Err fault) is = inl refl
  read_harmless schema at bytes (Ok reply) is =
      taken_harmless (line bytes) reply
      (record { bytes = bytes; is_line = refl; schema = schema; at = at; reads = is })
      (lawful_there schema at bytes reply is) (taken w t.kinds t.name asked reply t.now) refl

  harmless_by : (bytes : List ℕ) (o : Option Shape) → schema_in w t.name ≡ o
      → Harmless (line bytes) (once_heard t asked w bytes o).records
  harmless_by bytes None at = inl refl
  harmless_by bytes (Some schema) at =
      read_harmless schema at bytes (reply_of schema bytes) refl

  -- whatever was heard
  heard_harmless : (h : Heard) → Harmless h (heard_exchange t asked h w).records
  heard_harmless no_dial = inl refl
  heard_harmless no_wire = inl refl
  heard_harmless no_line = inl refl
  heard_harmless (line bytes) = harmless_by bytes (schema_in w t.name) refl

-- ---- a turn

-- exchanges may go on
pub ready_there : (cs : List Content) (w : World) (name : List ℕ) (kinds : Kinds)
    → IsReadyElsewhere w name kinds → ComeSoundly w cs
    → IsReadyElsewhere (world_after cs w) name kinds
ready_there cs w name kinds ready come =
    let turn = soundly_in_turn w cs come in
    let s = still_after cs w name ready.there.replication turn ready.there.held in
    record {
      made = made_after w cs ready.made turn;
      sound = sound_after w cs ready.sound come;
      there = record {
        replication = s.now;
        held = s.held;
        port = ready.there.port;
        remote = s.master ∙ ready.there.remote;
      };
      kind = ready.kind;
      handler = ap (named kinds) s.handler ∙ ready.handler;
    }

-- what is remembered stays lawful
pub remembers_there : (cs : List Content) (w : World) (name : List ℕ) (kinds : Kinds) (a : Asks)
    → IsReadyElsewhere w name kinds → MayComeInTurn w cs → RemembersLawful w name a
    → RemembersLawful (world_after cs w) name a
remembers_there cs w name kinds a ready come lawful = λ r at fork held.
    let old = ready.there.replication in
    let l = linked_at w ready.made name old ready.there.held in
    let s = still_after cs w name old come ready.there.held in
    let c = (stay_after cs w come).held old.fork l.fork l.held in
    let fork_is : r.fork ≡ old.fork =
    ap (λ (r : Replication). r.fork) (some_same (sym at ∙ s.held)) ∙ s.fork in
    let same : c.0 ≡ fork =
    some_same (sym c.1 ∙ ap (named (world_after cs w).collections) (sym fork_is) ∙ held) in
    subst (λ (schema : Shape). AsksAreLawful schema a)
    (sym c.2 ∙ ap (λ (x : Held). x.schema) same) (lawful old ready.there.held l.fork l.held)

-- the schema of the fork stays
pub schema_after : (cs : List Content) (w : World) (name : List ℕ) (kinds : Kinds)
    → IsReadyElsewhere w name kinds → ComeSoundly w cs
    → schema_in (world_after cs w) name ≡ schema_in w name
unfolding ready_there
schema_after cs w name kinds ready come =
    let turn = soundly_in_turn w cs come in
    let old = ready.there.replication in
    let s = still_after cs w name old turn ready.there.held in
    let f = fork_there w name kinds ready in
    let then = fork_there (world_after cs w) name kinds (ready_there cs w name kinds ready come) in
    let c = (stay_after cs w turn).held old.fork f.fork f.held in
    let same : then.fork ≡ c.0 =
    some_same (sym then.held ∙ ap (named (world_after cs w).collections) s.fork ∙ c.1) in
    then.schema ∙ ap Some (ap (λ (x : Held). x.schema) same ∙ c.2) ∙ sym f.schema

-- a turn goes on only where a line was heard
lost_goes_not : (batch : ℕ) (why : Lost) (ask : AskKind)
    → end_by batch (Some (lost_by why ask)) ≡ None → ⊥
lost_goes_not batch why (Push rows) is = cc
lost_goes_not batch why (Pull place n) is = cc

pub goes_on_by_line : (t : Terms) (batch : ℕ) (h : Heard) (w : World) (a : Asks)
    (o : Option Asked) → end_by batch (heard_course t h w a o).came ≡ None
    → (l : List ℕ) × (h ≡ line l)
goes_on_by_line t batch h w a None is = absurd (cc)
goes_on_by_line t batch no_dial w a (Some asked) is =
    absurd (lost_goes_not batch lost.Dial asked.request.ask is)
goes_on_by_line t batch no_wire w a (Some asked) is =
    absurd (lost_goes_not batch lost.Wire asked.request.ask is)
goes_on_by_line t batch no_line w a (Some asked) is =
    absurd (lost_goes_not batch lost.Reply asked.request.ask is)
goes_on_by_line t batch (line l) w a (Some asked) is = (l, refl)

pub record CourseIsSound (t : Terms) (w : World) (c : Course) : Type 0 where
  pub come : ComeSoundly w c.records
  pub again : MayCall t (world_after c.records w) c.asks

pub heard_course_sound : (t : Terms) (batch : ℕ) → 1 ≤ batch → (h : Heard) (w : World) (a : Asks)
    → MayCall t w a
    → CourseIsSound t w (heard_course t h w a (asked_in w t.name (next_number a) batch))
heard_course_sound t batch some h w a may = by (asked_in w t.name (next_number a) batch) refl
  where
    by : (o : Option Asked) → asked_in w t.name (next_number a) batch ≡ o
        → CourseIsSound t w (heard_course t h w a o)
    by None is = record { come = tt; again = may }
    by (Some asked) is =
        let ready = may.ready in
        let due = due_there w t.name t.kinds ready (next_number a) batch some asked is in
        let come = heard_come t w ready asked due h in
        let f = fork_there w t.name t.kinds ready in
        let lawful = (due ready.there.replication ready.there.held f.fork f.held).lawful in
        let asks : RemembersLawful w t.name (with_request asked.request a) =
        remembers_more w t.name ready.there.replication f.fork asked.request a ready.there.held
        f.held lawful may.asks in
        record {
          come = come;
          again = record {
            ready = ready_there (heard_exchange t asked h w).records w t.name t.kinds ready come;
            asks = remembers_there (heard_exchange t asked h w).records w t.name t.kinds
                (with_request asked.request a) ready
                (soundly_in_turn w (heard_exchange t asked h w).records come) asks;
          };
        }

-- nothing holds of an end that doesn't of every one
abbrev AtAnyEnd : TurnEnd → World → Type 0
AtAnyEnd e w = Unit {0}

heard_goes_on : (t : Terms) (batch : ℕ) → 1 ≤ batch → (h : Heard) (w : World) (a : Asks)
    → MayCall t w a
    → GoesOn (MayCall t) AtAnyEnd batch w (course_in (over_wire t) batch h w a)
heard_goes_on t batch some h w a may =
    let sound = heard_course_sound t batch some h w a may in
    record { come = sound.come; again = sound.again; ends = λ e is. tt }

call_well : (t : Terms) (batch budget : ℕ) (hs : List Heard) (w : World) (a : Asks)
    → 1 ≤ batch → MayCall t w a
    → IsWellTurned (MayCall t) AtAnyEnd w (remote_turn t batch budget hs w a).turned
call_well t batch budget hs w a some may =
    turn_by_well (MayCall t) AtAnyEnd batch (over_wire t) (λ w a may. tt)
    (heard_goes_on t batch some) budget hs w a may

-- ---- no exchange harms the fork

course_unharmed : (t : Terms) (batch : ℕ) → 1 ≤ batch → (h : Heard) (w : World) (a : Asks)
    → MayCall t w a
    → IsUnharmed t w h (heard_course t h w a (asked_in w t.name (next_number a) batch))
course_unharmed t batch some h w a may = by (asked_in w t.name (next_number a) batch) refl
  where
    by : (o : Option Asked) → asked_in w t.name (next_number a) batch ≡ o
        → IsUnharmed t w h (heard_course t h w a o)
    by None is = inl refl
    by (Some asked) is =
        heard_harmless t w may.ready asked
        (due_there w t.name t.kinds may.ready (next_number a) batch some asked is) h

-- a turn without a wire
lost_ends : (batch : ℕ) (why : Lost) (ask : AskKind)
    → end_by batch (Some (lost_by why ask)) ≡ Some ended.Lost
lost_ends batch why (Push rows) = refl
lost_ends batch why (Pull place n) = refl

-- the first exchange is lost, and it is the only one
abbrev pub missed : Asks → Asked → List Heard → RemoteTurned
missed a asked later = record {
  turned = record {
    records = [];
    asks = with_request asked.request a;
    exchanges = lost_by lost.Dial asked.request.ask ∷ [];
    ended = ended.Lost;
  };
  requests = asked.request ∷ [];
  later = later;
}

pub missed_turn : (t : Terms) (batch budget : ℕ) (w : World) (a : Asks) (asked : Asked)
    → asked_in w t.name (next_number a) batch ≡ Some asked → 1 ≤ budget → (later : List Heard)
    → remote_turn t batch budget (no_dial ∷ later) w a ≡ missed a asked later
missed_turn t batch zero w a asked is some later = absurd (omega (arith, some))
missed_turn t batch (suc m) w a asked is some later =
    ap (λ (o : Option Asked). on o (end_by batch (course o).came)) is
    ∙ ap (on (Some asked)) (lost_ends batch lost.Dial asked.request.ask)
  where
    course : Option Asked → Course
    course o = heard_course t no_dial w a o

    on : Option Asked → Option TurnEnd → RemoteTurned
    on o end =
        heard_on (course o) o later end
        (remote_turn t batch m later (world_after (course o).records w) (course o).asks)

-- ---- the laws

pub remote_turn_sound : EveryCall IsCallSound
remote_turn_sound t batch budget hs w a some may = (call_well t batch budget hs w a some may).come

pub remote_turn_again : EveryCall MayCallAgain
remote_turn_again t batch budget hs w a some may = (call_well t batch budget hs w a some may).again

pub remote_turn_unharmed : EveryCall EachIsUnharmed
remote_turn_unharmed t batch budget hs w a some may =
    each_by (MayCall t) AtAnyEnd batch (over_wire t) (λ w a may. tt) (heard_goes_on t batch some)
    (λ w a h c. IsUnharmed t w h c) (course_unharmed t batch some) budget hs w a may

-- ---- what the calls owe

module _ (w : World) (name : List ℕ) (kinds : Kinds) (ready : IsReadyElsewhere w name kinds)
    (asked : Asked) (reply : Reply) (now : ℕ) where
  -- the taking that there is
  pub taken_so : (x : Result (List Content) TakeFault)
      → ForSome (taken w kinds name asked reply now) (λ due. due ≡ x)
      → taken w kinds name asked reply now ≡ Some x
  taken_so x due =
      let f = fork_there w name kinds ready in
      let at = taken_is w kinds name asked reply now ready.there.replication f.fork ready.kind
      ready.there.held f.held ready.handler in
      at ∙ ap Some (due _ at)

  -- or its fault, unless memory is wanting
  pub refused_so : (fault : TakeFault) → (fault ≡ refused.Memory → ⊥)
      → ForSome (taken w kinds name asked reply now)
      (λ due. (fault ≡ refused.Memory) ⊎ (due ≡ Err fault))
      → taken w kinds name asked reply now ≡ Some (Err fault)
  refused_so fault other due =
      taken_so (Err fault) (λ x at. elim (due x at) [ inl is ↦ absurd (other is) | inr is ↦ is ])

-- a reply that was read is lawful for the fork
pub read_lawful_in : (w : World) (name : List ℕ) (kinds : Kinds) → IsReadyElsewhere w name kinds
    → (schema : Shape) → schema_in w name ≡ Some schema → (reply : Reply) → IsReply schema reply
    → IsLawfulReplyIn w name reply
read_lawful_in w name kinds ready schema at reply is =
    let f = fork_there w name kinds ready in
    let same : schema ≡ f.fork.schema = some_same (sym at ∙ f.schema) in
    for_fork w name ready.there.replication f.fork (λ r fork. IsLawfulReply fork.schema reply)
    ready.there.held f.held
    (subst (λ (s : Shape). IsLawfulReply s reply) same (lawful_by schema reply reply.body is.body))
