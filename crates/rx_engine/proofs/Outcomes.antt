-- What no line does but the one that is asked for it.
use Rattle.std.proofs.Common.{◌≡◌, ◌⊎◌, inl, inr, ℕ, length, not, nat_lt, is_none, List, ◌∷◌, [], map, Bool, true, false, true≢false, Option, Some, None, option_map, Result, Ok, Err, refl, sym, ◌∙◌, ap, subst}
use Rattle.serde_json.specs.Data.{Data}
use Rattle.rx_value.specs.Due.{◌>>◌, demand, lifted, or_fault, unless}
use Rattle.rx_value.specs.Named.{named}
use Rattle.rx_value.specs.declared.state.State.{State}
use Rattle.rx_schema.specs.Reading.{schema_of}
use Rattle.rx_schema.specs.declared.shape.Shape.{Shape}
use Rattle.rx_collection.specs.Held.{Held}
use Rattle.rx_collection.specs.Since.{since}
use Rattle.rx_digest.specs.Digest.{digest_of}
use Rattle.rx_collection.specs.Commit.{rows_of}
use Rattle.rx_collection.specs.Time.{stamp}
use Rattle.rx_record.specs.Content.{Content, replication, rows}
use Rattle.rx_record.specs.declared.record.MasterName.{MasterName}
use Rattle.rx_record.specs.declared.record.MasterName.TheVariants.{Local, Port}
use Rattle.rx_record.specs.declared.record.RowOut.{RowOut}
use Rattle.rx_handler.specs.Handlers.{Kinds}
use Rattle.rx_query.specs.QuerySpec.{QuerySpec as Query}
use Rattle.rx_reply.specs.Answer.{Answer, refused, insert, upsert, patch, update, remove, hook as hooked, migrate as migrated, stream as streamed, unstream as unstreamed, get, find, count, observe, unobserve, explain, replicate, tick, digest}
use Rattle.rx_reply.specs.declared.refusal.Refusal.{Refusal}
use Rattle.rx_reply.specs.declared.refusal.Refusal.TheVariants.{Chain, Clock, Exists, NoHandler, NoHook, NoQuery, Remote, SchemaDiffers, TooMany}
use Rattle.rx_reply.specs.Reply.{is_refusal}
use Rattle.rx_script.specs.Asked.{Asked, Collection, Insert, Bulk, Upsert, Patch, Update, Remove, Hook, Migrate, Get, Find, Count, Observe, Unobserve, Explain, Replicate, Turn, Sweep, Stream, Deliver, Unstream, Changes, Tick, Restart, Digest}
use Rattle.rx_script.specs.Line.{line_of}
use Rattle.rx_script.specs.declared.fault.LineFault.{LineFault}
use Rattle.rx_script.specs.declared.happening.Happening.{Happening}
use Rattle.rx_session.specs.Doing.{Doing, nothing, restart, attach, close_stream, migrate, open_stream, set_clock, unwatch, watch, write}
use Rattle.rx_session.specs.Session.{Session, counts_of, first_observed, is_observed, stream_of}
use Rattle.rx_stream.specs.declared.stream.Stream.{Stream as StreamHere}
use Rattle.rx_sync.specs.Handling.{local_name}
use Rattle.rx_migrate.specs.declared.step.Step.{Step}
use Rattle.rx_world.specs.Chain.{may_follow}
use Rattle.rx_world.specs.Migrating.{is_in_group}
use Rattle.rx_world.specs.Migration.{migration_of}
use Rattle.rx_world.specs.Touch.{IsNoExchange}
use Rattle.rx_world.specs.World.{World, max_replications}
use Rattle.rx_world.specs.Commit.{commit_to, out_of}
use Rattle.rx_engine.specs.Shown.{WritesNoExchange}
use Rattle.rx_writes.specs.Documents.{document_at, next_revision}
use Rattle.rx_world.specs.declared.replication.Replication.{Replication}
use Rattle.rx_writes.specs.Faults.{of_line, of_schema}
use Rattle.rx_engine.specs.Lines.{IsRestart, Task, answered, sweeps, delivers, asked_outcome, asked_task, task, task_or_refusal, turn_to}
use Rattle.rx_engine.specs.Listing.{changes_answer, place_named}
use Rattle.rx_update.specs.declared.attached.When.{When}
use Rattle.rx_update.specs.declared.kind.HookKind.{HookKind}
use Rattle.rx_engine.specs.Hooking.{hook_line, hooks_in, max_hooks, takes}
use Rattle.rx_engine.specs.Migrate.{migrate_line, names_of_group, of_migration, of_observed}
use Rattle.rx_engine.specs.Outcome.{Outcome, answer_alone, collection_at, write_outcome}
use Rattle.rx_engine.specs.Replicate.{has_handler, has_schema, master_at, master_of, replicate_line}
use Rattle.rx_engine.specs.Sweeping.{WantedSweep, swept_at}
use Rattle.rx_engine.specs.Streams.{WantedDelivery, deliver_over, replication_at, stream_at, stream_line, unstream_line}
use Rattle.rx_engine.specs.Turning.{turned_at}
use Rattle.rx_engine.specs.Queries.{max_queries, observe_line, query_on, rows_found}
use Rattle.rx_engine.specs.Writes.{collection_with, commit_all, commit_one}
use Rattle.rx_writes.specs.States.{insert_state, patch_state, remove_state, update_state, upsert_state}
use Rattle.rx_writes.specs.Rows.{rows_states}
use Rattle.rx_writes.specs.declared.fault.Fault.{Fault}
use Rattle.rx_writes.specs.declared.fault.Fault.TheVariants.{Refused, Memory}

-- the journal is opened again
abbrev is_restart : Doing → Bool
is_restart (restart number) = true
is_restart _ = false

-- it is no refusal, opens no journal, and writes no exchange
record IsPlain (o : Outcome) : Type 0 where
  pub answers : is_refusal o.answer ≡ false
  pub stays : is_restart o.doing ≡ false
  pub apart : WritesNoExchange o.doing

-- whatever is done is so
abbrev ArePlain : Result Outcome Fault → Type 0
ArePlain r = (o : Outcome) → r ≡ Ok o → IsPlain o

-- ---- what is read first

after : {A : Type 0} (r : Result A Fault) (f : A → Result Outcome Fault)
    → ((x : A) → ArePlain (f x)) → ArePlain (r >> f)
after (Ok x) f plain = plain x
after (Err e) f plain = λ o is. absurd (cc)

none : (fault : Fault) → ArePlain (Err fault)
none fault o is = absurd (cc)

abbrev outcome_or : Outcome → Result Outcome Fault → Outcome
outcome_or o (Ok x) = x
outcome_or o (Err e) = o

just : (o : Outcome) → is_refusal o.answer ≡ false → is_restart o.doing ≡ false
    → WritesNoExchange o.doing → ArePlain (Ok o)
just o answers stays apart p is =
    subst IsPlain (ap (outcome_or o) is) (record {
      answers = answers;
      stays = stays;
      apart = apart;
    })

-- ---- what the lines do

written_plain : (answer : Answer) (o : Option Content) → is_refusal answer ≡ false
    → ((content : Content) → o ≡ Some content → IsNoExchange content)
    → ArePlain (write_outcome answer o)
written_plain answer None plain apart = none _
written_plain answer (Some content) plain apart = just _ plain refl (apart content refl)

-- the record of a commit is one of rows
rows_made : (o : Option ℕ) (written : ℕ → List RowOut) (name : List ℕ) (content : Content)
    → option_map (λ lwt. rows name lwt (written lwt)) o ≡ Some content → IsNoExchange content
rows_made None written name content is = absurd (cc)
rows_made (Some lwt) written name content is =
    let same : rows name lwt (written lwt) ≡ content = cc in subst IsNoExchange same tt

committed : (coll : List ℕ) (states : List State) (now : ℕ) (c : Held) (content : Content)
    → commit_to coll states now c ≡ Some content → IsNoExchange content
committed coll states now c content is =
    rows_made (stamp c.documents now) (λ lwt. map out_of (rows_of c states lwt)) coll content is

made_plain : (name : List ℕ) (shape : Shape) (o : Option Held) (w : World)
    → ArePlain (collection_with name shape o w)
made_plain name shape (Some held) w = after _ _ (λ _. just _ refl refl tt)
made_plain name shape None w = after _ _ (λ _. just _ refl refl tt)

all_plain : (coll : List ℕ) (c : Held) (states : List State) (s : Session)
    → ArePlain (commit_all coll c states s)
all_plain coll c [] s = after _ _ (λ _. just _ refl refl tt)
all_plain coll c (state ∷ states) s =
    written_plain _ (commit_to coll (state ∷ states) s.moment c) refl
    (committed coll (state ∷ states) s.moment c)

alone_plain : (answer : Answer) → is_refusal answer ≡ false → ArePlain (Ok (answer_alone answer))
alone_plain answer plain = just (answer_alone answer) plain refl tt

one_plain : (coll : List ℕ) (answer : List ℕ → Answer) (c : Held) (state : State) (s : Session)
    → is_refusal (answer (next_revision c state.key)) ≡ false
    → ArePlain (commit_one coll answer c state s)
one_plain coll answer c state s plain =
    written_plain (answer (next_revision c state.key)) (commit_to coll (state ∷ []) s.moment c)
    plain (committed coll (state ∷ []) s.moment c)

-- a line that writes one state
one_state : (coll : List ℕ) (answer : List ℕ → Answer) (reads : Held → Result State Fault)
    (s : Session) → ((rev : List ℕ) → is_refusal (answer rev) ≡ false)
    → ArePlain (collection_at coll s >> λ c. reads c >> λ state. commit_one coll answer c state s)
one_state coll answer reads s plain =
    after (collection_at coll s) (λ c. reads c >> λ state. commit_one coll answer c state s)
    (λ c. after (reads c) (λ state. commit_one coll answer c state s)
    (λ state. one_plain coll answer c state s (plain (next_revision c state.key))))

-- a line that is told something of a collection
told : {A : Type 0} (coll : List ℕ) (reads : Held → Result A Fault) (says : Held → A → Answer)
    (s : Session) → ((c : Held) (x : A) → is_refusal (says c x) ≡ false)
    → ArePlain (collection_at coll s >> λ c. reads c >> λ x. Ok (answer_alone (says c x)))
told coll reads says s plain =
    after (collection_at coll s) (λ c. reads c >> λ x. Ok (answer_alone (says c x)))
    (λ c. after (reads c) (λ x. Ok (answer_alone (says c x)))
    (λ x. alone_plain (says c x) (plain c x)))

-- a query is observed, once all that it needs was seen
module _ (name coll : List ℕ) (query : Data) (s : Session) where
  abbrev observes : Query → Outcome
  observes q = record { doing = watch name coll q; answer = observe }

  abbrev with_place : Query → Result Outcome Fault
  with_place q =
      demand (nat_lt (length s.queries) max_queries) (Refused TooMany) >> λ _. Ok (observes q)

  abbrev with_query : Held → Result Outcome Fault
  with_query c = query_on c query >> λ q. with_place q

  abbrev with_free : Held → Result Outcome Fault
  with_free c = demand (not (is_observed name s)) (Refused Exists) >> λ _. with_query c

  observed_plain : ArePlain (observe_line name coll query s)
  observed_plain =
      after (collection_at coll s) (λ c. with_free c)
      (λ c. after (demand (not (is_observed name s)) (Refused Exists)) (λ _. with_query c)
      (λ _. after (query_on c query) (λ q. with_place q)
      (λ q. after (demand (nat_lt (length s.queries) max_queries) (Refused TooMany))
      (λ _. Ok (observes q)) (λ _. just (observes q) refl refl tt))))

-- a hook is attached, once all that it needs was seen
module _ (coll : List ℕ) (when : When) (hook field : List ℕ) (s : Session) where
  abbrev attaches : HookKind → Outcome
  attaches kind = record {
    doing = attach (record { coll = coll; when = when; hook = hook; kind = kind; field = field });
    answer = hooked;
  }

  abbrev with_few : HookKind → Result Outcome Fault
  with_few kind =
      demand (nat_lt (length (hooks_in coll s.hooks.attached)) max_hooks) (Refused TooMany)
      >> λ _. Ok (attaches kind)

  abbrev with_field : Held → HookKind → Result Outcome Fault
  with_field c kind = demand (takes kind c.schema field) (Refused NoHook) >> λ _. with_few kind

  abbrev with_hook : Held → Result Outcome Fault
  with_hook c = or_fault (Refused NoHook) (named s.hooks.known hook) >> λ kind. with_field c kind

  hooked_plain : ArePlain (hook_line coll when hook field s)
  hooked_plain =
      after (collection_at coll s) (λ c. with_hook c)
      (λ c. after (or_fault (Refused NoHook) (named s.hooks.known hook)) (λ kind. with_field c kind)
      (λ kind. after (demand (takes kind c.schema field) (Refused NoHook)) (λ _. with_few kind)
      (λ _. after
      (demand (nat_lt (length (hooks_in coll s.hooks.attached)) max_hooks) (Refused TooMany))
      (λ _. Ok (attaches kind)) (λ _. just (attaches kind) refl refl tt))))

-- a group is migrated, once all that it needs was seen
module _ (coll : List ℕ) (schema : Data) (steps : List Step) (s : Session) where
  abbrev migrates : Content → Outcome
  migrates content = record {
    doing = migrate content;
    answer = migrated (names_of_group (is_in_group s.world.replications coll) s.world.collections);
  }

  -- unless a query is observed
  unless_plain : (o : Option (List ℕ)) (content : Content)
      → ArePlain (unless of_observed o (Ok (migrates content)))
  unless_plain None content = just (migrates content) refl refl tt
  unless_plain (Some name) content = none _

  abbrev planned : Held → Shape → Result Outcome Fault
  planned c shape =
      lifted (of_migration coll) (migration_of coll shape steps c s.world) >> λ content.
      unless of_observed (first_observed (is_in_group s.world.replications coll) s.queries)
      (Ok (migrates content))

  migrated_plain : ArePlain (migrate_line coll schema steps s)
  migrated_plain =
      after (collection_at coll s)
      (λ c. lifted of_schema (schema_of schema) >> λ shape. planned c shape)
      (λ c. after (lifted of_schema (schema_of schema)) (λ shape. planned c shape)
      (λ shape. after (lifted (of_migration coll) (migration_of coll shape steps c s.world))
      (λ content.
      unless of_observed (first_observed (is_in_group s.world.replications coll) s.queries)
      (Ok (migrates content)))
      (λ content.
      unless_plain (first_observed (is_in_group s.world.replications coll) s.queries) content)))

-- a replication begins, once all that it needs was seen
module _ (kinds : Kinds) (name fork : List ℕ) (master : MasterName) (handler : List ℕ)
    (field : Option (List ℕ)) (s : Session) where
  abbrev begins : Outcome
  begins = record { doing = write (replication name fork master handler field); answer = replicate }

  abbrev with_room : Result Outcome Fault
  with_room =
      demand (nat_lt (length s.world.replications) max_replications) (Refused TooMany)
      >> λ _. Ok begins

  abbrev with_schema : Held → Option Held → Result Outcome Fault
  with_schema c held = demand (has_schema c held) (Refused SchemaDiffers) >> λ _. with_room

  abbrev with_chain : Held → Option Held → Result Outcome Fault
  with_chain c held =
      demand (may_follow s.world.replications fork master) (Refused Chain)
      >> λ _. with_schema c held

  abbrev with_handler : Held → Option Held → Result Outcome Fault
  with_handler c held =
      demand (has_handler kinds c.schema handler field) (Refused NoHandler)
      >> λ _. with_chain c held

  abbrev with_master : Held → Result Outcome Fault
  with_master c = master_at master s >> λ held. with_handler c held

  abbrev with_fork : Result Outcome Fault
  with_fork = collection_at fork s >> λ c. with_master c

  begun_plain : ArePlain (replicate_line kinds name fork master handler field s)
  begun_plain =
      after (demand (is_none (named s.world.replications name)) (Refused Exists)) (λ _. with_fork)
      (λ _. after (collection_at fork s) (λ c. with_master c)
      (λ c. after (master_at master s) (λ held. with_handler c held)
      (λ held. after (demand (has_handler kinds c.schema handler field) (Refused NoHandler))
      (λ _. with_chain c held)
      (λ _. after (demand (may_follow s.world.replications fork master) (Refused Chain))
      (λ _. with_schema c held)
      (λ _. after (demand (has_schema c held) (Refused SchemaDiffers)) (λ _. with_room)
      (λ _. after (demand (nat_lt (length s.world.replications) max_replications) (Refused TooMany))
      (λ _. Ok begins) (λ _. just begins refl refl tt)))))))

-- a stream is opened, once all that it needs was seen, or closed
module _ (name : List ℕ) (s : Session) where
  abbrev opens : List ℕ → Outcome
  opens master = record { doing = open_stream name master; answer = streamed }

  abbrev unless_open : List ℕ → Result Outcome Fault
  unless_open master =
      demand (is_none (stream_of name s)) (Refused Exists) >> λ _. Ok (opens master)

  streamed_plain : ArePlain (stream_line name s)
  streamed_plain =
      after (replication_at name s)
      (λ r. or_fault (Refused Remote) (local_name r.master) >> λ master. unless_open master)
      (λ r. after (or_fault (Refused Remote) (local_name r.master)) (λ master. unless_open master)
      (λ master. after (demand (is_none (stream_of name s)) (Refused Exists))
      (λ _. Ok (opens master)) (λ _. just (opens master) refl refl tt)))

  abbrev closes : Outcome
  closes = record { doing = close_stream name; answer = unstreamed }

  unstreamed_plain : ArePlain (unstream_line name s)
  unstreamed_plain =
      after (stream_at name s) (λ st. Ok closes) (λ st. just closes refl refl tt)

-- a restart alone opens the journal again
plain_but : (kinds : Kinds) (ask : Asked) (s : Session)
    → (ask ≡ Restart) ⊎ ArePlain (asked_outcome kinds ask s)
plain_but kinds (Collection name schema) s =
    inr (after (lifted of_schema (schema_of schema))
    (λ shape. collection_with name shape (named s.world.collections name) s.world)
    (λ shape. made_plain name shape (named s.world.collections name) s.world))
plain_but kinds (Insert coll doc) s =
    inr (one_state coll insert (λ c. insert_state c s.hooks.attached doc) s (λ rev. refl))
plain_but kinds (Bulk coll docs) s =
    inr (after (collection_at coll s)
    (λ c. rows_states c s.hooks.attached 0 [] docs >> λ states. commit_all coll c states s)
    (λ c. after (rows_states c s.hooks.attached 0 [] docs) (λ states. commit_all coll c states s)
    (λ states. all_plain coll c states s)))
plain_but kinds (Upsert coll doc) s =
    inr (one_state coll upsert (λ c. upsert_state c s.hooks.attached doc) s (λ rev. refl))
plain_but kinds (Patch coll key set rev) s =
    inr (one_state coll patch (λ c. patch_state c s.hooks.attached key set rev) s (λ rev. refl))
plain_but kinds (Update coll key d rev) s =
    inr (one_state coll update (λ c. update_state c s.hooks.attached key d rev) s (λ rev. refl))
plain_but kinds (Remove coll key rev) s =
    inr (one_state coll remove (λ c. remove_state c s.hooks.attached key rev) s (λ rev. refl))
plain_but kinds (Hook coll when hook field) s = inr (hooked_plain coll when hook field s)
plain_but kinds (Migrate coll schema steps) s = inr (migrated_plain coll schema steps s)
plain_but kinds (Get coll key) s =
    inr (told coll (λ c. document_at c key) (λ c d. get d) s (λ c d. refl))
plain_but kinds (Find coll query) s =
    inr (told coll (λ c. query_on c query) (λ c q. find (rows_found q c.documents)) s (λ c q. refl))
plain_but kinds (Count coll query) s =
    inr (told coll (λ c. query_on c query) (λ c q. count (length (rows_found q c.documents))) s
    (λ c q. refl))
plain_but kinds (Observe name coll query) s = inr (observed_plain name coll query s)
plain_but kinds (Unobserve name) s =
    inr (after (demand (is_observed name s) (Refused NoQuery))
    (λ _. Ok (record { doing = unwatch name; answer = unobserve }))
    (λ _. just (record { doing = unwatch name; answer = unobserve }) refl refl tt))
plain_but kinds (Explain name) s =
    inr (after (or_fault (Refused NoQuery) (counts_of name s))
    (λ counts. Ok (answer_alone (explain counts))) (λ counts. alone_plain (explain counts) refl))
plain_but kinds (Replicate name fork master handler field) s =
    inr (begun_plain kinds name fork (master_of master) handler field s)
plain_but kinds (Turn name batch budget link) s = inr (none _)
plain_but kinds (Sweep name batch budget) s = inr (none _)
plain_but kinds (Stream name) s = inr (streamed_plain name s)
plain_but kinds (Deliver name link) s = inr (none _)
plain_but kinds (Unstream name) s = inr (unstreamed_plain name s)
plain_but kinds (Changes coll asked batch) s =
    let from = option_map place_named asked in
    inr (after (collection_at coll s)
    (λ c. Ok (answer_alone (changes_answer from (since c.documents from batch))))
    (λ c. alone_plain (changes_answer from (since c.documents from batch)) refl))
plain_but kinds (Digest coll) s =
    inr (after (collection_at coll s)
    (λ c. Ok (answer_alone (digest (length c.documents) (digest_of c.documents))))
    (λ c. alone_plain (digest (length c.documents) (digest_of c.documents)) refl))
plain_but kinds (Tick at) s =
    inr (just (record { doing = set_clock at; answer = tick }) refl refl tt)
plain_but kinds Restart s = inl refl

-- ---- tasks

no_restart : (d : Doing) (n : ℕ) → is_restart d ≡ false → d ≡ restart n → ⊥
no_restart d n stays is = true≢false (sym (ap is_restart is) ∙ stays)

-- What holds of what a line does and is answered: a refused one does nothing, one that opens the
-- journal again is asked to, and none writes an exchange.
pub record IsLawfulOutcome (Restarts : Type 0) (o : Outcome) : Type 0 where
  pub idle : is_refusal o.answer ≡ true → o.doing ≡ nothing
  pub restarts : (n : ℕ) → o.doing ≡ restart n → Restarts
  pub apart : WritesNoExchange o.doing

plain_lawful : (R : Type 0) (o : Outcome) → IsPlain o → IsLawfulOutcome R o
plain_lawful R o plain = record {
  idle = λ refused. absurd (true≢false (sym refused ∙ plain.answers));
  restarts = λ n is. absurd (no_restart o.doing n plain.stays is);
  apart = plain.apart;
}

alone_lawful : (R : Type 0) (r : Refusal) → IsLawfulOutcome R (answer_alone (refused r))
alone_lawful R r = record {
  idle = λ is. refl;
  restarts = λ n is. absurd (no_restart nothing n refl is);
  apart = tt;
}

ask_lawful : (kinds : Kinds) (ask : Asked) (s : Session) (o : Outcome)
    → (ask ≡ Restart) ⊎ ArePlain (asked_outcome kinds ask s) → asked_outcome kinds ask s ≡ Ok o
    → IsLawfulOutcome (ask ≡ Restart) o
ask_lawful kinds ask s o (inl same) is =
    subst (IsLawfulOutcome (ask ≡ Restart))
    (ap (outcome_or o) (sym (ap (λ (a : Asked). asked_outcome kinds a s) same) ∙ is))
    (record { idle = λ r. absurd (cc); restarts = λ n _. same; apart = tt })
ask_lawful kinds ask s o (inr plain) is = plain_lawful (ask ≡ Restart) o (plain o is)

-- an outcome is that of what was asked
does_is : (r : Result Outcome Fault) (o : Outcome)
    → (r >> λ x. Ok (answered x)) ≡ Ok (answered o) → r ≡ Ok o
does_is (Ok x) o is = let same : x ≡ o = cc in ap Ok same
does_is (Err fault) o is = absurd (cc)

turn_no_outcome : (m : MasterName) (name : List ℕ) (batch budget : ℕ)
    (link : Option (List Happening)) (o : Outcome)
    → turn_to m name batch budget link ≡ Ok (answered o) → ⊥
turn_no_outcome (Local at) name batch budget link o is = cc
turn_no_outcome (Port port) name batch budget None o is = cc
turn_no_outcome (Port port) name batch budget (Some link) o is = cc

no_turn : (r : Result Replication Fault) (name : List ℕ) (batch budget : ℕ)
    (link : Option (List Happening)) (o : Outcome)
    → (r >> λ r. turn_to r.master name batch budget link) ≡ Ok (answered o) → ⊥
no_turn (Ok r) name batch budget link o is =
    turn_no_outcome r.master name batch budget link o is
no_turn (Err fault) name batch budget link o is = cc

no_sweep : (r : Result WantedSweep Fault) (o : Outcome)
    → (r >> λ v. Ok (sweeps v)) ≡ Ok (answered o)
    → ⊥
no_sweep (Ok v) o is = cc
no_sweep (Err fault) o is = cc

no_delivery : (r : Result StreamHere Fault) (d : WantedDelivery) (o : Outcome)
    → (r >> λ st. Ok (delivers d)) ≡ Ok (answered o) → ⊥
no_delivery (Ok st) d o is = cc
no_delivery (Err fault) d o is = cc

answered_is : (kinds : Kinds) (ask : Asked) (s : Session) (o : Outcome)
    → asked_task kinds ask s ≡ Ok (answered o) → asked_outcome kinds ask s ≡ Ok o
answered_is kinds (Collection name schema) s o is = does_is _ o is
answered_is kinds (Insert coll doc) s o is = does_is _ o is
answered_is kinds (Bulk coll docs) s o is = does_is _ o is
answered_is kinds (Upsert coll doc) s o is = does_is _ o is
answered_is kinds (Patch coll key set rev) s o is = does_is _ o is
answered_is kinds (Update coll key d rev) s o is = does_is _ o is
answered_is kinds (Remove coll key rev) s o is = does_is _ o is
answered_is kinds (Hook coll when hook field) s o is = does_is _ o is
answered_is kinds (Migrate coll schema steps) s o is = does_is _ o is
answered_is kinds (Get coll key) s o is = does_is _ o is
answered_is kinds (Find coll query) s o is = does_is _ o is
answered_is kinds (Count coll query) s o is = does_is _ o is
answered_is kinds (Observe name coll query) s o is = does_is _ o is
answered_is kinds (Unobserve name) s o is = does_is _ o is
answered_is kinds (Explain name) s o is = does_is _ o is
answered_is kinds (Replicate name fork master handler field) s o is = does_is _ o is
answered_is kinds (Turn name batch budget link) s o is =
    absurd (no_turn (turned_at kinds name s) name batch budget link o is)
answered_is kinds (Sweep name batch budget) s o is =
    absurd (no_sweep (swept_at kinds name batch budget s) o is)
answered_is kinds (Stream name) s o is = does_is _ o is
answered_is kinds (Deliver name link) s o is =
    absurd (no_delivery (stream_at name s) (deliver_over name link) o is)
answered_is kinds (Unstream name) s o is = does_is _ o is
answered_is kinds (Changes coll since batch) s o is = does_is _ o is
answered_is kinds (Tick at) s o is = does_is (asked_outcome kinds (Tick at) s) o is
answered_is kinds Restart s o is = does_is (asked_outcome kinds Restart s) o is
answered_is kinds (Digest coll) s o is = does_is _ o is

fault_lawful : (R : Type 0) (fault : Fault) (o : Outcome)
    → task_or_refusal (Err fault) ≡ answered o → IsLawfulOutcome R o
fault_lawful R (Refused r) o is =
    let same : answer_alone (refused r) ≡ o = cc in
    subst (IsLawfulOutcome R) same (alone_lawful R r)
fault_lawful R Memory o is =
    let same : answer_alone (refused Clock) ≡ o = cc in
    subst (IsLawfulOutcome R) same (alone_lawful R Clock)

task_lawful : (kinds : Kinds) (ask : Asked) (s : Session) (r : Result Task Fault) (o : Outcome)
    → asked_task kinds ask s ≡ r → task_or_refusal r ≡ answered o
    → IsLawfulOutcome (ask ≡ Restart) o
task_lawful kinds ask s (Ok t) o at is =
    ask_lawful kinds ask s o (plain_but kinds ask s) (answered_is kinds ask s o (at ∙ ap Ok is))
task_lawful kinds ask s (Err fault) o at is = fault_lawful (ask ≡ Restart) fault o is

read_lawful : (kinds : Kinds) (read : Result Asked LineFault) (s : Session) (o : Outcome)
    → task_or_refusal (lifted of_line read >> λ ask. asked_task kinds ask s) ≡ answered o
    → IsLawfulOutcome (read ≡ Ok Restart) o
read_lawful kinds (Ok ask) s o is =
    let l = task_lawful kinds ask s (asked_task kinds ask s) o refl is in
    record {
      idle = l.idle;
      restarts = λ n at. ap (λ (a : Asked). Ok a) (l.restarts n at);
      apart = l.apart;
    }
read_lawful kinds (Err fault) s o is = fault_lawful (Err fault ≡ Ok Restart) (of_line fault) o is

-- so it is of what a line comes to, if it is no turn
pub lawful_outcome : (kinds : Kinds) (line : List ℕ) (s : Session) (o : Outcome)
    → task kinds line s ≡ answered o → IsLawfulOutcome (IsRestart line) o
lawful_outcome kinds line s o is = read_lawful kinds (line_of line) s o is
