-- What the lines of a script write.
use Rattle.std.proofs.Common.{ℕ, List, [], ◌∷◌, map, length, not, nat_lt, Option, Some, None, option_map, is_some, is_none, Result, Ok, Err, IfOk}
use Rattle.std.specs.Str.{bytes_eq}
use Rattle.rx_value.specs.Due.{◌>>◌, demand, lifted, or_fault, unless}
use Rattle.rx_value.specs.Named.{named}
use Rattle.rx_value.specs.declared.state.State.{State}
use Rattle.rx_schema.specs.Reading.{schema_of}
use Rattle.rx_schema.specs.Writing.{canonical_text}
use Rattle.rx_schema.specs.declared.shape.Shape.{Shape}
use Rattle.rx_collection.specs.Commit.{rows_of}
use Rattle.rx_collection.specs.Held.{Held}
use Rattle.rx_collection.specs.Time.{stamp}
use Rattle.rx_handler.specs.Handlers.{Kinds}
use Rattle.rx_record.specs.Content.{Content, collection, rows, replication}
use Rattle.rx_record.specs.declared.record.MasterName.{MasterName}
use Rattle.rx_record.specs.declared.record.MasterName.TheVariants.{Local, Port}
use Rattle.rx_reply.specs.Answer.{Answer}
use Rattle.rx_reply.specs.declared.refusal.Refusal.TheVariants.{Chain, Clock, Exists, NoHandler, NoHook, NoQuery, Remote, SchemaDiffers, TooMany}
use Rattle.rx_script.specs.Asked.{Asked, Collection, Insert, Bulk, Upsert, Patch, Update, Remove, Hook, Migrate, Get, Find, Count, Observe, Unobserve, Explain, Replicate, Turn, Sweep, Stream, Deliver, Unstream, Changes, Tick, Restart, Digest}
use Rattle.rx_script.specs.Line.{line_of}
use Rattle.rx_script.specs.declared.happening.Happening.{Happening}
use Rattle.rx_session.specs.Doing.{Doing, write}
use Rattle.rx_session.specs.Session.{Session, counts_of, first_observed, is_observed, stream_of}
use Rattle.rx_sync.specs.Handling.{local_name}
use Rattle.rx_world.specs.Chain.{may_follow}
use Rattle.rx_world.specs.Commit.{out_of}
use Rattle.rx_world.specs.Migrating.{is_in_group}
use Rattle.rx_world.specs.World.{World, max_collections, max_replications}
use Rattle.rx_writes.specs.Documents.{document_at}
use Rattle.rx_writes.specs.Faults.{of_line, of_schema}
use Rattle.rx_writes.specs.Rows.{rows_states}
use Rattle.rx_writes.specs.States.{insert_state, patch_state, remove_state, update_state, upsert_state}
use Rattle.rx_writes.specs.declared.fault.Fault.{Fault}
use Rattle.rx_writes.specs.declared.fault.Fault.TheVariants.{Refused, Memory}
use Rattle.rx_engine.specs.Hooking.{hooks_in, max_hooks, takes}
use Rattle.rx_engine.specs.Lines.{Task, answered, asked_outcome, asked_task, line_task, task, task_or_refusal, turn_to}
use Rattle.rx_engine.specs.Migrate.{of_observed, said_of}
use Rattle.rx_engine.specs.Outcome.{Outcome, collection_at, commit, write_outcome}
use Rattle.rx_engine.specs.Queries.{max_queries, query_on}
use Rattle.rx_engine.specs.Replicate.{has_handler, has_schema, master_at, master_of}
use Rattle.rx_engine.specs.Streams.{replication_at, stream_at}
use Rattle.rx_engine.specs.Sweeping.{swept_at}
use Rattle.rx_engine.specs.Turning.{turned_at}
use Rattle.rx_engine.specs.Writes.{collection_with, commit_all}

-- what holds of each outcome of two readings
then_so : {A B : Type 0} (P : B → Type 0) (r : Result A Fault) (f : A → Result B Fault)
    → ((a : A) → IfOk (f a) P) → IfOk (r >> f) P
then_so P (Ok a) f each = each a
then_so P (Err fault) f each = tt

-- it makes a collection, writes rows, or makes a replication
abbrev pub IsOfLine : Content → Type 0
IsOfLine (collection name schema) = Unit {0}
IsOfLine (rows name lwt written) = Unit {0}
IsOfLine (replication name fork master handler field) = Unit {0}
IsOfLine other = ⊥

-- what is written is so
abbrev pub WritesSo : Doing → Type 0
WritesSo (write c) = IsOfLine c
WritesSo other = Unit {0}

abbrev Writes : Outcome → Type 0
Writes o = WritesSo o.doing

-- ---- one line

commit_so : (coll : List ℕ) (states : List State) (answer : Answer) (c : Held) (s : Session)
    → IfOk (commit coll states answer c s) Writes
commit_so coll states answer c s =
    elim (stamp c.documents s.moment)
    as (λ o. IfOk (write_outcome answer (option_map
    (λ lwt. rows coll lwt (map out_of (rows_of c states lwt))) o)) Writes)
    [ None ↦ tt | Some lwt ↦ tt ]

all_so : (coll : List ℕ) (c : Held) (states : List State) (s : Session)
    → IfOk (commit_all coll c states s) Writes
all_so coll c [] s =
    then_so Writes (demand (is_some (stamp c.documents s.moment)) (Refused Clock)) _ (λ u. tt)
all_so coll c (state ∷ states) s = commit_so coll (state ∷ states) _ c s

collection_so : (name : List ℕ) (shape : Shape) (o : Option Held) (w : World)
    → IfOk (collection_with name shape o w) Writes
collection_so name shape (Some held) w =
    then_so Writes
    (demand (bytes_eq (canonical_text held.schema) (canonical_text shape)) (Refused SchemaDiffers))
    _ (λ u. tt)
collection_so name shape None w =
    then_so Writes (demand (nat_lt (length w.collections) max_collections) (Refused TooMany)) _
    (λ u. tt)

unless_so : {X : Type 0} (fault : X → Fault) (o : Option X) (r : Result Outcome Fault)
    → IfOk r Writes → IfOk (unless fault o r) Writes
unless_so fault None r so = so
unless_so fault (Some x) r so = tt

asked_so : (kinds : Kinds) (ask : Asked) (s : Session)
    → IfOk (asked_outcome kinds ask s) Writes
asked_so kinds (Collection name schema) s =
    then_so Writes (lifted of_schema (schema_of schema)) _
    (λ shape. collection_so name shape (named s.world.collections name) s.world)
asked_so kinds (Insert coll doc) s =
    then_so Writes (collection_at coll s) _ (λ c.
    then_so Writes (insert_state c s.hooks.attached doc) _ (λ state.
    commit_so coll (state ∷ []) _ c s))
asked_so kinds (Bulk coll docs) s =
    then_so Writes (collection_at coll s) _ (λ c.
    then_so Writes (rows_states c s.hooks.attached 0 [] docs) _ (λ states.
    all_so coll c states s))
asked_so kinds (Upsert coll doc) s =
    then_so Writes (collection_at coll s) _ (λ c.
    then_so Writes (upsert_state c s.hooks.attached doc) _ (λ state.
    commit_so coll (state ∷ []) _ c s))
asked_so kinds (Patch coll key set rev) s =
    then_so Writes (collection_at coll s) _ (λ c.
    then_so Writes (patch_state c s.hooks.attached key set rev) _ (λ state.
    commit_so coll (state ∷ []) _ c s))
asked_so kinds (Update coll key update rev) s =
    then_so Writes (collection_at coll s) _ (λ c.
    then_so Writes (update_state c s.hooks.attached key update rev) _ (λ state.
    commit_so coll (state ∷ []) _ c s))
asked_so kinds (Remove coll key rev) s =
    then_so Writes (collection_at coll s) _ (λ c.
    then_so Writes (remove_state c s.hooks.attached key rev) _ (λ state.
    commit_so coll (state ∷ []) _ c s))
asked_so kinds (Migrate coll schema steps) s =
    then_so Writes (collection_at coll s) _ (λ c.
    then_so Writes (lifted of_schema (schema_of schema)) _ (λ shape.
    then_so Writes (said_of coll shape steps c s) _ (λ content.
    unless_so of_observed
    (first_observed (is_in_group s.world.replications coll) s.queries) _ tt)))
asked_so kinds (Hook coll when hook field) s =
    then_so Writes (collection_at coll s) _ (λ c.
    then_so Writes (or_fault (Refused NoHook) (named s.hooks.known hook)) _ (λ kind.
    then_so Writes (demand (takes kind c.schema field) (Refused NoHook)) _ (λ u.
    then_so Writes
    (demand (nat_lt (length (hooks_in coll s.hooks.attached)) max_hooks) (Refused TooMany)) _
    (λ v. tt))))
asked_so kinds (Get coll key) s =
    then_so Writes (collection_at coll s) _ (λ c.
    then_so Writes (document_at c key) _ (λ d. tt))
asked_so kinds (Find coll query) s =
    then_so Writes (collection_at coll s) _ (λ c. then_so Writes (query_on c query) _ (λ q. tt))
asked_so kinds (Count coll query) s =
    then_so Writes (collection_at coll s) _ (λ c. then_so Writes (query_on c query) _ (λ q. tt))
asked_so kinds (Observe name coll query) s =
    then_so Writes (collection_at coll s) _ (λ c.
    then_so Writes (demand (not (is_observed name s)) (Refused Exists)) _ (λ u.
    then_so Writes (query_on c query) _ (λ q.
    then_so Writes (demand (nat_lt (length s.queries) max_queries) (Refused TooMany)) _
    (λ v. tt))))
asked_so kinds (Unobserve name) s =
    then_so Writes (demand (is_observed name s) (Refused NoQuery)) _ (λ u. tt)
asked_so kinds (Explain name) s =
    then_so Writes (or_fault (Refused NoQuery) (counts_of name s)) _ (λ counts. tt)
asked_so kinds (Replicate name fork master handler field) s =
    let m = master_of master in
    then_so Writes (demand (is_none (named s.world.replications name)) (Refused Exists)) _ (λ u.
    then_so Writes (collection_at fork s) _ (λ c.
    then_so Writes (master_at m s) _ (λ held.
    then_so Writes (demand (has_handler kinds c.schema handler field) (Refused NoHandler)) _ (λ v.
    then_so Writes (demand (may_follow s.world.replications fork m) (Refused Chain)) _ (λ x.
    then_so Writes (demand (has_schema c held) (Refused SchemaDiffers)) _ (λ y.
    then_so Writes
    (demand (nat_lt (length s.world.replications) max_replications) (Refused TooMany)) _
    (λ z. tt)))))))
asked_so kinds (Turn name batch budget link) s = tt
asked_so kinds (Sweep name batch budget) s = tt
asked_so kinds (Stream name) s =
    then_so Writes (replication_at name s) _ (λ r.
    then_so Writes (or_fault (Refused Remote) (local_name r.master)) _ (λ master.
    then_so Writes (demand (is_none (stream_of name s)) (Refused Exists)) _ (λ u. tt)))
asked_so kinds (Deliver name link) s = tt
asked_so kinds (Unstream name) s = then_so Writes (stream_at name s) _ (λ st. tt)
asked_so kinds (Changes coll since batch) s =
    then_so Writes (collection_at coll s) _ (λ c. tt)
asked_so kinds (Tick at) s = tt
asked_so kinds Restart s = tt
asked_so kinds (Digest coll) s = then_so Writes (collection_at coll s) _ (λ c. tt)

-- ---- what a line comes to

abbrev pub TaskWrites : Task → Type 0
TaskWrites (answered o) = WritesSo o.doing
TaskWrites other = Unit {0}

answered_so : (r : Result Outcome Fault) → IfOk r Writes
    → IfOk (r >> λ o. Ok (answered o)) TaskWrites
answered_so (Ok o) so = so
answered_so (Err fault) so = tt

turn_to_so : (m : MasterName) (name : List ℕ) (batch budget : ℕ)
    (link : Option (List Happening)) → IfOk (turn_to m name batch budget link) TaskWrites
turn_to_so (Local at) name batch budget link = tt
turn_to_so (Port port) name batch budget link =
    then_so TaskWrites (demand (is_none link) _) _ (λ u. tt)

task_so : (kinds : Kinds) (ask : Asked) (s : Session) → IfOk (asked_task kinds ask s) TaskWrites
task_so kinds (Turn name batch budget link) s =
    then_so TaskWrites (turned_at kinds name s) _
    (λ r. turn_to_so r.master name batch budget link)
task_so kinds (Sweep name batch budget) s =
    then_so TaskWrites (swept_at kinds name batch budget s) _ (λ v. tt)
task_so kinds (Deliver name link) s = then_so TaskWrites (stream_at name s) _ (λ st. tt)
task_so kinds other s = answered_so (asked_outcome kinds other s) (asked_so kinds other s)

refusal_so : (r : Result Task Fault) → IfOk r TaskWrites → TaskWrites (task_or_refusal r)
refusal_so (Ok t) so = so
refusal_so (Err (Refused why)) so = tt
refusal_so (Err Memory) so = tt

pub line_writes : (kinds : Kinds) (line : List ℕ) (s : Session) → TaskWrites (task kinds line s)
line_writes kinds line s =
    refusal_so (line_task kinds line s)
    (then_so TaskWrites (lifted of_line (line_of line)) _ (λ ask. task_so kinds ask s))
