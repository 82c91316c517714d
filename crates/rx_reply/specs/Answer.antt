-- What a line is answered, by what it says.
use Rattle.std.specs.Prelude.{ℕ, List, map, Bool, Option}
use Rattle.std.specs.Borrow.{Bor}
use Rattle.rx_value.specs.Fields.{Pairs}
use Rattle.rx_value.specs.Form.{texts}
use Rattle.rx_value.specs.declared.state.State.{State}
use Rattle.rx_document.specs.declared.place.Place.{Place}
use Rattle.rx_document.specs.declared.stored.Stored.{Stored}
use Rattle.rx_table.specs.declared.counts.Counts.{Counts}
use Rattle.rx_reply.specs.declared.given.Given.{Given}
use Rattle.rx_reply.specs.declared.refusal.Refusal.{Refusal}
use Rattle.rx_reply.specs.declared.reply.Reply.{Reply}
use Rattle.rx_reply.specs.declared.reply.Reply.TheVariants.{Collection, Insert, Upsert, Patch, Update, Remove, Hook, Migrate, Bulk, Get, Find, Count, Observe, Unobserve, Explain, Replicate, Turn, Sweep, Stream, Deliver, Unstream, Changes, Tick, Restart, Digest, Refused}
use Rattle.rx_reply.specs.declared.swept.Swept.{Swept}
use Rattle.rx_reply.specs.declared.turn.Exchanged.{Exchanged}
use Rattle.rx_reply.specs.declared.turn.TurnEnd.{TurnEnd}

-- a collection is there, new or not; a document is written; a hook is attached; collections went to
-- another schema; documents are written, read, found, counted; a query is observed, no more
-- observed, explained; a replication begins; a turn made these exchanges and ended so; a sweep made
-- these turns, and the last one ended so; a stream is
-- opened; that came of its events, whether the fork is level, and whether it is to pull; a stream
-- is closed; states are listed up to a place; the clock is set; an epoch begins; states are
-- counted and have that digest; or the line is refused
pub data Answer : Type 0 where
  collection : Bool → Answer
  insert : List ℕ → Answer
  upsert : List ℕ → Answer
  patch : List ℕ → Answer
  update : List ℕ → Answer
  remove : List ℕ → Answer
  hook : Answer
  migrate : List (List ℕ) → Answer
  bulk : List (List ℕ) → Answer
  get : Stored → Answer
  find : List Pairs → Answer
  count : ℕ → Answer
  observe : Answer
  unobserve : Answer
  explain : Counts → Answer
  replicate : Answer
  turn : List Exchanged → TurnEnd → Answer
  sweep : List Swept → TurnEnd → Answer
  stream : Answer
  deliver : List Given → (level resync : Bool) → Answer
  unstream : Answer
  changes : List State → Option Place → Answer
  tick : Answer
  restart : ℕ → Answer
  digest : ℕ → List ℕ → Answer
  refused : Refusal → Answer

-- the fields of lent documents
abbrev pub rows_of : List (Bor Stored) → List Pairs
rows_of = map (λ d. d.now.state.fields)

-- their states
abbrev pub states_of : List (Bor Stored) → List State
states_of = map (λ d. d.now.state)

-- the answer of a reply, which lends documents, names and counts
abbrev pub answer_of : Reply → Answer
answer_of (Collection new) = collection new
answer_of (Insert rev) = insert rev
answer_of (Upsert rev) = upsert rev
answer_of (Patch rev) = patch rev
answer_of (Update rev) = update rev
answer_of (Remove rev) = remove rev
answer_of Hook = hook
answer_of (Migrate collections) = migrate (texts collections.items)
answer_of (Bulk revs) = bulk revs.items
answer_of (Get doc) = get doc.now
answer_of (Find rows) = find (rows_of rows.items)
answer_of (Count n) = count n
answer_of Observe = observe
answer_of Unobserve = unobserve
answer_of (Explain counts) = explain counts.now
answer_of Replicate = replicate
answer_of (Turn exchanges ended) = turn exchanges ended
answer_of (Sweep turns ended) = sweep turns ended
answer_of Stream = stream
answer_of (Deliver given level resync) = deliver given level resync
answer_of Unstream = unstream
answer_of (Changes docs place) = changes (states_of docs.items) place
answer_of Tick = tick
answer_of (Restart epoch) = restart epoch
answer_of (Digest n text) = digest n text
answer_of (Refused refusal) = refused refusal
