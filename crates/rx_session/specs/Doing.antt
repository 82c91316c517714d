-- What a line does to a session.
use Rattle.std.specs.Prelude.{⊤, ◌≡◌, ℕ, ◌+◌, List, [], ◌∷◌, ◌++◌, map, filter, Bool, true, false, not, Option, Some, None, option_and_then, if◌then◌else◌}
use Rattle.std.specs.List.{AllByRecursion}
use Rattle.std.specs.Str.{bytes_eq}
use Rattle.rx_value.specs.Named.{named}
use Rattle.rx_query.specs.QuerySpec.{QuerySpec}
use Rattle.rx_collection.specs.Held.{Held}
use Rattle.rx_document.specs.declared.place.Place.{Place}
use Rattle.rx_record.specs.Content.{Content, epoch, migration}
use Rattle.rx_record.specs.Writable.{IsOrdered}
use Rattle.rx_record.specs.declared.record.RowOut.{RowOut}
use Rattle.rx_observe.specs.Observing.{watch_after, new_watch, cooled}
use Rattle.rx_observe.specs.Watched.{Watched}
use Rattle.rx_stream.specs.Events.{Queue, emptied, follow, kept, new_queue}
use Rattle.rx_stream.specs.declared.event.Event.{Event}
use Rattle.rx_stream.specs.declared.stream.Stream.{Stream}
use Rattle.rx_update.specs.Attached.{Hooking}
use Rattle.rx_update.specs.declared.attached.Attached.{Attached}
use Rattle.rx_world.specs.Migrating.{is_in_group}
use Rattle.rx_world.specs.Step.{step, legal, stored_rows}
use Rattle.rx_world.specs.Touch.{IsMigration, IsNoMigration, Touch, no_collection, new_collection, new_rows, remade, touch}
use Rattle.rx_world.specs.World.{World}
use Rattle.rx_session.specs.Applied.{coll_written}
use Rattle.rx_session.specs.Emissions.{documents_at}
use Rattle.rx_session.specs.Session.{Observed, Session, is_observed, with_watched}
use Rattle.rx_session.specs.Streams.{IsStreamable}

-- nothing is changed, the clock is set, a record is written, the record of a migration is, a query
-- is observed under a name in a collection, a query is observed no more, a hook is attached, the
-- stream of a replication is opened from its master, one is closed, or the journal is opened again
-- in that epoch
pub data Doing : Type 0 where
  nothing : Doing
  set_clock : ℕ → Doing
  write : Content → Doing
  migrate : Content → Doing
  watch : List ℕ → List ℕ → QuerySpec → Doing
  unwatch : List ℕ → Doing
  attach : Attached → Doing
  open_stream : List ℕ → List ℕ → Doing
  close_stream : List ℕ → Doing
  restart : ℕ → Doing

-- the state of a query after rows that its collection takes one by one, where there is one
abbrev pub watch_in : Option Held → ℕ → List RowOut → Watched → Watched
watch_in None lwt written w = w
watch_in (Some c) lwt written w = watch_after c (stored_rows c.name lwt written) w

-- an observed query after what a record touches; the rows of its collection alone tell it anything
abbrev pub query_after : World → Touch → Observed → Observed
query_after w no_collection o = o
query_after w (new_collection name schema) o = o
query_after w (new_rows name lwt written) o =
    if bytes_eq name o.coll
    then with_watched (watch_in (named w.collections name) lwt written o.watched) o else o
query_after w (remade in_group schema steps) o = o

-- a query that was run once, and of which nothing was emitted
abbrev pub new_query : World → List ℕ → List ℕ → QuerySpec → Observed
new_query w name coll q = record {
  name = name;
  coll = coll;
  watched = new_watch q (documents_at (named w.collections coll));
}

-- with one hook more
abbrev pub with_attached : Attached → Hooking → Hooking
with_attached one hooks = record hooks { attached = hooks.attached ++ one ∷ [] }

-- ---- streams

-- with what its master wrote behind the events that it has
abbrev pub stream_in : World → Stream → Stream
stream_in w st =
    record st { queue = follow (documents_at (named w.collections st.master)) st.queue }

-- a stream in the world after rows of a collection, if there were any; those of its master alone
-- tell it anything
abbrev pub stream_after : World → Option (List ℕ) → Stream → Stream
stream_after w None st = st
stream_after w (Some coll) st = if bytes_eq coll st.master then stream_in w st else st

-- the streams that a record leaves open: a migration closes those of its group
abbrev pub still_open : Content → World → List Stream → List Stream
still_open (migration name text steps) w sts =
    filter (λ st. not (is_in_group w.replications name st.master)) sts
still_open other w sts = sts

-- how far a replication has pulled
abbrev pub pulled_to : List ℕ → World → Option Place
pulled_to name w = option_and_then (λ r. r.side.down) (named w.replications name)

-- one of a replication that begins at its master's last document
abbrev pub new_stream : World → List ℕ → List ℕ → Stream
new_stream w name master = record {
  name = name;
  master = master;
  queue = new_queue (pulled_to name w) (documents_at (named w.collections master));
}

-- with another queue at the stream of a name
abbrev pub with_queue : List ℕ → (Queue → Queue) → List Stream → List Stream
with_queue name change [] = []
with_queue name change (st ∷ sts) =
    if bytes_eq name st.name then record st { queue = change st.queue } ∷ sts
    else st ∷ with_queue name change sts

-- the stream of a name has given what it had queued
abbrev pub with_emptied : List ℕ → Session → Session
with_emptied name s = record s { streams = with_queue name emptied s.streams }

-- the stream of a name keeps events behind what it has queued
abbrev pub with_kept : List ℕ → List Event → Session → Session
with_kept name events s = record s { streams = with_queue name (kept events) s.streams }

-- ---- what a line does

-- with a record more, which the queries and the streams have followed
abbrev pub with_record : Content → Session → Session
with_record content s = record s {
  world = step content s.world;
  streams = map (stream_after (step content s.world) (coll_written (touch content s.world)))
      (still_open content s.world s.streams);
  queries = map (query_after s.world (touch content s.world)) s.queries;
}

-- the hooks after a record: a migration drops those of its group
abbrev pub hooks_after : Content → World → Hooking → Hooking
hooks_after (migration name text steps) w hooks = record hooks {
  attached = filter (λ one. not (is_in_group w.replications name one.coll)) hooks.attached;
}
hooks_after other w hooks = hooks

-- without those that a record drops
abbrev pub without_hooks : Content → Session → Session
without_hooks content s = record s { hooks = hooks_after content s.world s.hooks }

-- the session after what a line does
abbrev pub session_after : Doing → Session → Session
session_after nothing s = s
session_after (set_clock at) s = record s { moment = at }
session_after (write content) s = with_record content s
session_after (migrate content) s = with_record content (without_hooks content s)
session_after (watch name coll q) s =
    record s { queries = s.queries ++ new_query s.world name coll q ∷ [] }
session_after (unwatch name) s =
    record s { queries = filter (λ o. not (bytes_eq name o.name)) s.queries }
session_after (attach one) s = record s { hooks = with_attached one s.hooks }
session_after (open_stream name master) s =
    record s { streams = s.streams ++ new_stream s.world name master ∷ [] }
session_after (close_stream name) s =
    record s { streams = filter (λ st. not (bytes_eq name st.name)) s.streams }
session_after (restart number) s = record s {
  world = step (epoch number) s.world;
  streams = [];
  queries = map (λ o. with_watched (cooled o.watched) o) s.queries;
}

-- the collection is held, and has that primary key
abbrev pub has_key : List ℕ → Option Held → Bool
has_key primary None = false
has_key primary (Some c) = bytes_eq primary c.schema.primary

-- no query is observed in a collection that is made anew
abbrev pub IsUnobserved : Touch → List Observed → Type 0
IsUnobserved (remade in_group schema steps) queries =
    AllByRecursion (λ o. in_group o.coll ≡ false) queries
IsUnobserved other queries = Unit {0}

-- a record is legal, in order and no migration; that of a migration is legal, and nothing is
-- observed in its group; a query's name is free, and its collection has its primary key; a stream's
-- master is that of its replication; an epoch is the next one
abbrev pub MayDo : Doing → Session → Type 0
MayDo (write c) s = (legal c s.world ≡ true) × IsOrdered c × IsNoMigration c
MayDo (migrate c) s =
    (legal c s.world ≡ true) × IsMigration c × IsUnobserved (touch c s.world) s.queries
MayDo (watch name coll q) s =
    (is_observed name s ≡ false) × (has_key q.primary (named s.world.collections coll) ≡ true)
MayDo (open_stream name master) s = IsStreamable s.world name master
MayDo (restart number) s = number ≡ s.world.epoch + 1
MayDo _ s = ⊤
