-- A fork, its master and the link between them, and all that may happen.
use Rattle.std.specs.Prelude.{◌≡◌, ℕ, suc, ◌+◌, ◌≤◌, Bool, ◌&&◌, ◌==◌, List, [], ◌∷◌, take, Option, Some, None, slice_get, if◌then◌else◌}
use Rattle.rx_value.specs.declared.state.State.{State}
use Rattle.rx_document.specs.declared.place.Place.{Place}
use Rattle.rx_collection.specs.Held.{Held}
use Rattle.rx_collection.specs.Time.{last_lwt}
use Rattle.rx_wire.specs.declared.message.Reply.{Reply}
use Rattle.rx_wire.specs.declared.message.Request.{Request}
use Rattle.rx_replication.specs.Changed.{changed_collection, changed_known}
use Rattle.rx_replication.specs.Known.{KnownStates, with_learnt}
use Rattle.rx_replication.specs.Master.{body_of, master_then, reply_with}
use Rattle.rx_replication.specs.Request.{ask_of}
use Rattle.rx_replication.specs.Taking.{Resolve, Taking, taking}
use Rattle.rx_replication.specs.Write.{write}

-- a reply, and the master as it was when the reply was made
pub record MadeReply : Type 0 where
  pub reply : Reply
  pub master : Held

-- a request that waits for its reply, and the fork's last write time at the asking
pub record OpenRequest : Type 0 where
  pub request : Request
  pub lwt : ℕ

-- the fork and the master, what the fork knows, and all requests and replies ever made, the newest
-- first; `since` counts the requests made since the last migration
pub record System : Type 0 where
  pub fork : Held
  pub master : Held
  pub known : KnownStates
  pub up : Option Place
  pub down : Option Place
  pub epoch : ℕ
  pub n : ℕ
  pub requests : List Request
  pub since : ℕ
  pub replies : List MadeReply
  pub waiting : Option OpenRequest

-- What may happen: a commit; a request made; any request made since the last migration is handled;
-- any reply ever made arrives; a restart; a migration, which changes every state. `which` counts
-- from the newest.
pub data Step : Type 0 where
  CommitFork : (states : List State) → (now : ℕ) → Step
  CommitMaster : (states : List State) → (now : ℕ) → Step
  Ask : (batch : ℕ) → Step
  Handle : (which : ℕ) → (now : ℕ) → Step
  Arrive : (which : ℕ) → (now : ℕ) → Step
  Restart : Step
  Migrate : (change : State → State) → Step

-- ---- commits: one that finds no write time changes nothing

abbrev pub with_fork : System → Option Held → System
with_fork w None = w
with_fork w (Some fork) = record w { fork = fork }

abbrev pub with_master : System → Option Held → System
with_master w None = w
with_master w (Some master) = record w { master = master }

-- ---- a request made: it becomes the open one

abbrev pub request_of : System → ℕ → Request
request_of w batch = record {
  epoch = w.epoch;
  n = w.n + 1;
  ask = ask_of w.fork.documents w.known w.down batch;
}

abbrev pub with_request : System → Request → System
with_request w q = record w {
  n = w.n + 1;
  requests = q ∷ w.requests;
  since = suc w.since;
  waiting = Some (record { request = q; lwt = last_lwt w.fork.documents });
}

-- ---- a request handled: its reply joins the replies

abbrev pub with_reply : System → Request → Option Held → System
with_reply w q None = w
with_reply w q (Some master) = record w {
  master = master;
  replies =
      record { reply = reply_with q (body_of w.master.documents q.ask); master = master }
      ∷ w.replies;
}

abbrev pub handled_in : System → Option Request → ℕ → System
handled_in w None now = w
handled_in w (Some q) now = with_reply w q (master_then w.master q.ask now)

-- ---- a reply that arrives: it is taken where it is the open request's and the fork wasn't written

abbrev pub with_taking : System → Taking → Option Held → System
with_taking w t None = w
with_taking w t (Some fork) = record w {
  fork = fork;
  known = with_learnt w.known t.known;
  up = t.up;
  down = t.down;
  waiting = None;
}

abbrev pub taken_in : System → Option Taking → ℕ → System
taken_in w None now = w
taken_in w (Some t) now = with_taking w t (write w.fork t.rows now)

abbrev pub is_awaited : System → OpenRequest → Reply → Bool
is_awaited w o r =
    r.epoch == o.request.epoch && r.n == o.request.n && last_lwt w.fork.documents == o.lwt

abbrev pub arrived_in : Resolve → System → Option OpenRequest → Option MadeReply → ℕ → System
arrived_in resolve w None r now = w
arrived_in resolve w (Some o) None now = w
arrived_in resolve w (Some o) (Some r) now =
    if is_awaited w o r.reply
    then taken_in w (taking resolve w.fork.documents w.up w.down o.request.ask r.reply.body) now
    else w

-- ---- a migration: no request is open after it, and none that was made before is handled

abbrev pub migrated : (State → State) → System → System
migrated change w = record w {
  fork = changed_collection change w.fork;
  master = changed_collection change w.master;
  known = changed_known change w.known;
  since = 0;
  waiting = None;
}

-- ---- all

-- what a step makes of the system
abbrev pub system_after : Resolve → System → Step → System
system_after resolve w (CommitFork states now) = with_fork w (write w.fork states now)
system_after resolve w (CommitMaster states now) = with_master w (write w.master states now)
system_after resolve w (Ask batch) = with_request w (request_of w batch)
system_after resolve w (Handle which now) =
    handled_in w (slice_get (take w.since w.requests) which) now
system_after resolve w (Arrive which now) =
    arrived_in resolve w w.waiting (slice_get w.replies which) now
system_after resolve w Restart = record w { epoch = w.epoch + 1; n = 0; waiting = None }
system_after resolve w (Migrate change) = migrated change w

-- one step after another
abbrev pub run : Resolve → List Step → System → System
run resolve [] w = w
run resolve (s ∷ ss) w = run resolve ss (system_after resolve w s)

-- nothing is known, asked or answered
abbrev pub start : Held → Held → ℕ → System
start fork master epoch = record {
  fork = fork;
  master = master;
  known = [];
  up = None;
  down = None;
  epoch = epoch;
  n = 0;
  requests = [];
  since = 0;
  replies = [];
  waiting = None;
}

-- a batch has one document at least, and a change keeps keys
abbrev pub IsLawfulStep : Step → Type 0
IsLawfulStep (Ask batch) = 1 ≤ batch
IsLawfulStep (CommitFork states now) = Unit {0}
IsLawfulStep (CommitMaster states now) = Unit {0}
IsLawfulStep (Handle which now) = Unit {0}
IsLawfulStep (Arrive which now) = Unit {0}
IsLawfulStep Restart = Unit {0}
IsLawfulStep (Migrate change) = (s : State) → (change s).key ≡ s.key

abbrev pub AreLawfulSteps : List Step → Type 0
AreLawfulSteps [] = Unit {0}
AreLawfulSteps (s ∷ ss) = IsLawfulStep s × AreLawfulSteps ss
