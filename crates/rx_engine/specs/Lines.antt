-- What a line does, by what it asks.
use Rattle.std.specs.Prelude.{◌≡◌, ℕ, ◌+◌, List, codes, Option, is_none, Result, Ok, Err}
use Rattle.rx_value.specs.Due.{◌>>◌, demand, lifted}
use Rattle.rx_handler.specs.Handlers.{Kinds}
use Rattle.rx_reply.specs.Answer.{tick, restart, refused}
use Rattle.rx_record.specs.declared.record.MasterName.{MasterName}
use Rattle.rx_record.specs.declared.record.MasterName.TheVariants as master
use Rattle.rx_reply.specs.declared.refusal.Refusal.TheVariants.{Clock, Line, NoReplication}
use Rattle.rx_script.specs.Asked.{Asked, Collection, Insert, Bulk, Upsert, Patch, Update, Remove, Hook, Migrate, Get, Find, Count, Observe, Unobserve, Explain, Replicate, Turn, Sweep, Stream, Deliver, Unstream, Changes, Tick, Restart, Digest}
use Rattle.rx_script.specs.Line.{line_of}
use Rattle.rx_script.specs.declared.delivery.Delivery.{Delivery}
use Rattle.rx_script.specs.declared.fault.LineFault.TheVariants.{Unexpected}
use Rattle.rx_script.specs.declared.happening.Happening.{Happening}
use Rattle.rx_session.specs.Doing.{nothing, set_clock, restart as open_again}
use Rattle.rx_session.specs.Session.{Session}
use Rattle.rx_engine.specs.Calling.{WantedCall}
use Rattle.rx_writes.specs.Faults.{of_line}
use Rattle.rx_engine.specs.Listing.{changes_line, digest_line}
use Rattle.rx_engine.specs.Outcome.{Outcome, answer_alone}
use Rattle.rx_engine.specs.Queries.{get_line, find_line, count_line, observe_line, unobserve_line, explain_line}
use Rattle.rx_engine.specs.Writes.{collection_line, insert_line, upsert_line, patch_line, update_line, remove_line, bulk_line}
use Rattle.rx_engine.specs.Hooking.{hook_line}
use Rattle.rx_engine.specs.Migrate.{migrate_line}
use Rattle.rx_engine.specs.Replicate.{master_of, replicate_line}
use Rattle.rx_engine.specs.Standing.{Standing}
use Rattle.rx_engine.specs.Streams.{WantedDelivery, deliver_over, stream_at, stream_line, unstream_line}
use Rattle.rx_engine.specs.Sweeping.{WantedSweep, swept_at}
use Rattle.rx_engine.specs.Turning.{WantedTurn, turn_here, turned_at}
use Rattle.rx_writes.specs.declared.fault.Fault.{Fault}
use Rattle.rx_writes.specs.declared.fault.Fault.TheVariants.{Refused, Memory}

-- the present moment is set, and may go back
abbrev pub tick_line : ℕ → Result Outcome Fault
tick_line at = Ok (record { doing = set_clock at; answer = tick })

-- the journal is opened again, in the next epoch
abbrev pub restart_line : Session → Result Outcome Fault
restart_line s = Ok (record {
  doing = open_again (s.world.epoch + 1);
  answer = restart (s.world.epoch + 1);
})

-- what a line does and is answered; turns, a sweep and a delivery are none of these
abbrev pub asked_outcome : Kinds → Asked → Session → Result Outcome Fault
asked_outcome kinds (Collection name schema) s = collection_line name schema s
asked_outcome kinds (Insert coll doc) s = insert_line coll doc s
asked_outcome kinds (Bulk coll docs) s = bulk_line coll docs s
asked_outcome kinds (Upsert coll doc) s = upsert_line coll doc s
asked_outcome kinds (Patch coll key set rev) s = patch_line coll key set rev s
asked_outcome kinds (Update coll key update rev) s = update_line coll key update rev s
asked_outcome kinds (Remove coll key rev) s = remove_line coll key rev s
asked_outcome kinds (Migrate coll schema steps) s = migrate_line coll schema steps s
asked_outcome kinds (Hook coll when hook field) s = hook_line coll when hook field s
asked_outcome kinds (Get coll key) s = get_line coll key s
asked_outcome kinds (Find coll query) s = find_line coll query s
asked_outcome kinds (Count coll query) s = count_line coll query s
asked_outcome kinds (Observe name coll query) s = observe_line name coll query s
asked_outcome kinds (Unobserve name) s = unobserve_line name s
asked_outcome kinds (Explain name) s = explain_line name s
asked_outcome kinds (Replicate name fork master handler field) s =
    replicate_line kinds name fork (master_of master) handler field s
asked_outcome kinds (Turn name batch budget link) s = Err (Refused NoReplication)
asked_outcome kinds (Sweep name batch budget) s = Err (Refused NoReplication)
asked_outcome kinds (Stream name) s = stream_line name s
asked_outcome kinds (Deliver name link) s = Err (Refused NoReplication)
asked_outcome kinds (Unstream name) s = unstream_line name s
asked_outcome kinds (Changes coll since batch) s = changes_line coll since batch s
asked_outcome kinds (Tick at) s = tick_line at
asked_outcome kinds Restart s = restart_line s
asked_outcome kinds (Digest coll) s = digest_line coll s

-- what a line comes to: an outcome; or a turn, to a master of this journal or to one elsewhere, the
-- turns of a tree, or a delivery, which are answered once they are made
pub data Task : Type 0 where
  answered : Outcome → Task
  turns : WantedTurn → Task
  calls : WantedCall → Task
  sweeps : WantedSweep → Task
  delivers : WantedDelivery → Task

-- the turn to a master; nothing is said of the link to one elsewhere
abbrev pub turn_to : MasterName → List ℕ → ℕ → ℕ → Option (List Happening) → Result Task Fault
turn_to (master.Local at) name batch budget link =
    Ok (turns (turn_here name batch budget link))
turn_to (master.Port port) name batch budget link =
    demand (is_none link) (Refused (Line (Unexpected (codes "link")))) >> λ _.
    Ok (calls (record { name = name; port = port; batch = batch; budget = budget }))

-- the turn that is made, or why none is
abbrev pub turn_line : Kinds → List ℕ → ℕ → ℕ → Option (List Happening) → Session
    → Result Task Fault
turn_line kinds name batch budget link s =
    turned_at kinds name s >> λ r. turn_to r.master name batch budget link

-- the sweep that is made, or why none is
abbrev pub sweep_line : Kinds → List ℕ → ℕ → ℕ → Session → Result Task Fault
sweep_line kinds name batch budget s =
    swept_at kinds name batch budget s >> λ v. Ok (sweeps v)

-- the delivery that is made, or why none is
abbrev pub deliver_line : List ℕ → Option (List Delivery) → Session → Result Task Fault
deliver_line name link s = stream_at name s >> λ st. Ok (delivers (deliver_over name link))

abbrev pub asked_task : Kinds → Asked → Session → Result Task Fault
asked_task kinds (Turn name batch budget link) s = turn_line kinds name batch budget link s
asked_task kinds (Sweep name batch budget) s = sweep_line kinds name batch budget s
asked_task kinds (Deliver name link) s = deliver_line name link s
asked_task kinds other s = asked_outcome kinds other s >> λ o. Ok (answered o)

-- what it comes to, or why it is refused
abbrev pub line_task : Kinds → List ℕ → Session → Result Task Fault
line_task kinds line s = lifted of_line (line_of line) >> λ ask. asked_task kinds ask s

-- a refused line is answered, and does nothing. Want of memory is no task.
abbrev pub task_or_refusal : Result Task Fault → Task
task_or_refusal (Ok t) = t
task_or_refusal (Err (Refused r)) = answered (answer_alone (refused r))
task_or_refusal (Err Memory) = answered (answer_alone (refused Clock))

abbrev pub task : Kinds → List ℕ → Session → Task
task kinds line s = task_or_refusal (line_task kinds line s)

-- it changes nothing: it is refused, or tells what there is
abbrev pub IsIdleTask : Task → Type 0
IsIdleTask (answered o) = o.doing ≡ nothing
IsIdleTask (turns t) = ⊥
IsIdleTask (calls c) = ⊥
IsIdleTask (sweeps v) = ⊥
IsIdleTask (delivers d) = ⊥

-- so it is of a line
abbrev pub IsIdle : List ℕ → Standing → Type 0
IsIdle line s = IsIdleTask (task s.kinds line s.session)

-- the line is a restart
abbrev pub IsRestart : List ℕ → Type 0
IsRestart line = line_of line ≡ Ok Restart
