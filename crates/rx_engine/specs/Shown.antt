-- What a line does, as the code has it.
use Rattle.std.specs.Prelude.{⊤, ◌≤◌, IsSome}
use Rattle.rx_reply.specs.Answer.{answer_of}
use Rattle.rx_record.specs.Shown.{content}
use Rattle.rx_session.specs.Doing.{Doing, write, migrate, restart, MayDo}
use Rattle.rx_session.specs.Session.{Session, stream_of}
use Rattle.rx_session.specs.Shown.{done_by}
use Rattle.rx_engine.specs.Calling.{WantedCall}
use Rattle.rx_engine.specs.Lines.{Task, answered, turns, calls, sweeps, delivers}
use Rattle.rx_world.specs.Touch.{IsNoExchange}
use Rattle.rx_engine.specs.Outcome.{Outcome}
use Rattle.rx_engine.specs.Streams.{WantedDelivery}
use Rattle.rx_engine.specs.Sweeping.{WantedSweep}
use Rattle.rx_engine.specs.Turning.{WantedTurn}
use Rattle.rx_engine.specs.declared.outcome.Outcome.{Outcome as Planned}
use Rattle.rx_engine.specs.declared.outcome.LineDoing.{LineDoing}
use Rattle.rx_engine.specs.declared.outcome.Task.{Task as ToDo}
use Rattle.rx_engine.specs.declared.outcome.Task.TheVariants.{Answered, Turns, Calls, Sweeps, Delivers}
use Rattle.rx_engine.specs.declared.remote.Call.{Call}
use Rattle.rx_engine.specs.declared.streams.Deliver.{Deliver}
use Rattle.rx_engine.specs.declared.sweeping.Sweep.{Sweep}
use Rattle.rx_engine.specs.declared.turning.Turn.{Turn}
use Rattle.rx_engine.specs.declared.outcome.LineDoing.TheVariants.{InSession, Migrate, Restart}

abbrev pub doing_of : LineDoing → Doing
doing_of (InSession doing) = done_by doing
doing_of (Migrate entry) = migrate (content entry)
doing_of (Restart number) = restart number

abbrev pub outcome_of : Planned → Outcome
outcome_of p = record { doing = doing_of p.doing; answer = answer_of p.reply }

-- what is to be written is no exchange
abbrev pub WritesNoExchange : Doing → Type 0
WritesNoExchange (write c) = IsNoExchange c
WritesNoExchange _ = ⊤

abbrev pub turn_of : Turn → WantedTurn
turn_of t = record { name = t.name; batch = t.batch; budget = t.budget; link = t.link.items }

abbrev pub call_of : Call → WantedCall
call_of c = record { name = c.name; port = c.port; batch = c.batch; budget = c.budget }

abbrev pub deliver_of : Deliver → WantedDelivery
deliver_of d = record { name = d.name; link = d.link.items }

abbrev pub sweep_of : Sweep → WantedSweep
sweep_of v = record { steps = v.steps.items; batch = v.batch; budget = v.budget }

abbrev pub task_of : ToDo → Task
task_of (Answered p) = answered (outcome_of p)
task_of (Turns t) = turns (turn_of t)
task_of (Calls c) = calls (call_of c)
task_of (Sweeps v) = sweeps (sweep_of v)
task_of (Delivers d) = delivers (deliver_of d)

-- it may be done in a session; an exchange is of one document at least, a turn to a master
-- elsewhere has one at least, and a stream that delivers is open
abbrev pub MayDoTask : ToDo → Session → Type 0
MayDoTask (Answered p) s = MayDo (doing_of p.doing) s
MayDoTask (Turns t) s = 1 ≤ t.batch
MayDoTask (Calls c) s = (1 ≤ c.batch) × (1 ≤ c.budget)
MayDoTask (Sweeps v) s = 1 ≤ v.batch
MayDoTask (Delivers d) s = IsSome (stream_of d.name s)
