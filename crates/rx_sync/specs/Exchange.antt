-- One exchange of a turn, by what the link does to it.
use Rattle.std.specs.Prelude.{ℕ, Bool, true, false, List, [], ◌∷◌, ◌++◌, map, Option, Some, None, option_map, Result, Ok}
use Rattle.rx_wire.specs.declared.message.AskKind.{AskKind}
use Rattle.rx_wire.specs.declared.message.AskKind.TheVariants.{Push, Pull}
use Rattle.rx_wire.specs.declared.message.Body.{Body}
use Rattle.rx_wire.specs.declared.message.Body.TheVariants.{Conflicts, Docs}
use Rattle.rx_wire.specs.declared.message.PushRow.{PushRow}
use Rattle.rx_wire.specs.declared.message.Request.{Request}
use Rattle.rx_value.specs.declared.state.State.{State}
use Rattle.rx_handler.specs.Handlers.{Kinds}
use Rattle.rx_fork.specs.declared.ask.Asked.{Asked}
use Rattle.rx_record.specs.Content.{Content}
use Rattle.rx_reply.specs.declared.turn.Exchanged.{Exchanged}
use Rattle.rx_reply.specs.declared.turn.Exchanged.TheVariants.{Pushed, Pulled, PushLost, PullLost}
use Rattle.rx_reply.specs.declared.turn.Lost.{Lost}
use Rattle.rx_reply.specs.declared.turn.Lost.TheVariants as lost
use Rattle.rx_script.specs.declared.happening.Happening.{Happening}
use Rattle.rx_script.specs.declared.happening.Happening.TheVariants as link
use Rattle.rx_world.specs.Step.{step}
use Rattle.rx_world.specs.World.{World}
use Rattle.rx_sync.specs.Asks.{Asks, next_number, with_request, earlier}
use Rattle.rx_sync.specs.Asking.{asked_in}
use Rattle.rx_sync.specs.Handling.{Handled, handled_for}
use Rattle.rx_sync.specs.Taking.{taken}
use Rattle.rx_sync.specs.declared.fault.TakeFault.{TakeFault}

-- ---- worlds

-- the world after records, one after another
abbrev pub world_after : List Content → World → World
world_after [] w = w
world_after (c ∷ cs) w = world_after cs (step c w)

-- ---- what an exchange is answered with

abbrev pub row_keys : List PushRow → List (List ℕ)
row_keys rows = map (λ row. row.new.key) rows

abbrev pub state_keys : List State → List (List ℕ)
state_keys ss = map (λ s. s.key) ss

-- a request that found no taken reply
abbrev pub lost_by : Lost → AskKind → Exchanged
lost_by why (Push rows) = PushLost (row_keys rows) why
lost_by why (Pull place batch) = PullLost why

-- the states that a reply has, and the place that it leads to
abbrev pub answer_states : Body → List State
answer_states (Conflicts cs) = cs
answer_states (Docs ss to) = ss

-- a request and the reply to it that was taken
abbrev pub taken_as : AskKind → Body → Exchanged
taken_as (Push rows) (Conflicts cs) = Pushed (row_keys rows) (state_keys cs)
taken_as (Push rows) (Docs ss to) = Pushed (row_keys rows) (state_keys ss)
taken_as (Pull place batch) (Conflicts cs) = Pulled (state_keys cs) place
taken_as (Pull place batch) (Docs ss to) = Pulled (state_keys ss) to

-- a reply to a pull was taken
abbrev pub has_pulled : Option Exchanged → Bool
has_pulled (Some (Pulled rows place)) = true
has_pulled other = false

-- a pull was asked for, whatever came of it
abbrev pub asked_to_pull : Option Exchanged → Bool
asked_to_pull (Some (Pulled rows place)) = true
asked_to_pull (Some (PullLost why)) = true
asked_to_pull other = false

-- ---- the steps of an exchange

-- what an exchange writes, and what it came to: none where a commit found no write time
pub record Planned : Type 0 where
  pub records : List Content
  pub came : Option Exchanged

-- a commit finds no write time
abbrev pub no_time : Planned
no_time = record { records = []; came = None }

-- nothing is written any more
abbrev pub comes_to : Exchanged → Planned
comes_to e = record { records = []; came = Some e }

-- records, and then what comes
abbrev pub behind : List Content → Planned → Planned
behind cs p = record { records = cs ++ p.records; came = p.came }

-- what comes once a request was handled, in the world after that
abbrev pub once_handled : (Handled → World → Planned) → World → Option Handled → Planned
once_handled next w None = no_time
once_handled next w (Some h) = behind h.records (next h (world_after h.records w))

-- what stays the same through a turn: the name of its replication, the moment, and the handlers
-- that there are
pub record Terms : Type 0 where
  pub name : List ℕ
  pub now : ℕ
  pub kinds : Kinds

-- the master handles a request
abbrev pub handled_now : Terms → Request → World → Option Handled
handled_now t q w = handled_for w t.name q t.now

-- the records of a reply that is taken
abbrev pub if_taken : Option (Result (List Content) TakeFault) → Option (List Content)
if_taken (Some (Ok cs)) = Some cs
if_taken refused = None

-- the fork takes the reply
abbrev pub when_taken : AskKind → Body → Option (List Content) → Planned
when_taken ask body None = no_time
when_taken ask body (Some cs) = behind cs (comes_to (taken_as ask body))

abbrev pub reply_taken : Terms → Asked → Handled → World → Planned
reply_taken t asked h w =
    when_taken asked.request.ask h.reply.body
    (if_taken (taken w t.kinds t.name asked h.reply t.now))

-- the reply is lost
abbrev pub reply_lost : Lost → Asked → Handled → World → Planned
reply_lost why asked h w = comes_to (lost_by why asked.request.ask)

-- the request is handled, and its reply is taken
abbrev pub handled_and_taken : Terms → Asked → World → Planned
handled_and_taken t asked w =
    once_handled (reply_taken t asked) w (handled_now t asked.request w)

-- the request is handled again, and the first reply is taken
abbrev pub handled_again : Terms → Asked → Handled → World → Planned
handled_again t asked h w =
    once_handled (λ again v. reply_taken t asked h v) w (handled_now t asked.request w)

-- ---- an exchange

-- what is made of a request, by what the link does: of a late one too, the earlier request aside
abbrev pub exchange : Terms → Asked → Happening → World → Planned
exchange t asked link.Ok w = handled_and_taken t asked w
exchange t asked (link.Late j) w = handled_and_taken t asked w
exchange t asked link.LoseRequest w = comes_to (lost_by lost.LoseRequest asked.request.ask)
exchange t asked link.LoseReply w =
    once_handled (reply_lost lost.LoseReply asked) w (handled_now t asked.request w)
exchange t asked link.Twice w =
    once_handled (handled_again t asked) w (handled_now t asked.request w)
exchange t asked link.Stale w =
    once_handled (reply_lost lost.Stale asked) w (handled_now t asked.request w)

-- the earlier request that arrives late, where there is one
abbrev pub late_request : Happening → Asks → Option Request
late_request (link.Late j) a = earlier j a
late_request other a = None

-- the records of its handling, whose reply is lost; nothing where no write time is left
abbrev pub late_records : List ℕ → ℕ → World → Option Request → Option (List Content)
late_records name now w None = Some []
late_records name now w (Some q) = option_map (λ h. h.records) (handled_for w name q now)

-- they stand before those of the exchange
abbrev pub once_late : Terms → Asked → Happening → World → Option (List Content) → Planned
once_late t asked x w None = no_time
once_late t asked x w (Some cs) = behind cs (exchange t asked x (world_after cs w))

-- what an exchange comes to, and which requests are remembered after it
pub record Course : Type 0 where
  pub records : List Content
  pub asks : Asks
  pub came : Option Exchanged

abbrev pub course_with : Asks → Planned → Course
course_with a p = record { records = p.records; asks = a; came = p.came }

-- the request is made, and the link does something to it
abbrev pub course_of : Terms → Happening → World → Asks → Asked → Course
course_of t x w a asked =
    course_with (with_request asked.request a)
    (once_late t asked x w
    (late_records t.name t.now w (late_request x (with_request asked.request a))))

-- none is made where the replication isn't held
abbrev pub course_by : Terms → Happening → World → Asks → Option Asked → Course
course_by t x w a None = course_with a no_time
course_by t x w a (Some asked) = course_of t x w a asked

abbrev pub course : Terms → ℕ → Happening → World → Asks → Course
course t batch x w a = course_by t x w a (asked_in w t.name (next_number a) batch)
