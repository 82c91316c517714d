-- The line that makes a turn.
use Rattle.std.specs.Prelude.{◌≡◌, Some, ℕ, List, [], ◌∷◌, Bool, false, slice_index_or, unwrap_or, Option, Result, Ok}
use Rattle.std.specs.Option.{option_map_or}
use Rattle.rx_value.specs.Due.{◌>>◌, demand, or_fault}
use Rattle.rx_value.specs.Named.{named}
use Rattle.rx_handler.specs.Handlers.{Kinds}
use Rattle.rx_handler.specs.declared.kind.HandlerKind.{HandlerKind}
use Rattle.rx_record.specs.Content.{Content}
use Rattle.rx_reply.specs.declared.refusal.Refusal.TheVariants.{NoReplication, NoHandler}
use Rattle.rx_script.specs.declared.happening.Happening.{Happening}
use Rattle.rx_script.specs.declared.happening.Happening.TheVariants as link
use Rattle.rx_session.specs.Doing.{write, session_after}
use Rattle.rx_session.specs.Session.{Session}
use Rattle.rx_sync.specs.Exchange.{Terms}
use Rattle.rx_sync.specs.Laws.{HasMasterHere}
use Rattle.rx_sync.specs.Turn.{Turned, turn}
use Rattle.rx_world.specs.declared.replication.Replication.{Replication}
use Rattle.rx_engine.specs.Replicate.{has_handler}
use Rattle.rx_sync.specs.Asks.{asks_of}
use Rattle.rx_engine.specs.Standing.{Standing}
use Rattle.rx_writes.specs.declared.fault.Fault.{Fault}
use Rattle.rx_writes.specs.declared.fault.Fault.TheVariants.{Refused}

-- ---- whether a turn is made

-- exchanges of the replication of a name: of so many documents, so many at most, over such a link
pub record WantedTurn : Type 0 where
  pub name : List ℕ
  pub batch : ℕ
  pub budget : ℕ
  pub link : List Happening

-- its handler is there, and takes its field
abbrev pub is_handled : Kinds → Session → Replication → Bool
is_handled kinds s r =
    option_map_or (λ fork. has_handler kinds fork.schema r.handler r.field)
    (named s.world.collections r.fork) false

-- the replication of a name, which is to be held, as its handler is
abbrev pub turned_at : Kinds → List ℕ → Session → Result Replication Fault
turned_at kinds name s =
    or_fault (Refused NoReplication) (named s.world.replications name) >> λ r.
    demand (is_handled kinds s r) (Refused NoHandler) >> λ _. Ok r

-- the turn that is made, where the master is of this journal: nothing is done to its exchanges,
-- where nothing is said of the link
abbrev pub turn_here : List ℕ → ℕ → ℕ → Option (List Happening) → WantedTurn
turn_here name batch budget link =
    record { name = name; batch = batch; budget = budget; link = unwrap_or link [] }

-- ---- what it does

-- a session after records, one after another
abbrev pub written : List Content → Session → Session
written [] s = s
written (c ∷ cs) s = written cs (session_after (write c) s)

-- what stays through a turn
abbrev pub terms : List ℕ → ℕ → Kinds → Terms
terms name now kinds = record { name = name; now = now; kinds = kinds }

-- its records, its exchanges, and how it ended
abbrev pub turned : WantedTurn → Standing → Turned
turned t s =
    turn (terms t.name s.session.moment s.kinds) t.batch t.budget t.link s.session.world
    (asks_of t.name s.asks)

-- what the link does to an exchange, which is handled and answered where nothing is said
abbrev pub happening_at : ℕ → List Happening → Happening
happening_at i over = slice_index_or over i link.Ok

-- the replication of a name is there, its master is of this journal, and so is its handler
pub record CanTurn (kinds : Kinds) (s : Session) (name : List ℕ) : Type 0 where
  pub here : HasMasterHere s.world name
  pub kind : HandlerKind
  pub handler : named kinds here.replication.handler ≡ Some kind
