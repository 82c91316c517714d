-- A turn: exchanges one after another, until one ends it, whoever answers its requests.
use Rattle.std.specs.Prelude.{◌≡◌, ℕ, zero, suc, List, [], ◌∷◌, ◌++◌, length, nat_lt, Option, Some, None, if◌then◌else◌}
use Rattle.rx_fork.specs.declared.ask.Asked.{Asked}
use Rattle.rx_record.specs.Content.{Content}
use Rattle.rx_reply.specs.declared.turn.Exchanged.{Exchanged}
use Rattle.rx_reply.specs.declared.turn.Exchanged.TheVariants.{Pushed, Pulled, PushLost, PullLost}
use Rattle.rx_reply.specs.declared.turn.TurnEnd.{TurnEnd}
use Rattle.rx_reply.specs.declared.turn.TurnEnd.TheVariants.{Quiet, Lost, Clock, More}
use Rattle.rx_script.specs.declared.happening.Happening.{Happening}
use Rattle.rx_script.specs.declared.happening.Happening.TheVariants as link
use Rattle.rx_wire.specs.declared.message.Request.{Request}
use Rattle.rx_world.specs.World.{World}
use Rattle.rx_sync.specs.Asking.{asked_in}
use Rattle.rx_sync.specs.Asks.{Asks, next_number}
use Rattle.rx_sync.specs.Exchange.{Terms, Course, course_by, world_after}

-- ---- what a turn comes to

-- What a turn writes, which requests are remembered after it, what its exchanges came to, and how
-- it ended. The exchange in which a commit found no write time isn't among them.
pub record Turned : Type 0 where
  pub records : List Content
  pub asks : Asks
  pub exchanges : List Exchanged
  pub ended : TurnEnd

-- how an exchange ends the turn, if it does: a pull that brought fewer documents than the batch
-- makes it quiet
abbrev pub end_by : ℕ → Option Exchanged → Option TurnEnd
end_by batch None = Some Clock
end_by batch (Some (Pushed rows conflicts)) = None
end_by batch (Some (Pulled rows place)) = if nat_lt (length rows) batch then Some Quiet else None
end_by batch (Some (PushLost rows why)) = Some Lost
end_by batch (Some (PullLost why)) = Some Lost

-- the exchange that there is
abbrev pub as_list : Option Exchanged → List Exchanged
as_list None = []
as_list (Some e) = e ∷ []

-- the request that was made
abbrev pub request_made : Option Asked → List Request
request_made None = []
request_made (Some asked) = asked.request ∷ []

-- an exchange before the rest of a turn
abbrev pub before : Course → Turned → Turned
before c rest = record {
  records = c.records ++ rest.records;
  asks = rest.asks;
  exchanges = as_list c.came ++ rest.exchanges;
  ended = rest.ended;
}

-- no exchange
abbrev pub ended_with : TurnEnd → Asks → Turned
ended_with end a = record { records = []; asks = a; exchanges = []; ended = end }

-- an exchange, and the rest of the turn, where it goes on
abbrev pub going_on : Course → Option TurnEnd → Turned → Turned
going_on c None rest = before c rest
going_on c (Some end) rest = before c (ended_with end c.asks)

-- ---- whoever answers

-- What answers the requests of a replication: how an exchange goes, by what is said of it, by the
-- world, by which requests are remembered, and by the one that is made; and what is said where
-- nothing is.
pub record Answerer (X : Type 0) : Type 0 where
  pub name : List ℕ
  pub unsaid : X
  pub goes : X → World → Asks → Option Asked → Course

-- an exchange with it, of such a batch
abbrev pub course_in : {X : Type 0} → Answerer X → ℕ → X → World → Asks → Course
course_in y batch x w a = y.goes x w a (asked_in w y.name (next_number a) batch)

-- what is said of the first exchange
abbrev pub first_said : {X : Type 0} → X → List X → X
first_said unsaid [] = unsaid
first_said unsaid (x ∷ xs) = x

-- and of those after it
abbrev pub said_later : {X : Type 0} → List X → List X
said_later [] = []
said_later (x ∷ xs) = xs

-- the turn, the requests that it made, and what is said beyond its exchanges
pub record TurnedBy (X : Type 0) : Type 0 where
  pub turned : Turned
  pub requests : List Request
  pub later : List X

abbrev pub requests_on : List Request → Option TurnEnd → List Request → List Request
requests_on made None rest = made ++ rest
requests_on made (Some end) rest = made

abbrev pub later_on : {X : Type 0} → List X → Option TurnEnd → List X → List X
later_on xs None rest = rest
later_on xs (Some end) rest = xs

-- an exchange and what is said beyond it, and the rest of the turn, where it goes on
abbrev pub said_on : {X : Type 0} → Course → Option Asked → List X → Option TurnEnd → TurnedBy X
    → TurnedBy X
said_on c o xs end rest = record {
  turned = going_on c end rest.turned;
  requests = requests_on (request_made o) end rest.requests;
  later = later_on xs end rest.later;
}

-- of such a batch, so many exchanges at most, where that is said of them
abbrev pub turn_by : {X : Type 0} → Answerer X → ℕ → ℕ → List X → World → Asks → TurnedBy X
turn_by y batch zero xs w a =
    record { turned = ended_with More a; requests = []; later = xs }
turn_by y batch (suc budget) xs w a =
    let c = course_in y batch (first_said y.unsaid xs) w a in
    said_on c (asked_in w y.name (next_number a) batch) (said_later xs) (end_by batch c.came)
    (turn_by y batch budget (said_later xs) (world_after c.records w) c.asks)

-- what holds of each exchange of a turn: of the world before it, of what was asked before, of what
-- is said of it, and of what it comes to
abbrev pub EachBy : {X : Type 0} → (World → Asks → X → Course → Type 0) → Answerer X → ℕ → ℕ
    → List X → World → Asks → Type 0
EachBy P y batch zero xs w a = Unit {0}
EachBy P y batch (suc budget) xs w a =
    let c = course_in y batch (first_said y.unsaid xs) w a in
    P w a (first_said y.unsaid xs) c
    × (end_by batch c.came ≡ None
    → EachBy P y batch budget (said_later xs) (world_after c.records w) c.asks)

-- ---- a master of the same journal

-- the link says what is done to an exchange: nothing, where it says nothing
abbrev pub over_link : Terms → Answerer Happening
over_link t = record { name = t.name; unsaid = link.Ok; goes = course_by t }

abbrev pub first_of : List Happening → Happening
first_of xs = first_said link.Ok xs

abbrev pub rest_of : List Happening → List Happening
rest_of xs = said_later xs

abbrev pub turn : Terms → ℕ → ℕ → List Happening → World → Asks → Turned
turn t batch budget link w a = (turn_by (over_link t) batch budget link w a).turned

abbrev pub EachExchange : (World → Asks → Happening → Course → Type 0) → Terms → ℕ → ℕ
    → List Happening → World → Asks → Type 0
EachExchange P t batch budget link w a = EachBy P (over_link t) batch budget link w a
