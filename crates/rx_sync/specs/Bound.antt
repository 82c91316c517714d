-- How many exchanges are enough, where the link does nothing to them.
use Rattle.std.specs.Prelude.{◌≡◌, ◌⊎◌, ℕ, ◌+◌, ◌*◌, ◌≤◌, Bool, true, false, List, [], ◌∷◌, filter, length, Option, Some, if◌then◌else◌}
use Rattle.std.specs.List.{AllByRecursion}
use Rattle.std.specs.Str.{bytes_eq}
use Rattle.rx_value.specs.Due.{◌>>=◌}
use Rattle.rx_value.specs.Named.{named}
use Rattle.rx_document.specs.declared.stored.Stored.{Stored}
use Rattle.rx_collection.specs.Held.{Held}
use Rattle.rx_replication.specs.Exchange.{Link}
use Rattle.rx_replication.specs.Known.{is_pending, pending}
use Rattle.rx_replication.specs.Left.{key_count, left_in}
use Rattle.rx_handler.specs.Handlers.{Kinds}
use Rattle.rx_reply.specs.declared.turn.Exchanged.{Exchanged}
use Rattle.rx_reply.specs.declared.turn.Exchanged.TheVariants.{Pushed, Pulled, PushLost, PullLost}
use Rattle.rx_reply.specs.declared.turn.TurnEnd.{TurnEnd}
use Rattle.rx_reply.specs.declared.turn.TurnEnd.TheVariants.{Quiet, Lost, Clock, More}
use Rattle.rx_script.specs.declared.happening.Happening.{Happening}
use Rattle.rx_script.specs.declared.happening.Happening.TheVariants as happening
use Rattle.rx_world.specs.World.{World}
use Rattle.rx_world.specs.declared.replication.Replication.{Replication}
use Rattle.rx_sync.specs.Asking.{fork_in}
use Rattle.rx_sync.specs.Asks.{Asks}
use Rattle.rx_sync.specs.Exchange.{Terms, Course, world_after}
use Rattle.rx_sync.specs.Handling.{local_name}
use Rattle.rx_sync.specs.Laws.{EveryTurn, IsReady}
use Rattle.rx_sync.specs.Turn.{EachExchange, Turned, turn}

-- ---- a replication of a world as its fork and its master

-- the two, with what the replication knows
abbrev pub link_of : Replication → Held → Held → Link
link_of r fork master = record {
  fork = fork;
  master = master;
  known = r.side.known;
  up = r.side.up;
  down = r.side.down;
}

-- those of the replication of a name, where it is held with both of them
abbrev pub link_in : World → List ℕ → Option Link
link_in w name =
    named w.replications name >>= λ r. fork_in w r >>= λ fork. local_name r.master >>= λ at.
    named w.collections at >>= λ master. Some (link_of r fork master)

-- it is, and this holds of them
abbrev pub ForLink : World → List ℕ → (Link → Type 0) → Type 0
ForLink w name P = (l : Link) × (link_in w name ≡ Some l) × P l

-- two for each document to be pushed, one for each key that the fork, the master or both hold, and
-- one
abbrev pub enough : Link → ℕ
enough l =
    2 * length (pending l.fork.documents l.known)
    + key_count l.fork.documents l.master.documents + 1

-- ---- turns whose link does nothing

abbrev pub AreOk : List Happening → Type 0
AreOk xs = AllByRecursion (λ x. x ≡ happening.Ok) xs

-- what holds of each of them, where it may be made
abbrev pub EveryOkTurn : (Terms → ℕ → ℕ → List Happening → World → Asks → Type 0) → Type 0
EveryOkTurn P = EveryTurn (λ t batch budget link w a. AreOk link → P t batch budget link w a)

-- ---- the pushes left

-- the keys of the documents that an exchange pushes: a pull pushes none
abbrev pub pushed_keys : Exchanged → List (List ℕ)
pushed_keys (Pushed rows conflicts) = rows
pushed_keys (Pulled rows place) = []
pushed_keys (PushLost rows why) = rows
pushed_keys (PullLost why) = []

-- from one world to the next the pushes left fall by so many at least
abbrev pub FallsBy : World → World → List ℕ → ℕ → Type 0
FallsBy w next name n =
    ForLink w name (λ l. ForLink next name (λ m. left_in m + n ≤ left_in l))

-- an exchange that finds its write times lowers the pushes left by the documents that it pushes at
-- least, and a pull doesn't raise them
abbrev pub LowersLeft : Terms → World → Course → Type 0
LowersLeft t w c =
    (e : Exchanged) → c.came ≡ Some e
    → FallsBy w (world_after c.records w) t.name (length (pushed_keys e))

abbrev pub EachLowersLeft : Terms → ℕ → ℕ → List Happening → World → Asks → Type 0
EachLowersLeft t batch budget link w a =
    EachExchange (λ w a x c. LowersLeft t w c) t batch budget link w a

-- ---- how often a document is pushed

-- by these exchanges
abbrev pub pushes_in : List ℕ → List Exchanged → ℕ
pushes_in key [] = 0
pushes_in key (e ∷ es) =
    length (filter (λ k. bytes_eq k key) (pushed_keys e)) + pushes_in key es

-- at most twice in a turn, and only if it is pending before it
abbrev pub PushesAtMostTwice : Terms → ℕ → ℕ → List Happening → World → Asks → Type 0
PushesAtMostTwice t batch budget link w a =
    ForLink w t.name (λ l. (key : List ℕ)
    → (pushes_in key (turn t batch budget link w a).exchanges ≤ 2)
    × (1 ≤ pushes_in key (turn t batch budget link w a).exchanges
    → (d : Stored) × (named l.fork.documents key ≡ Some d) × (is_pending l.known d ≡ true)))

-- ---- a budget that is enough

-- a turn with as many exchanges as are enough ends quiet, or where no write time is left
abbrev pub EndsInTime : Terms → ℕ → ℕ → List Happening → World → Asks → Type 0
EndsInTime t batch budget link w a =
    ForLink w t.name (λ l. enough l ≤ budget
    → ((turn t batch budget link w a).ended ≡ Quiet)
    ⊎ ((turn t batch budget link w a).ended ≡ Clock))

-- ---- turns that follow each other

-- a turn to be made: its batch, its budget, what its link does, its moment, and which requests are
-- remembered before it, as some may be made between two turns
pub record NextTurn : Type 0 where
  pub batch : ℕ
  pub budget : ℕ
  pub link : List Happening
  pub now : ℕ
  pub asks : Asks

-- it asks for one document at least, and its link does nothing
abbrev pub IsOkTurn : NextTurn → Type 0
IsOkTurn n = (1 ≤ n.batch) × AreOk n.link

abbrev pub turn_of_line : List ℕ → Kinds → NextTurn → World → Turned
turn_of_line name kinds n w =
    turn (record { name = name; now = n.now; kinds = kinds }) n.batch n.budget n.link w n.asks

-- the turn needs no other, or finds no write time
abbrev pub is_done : TurnEnd → Bool
is_done Quiet = true
is_done Lost = false
is_done Clock = true
is_done More = false

-- How many exchanges turns make, each in the world that the one before left: up to and with the
-- first that is quiet or finds no write time.
abbrev pub exchanges_of : List ℕ → Kinds → List NextTurn → World → ℕ
exchanges_of name kinds [] w = 0
exchanges_of name kinds (n ∷ ns) w =
    let u = turn_of_line name kinds n w in
    length u.exchanges
    + (if is_done u.ended then 0 else exchanges_of name kinds ns (world_after u.records w))

-- no more than are enough before the first of them
abbrev pub TurnsEndInTime : Type 0
TurnsEndInTime =
    (name : List ℕ) (kinds : Kinds) (w : World) → IsReady w name kinds → (turns : List NextTurn)
    → AllByRecursion IsOkTurn turns
    → ForLink w name (λ l. exchanges_of name kinds turns w ≤ enough l)
