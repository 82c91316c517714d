-- How many pushes are left, and how many exchanges are enough.
use Rattle.std.specs.Prelude.{◌≡◌, ℕ, ◌+◌, ◌*◌, ◌≤◌, true, List, [], ◌∷◌, length, Option, Some, None, is_none, if◌then◌else◌}
use Rattle.std.specs.List.{filter, sum_by}
use Rattle.std.specs.Map.{keys_of}
use Rattle.rx_value.specs.Named.{named}
use Rattle.rx_value.specs.declared.state.State.{State}
use Rattle.rx_document.specs.Documents.{Documents}
use Rattle.rx_document.specs.declared.stored.Stored.{Stored}
use Rattle.rx_replication.specs.Exchange.{Link, Exchange, IsLink, IsQuiet, exchange_over_link, pushed, pushes_of, HaveBatches, GoOn}
use Rattle.rx_replication.specs.Known.{KnownStates, is_state, is_pending, pending}
use Rattle.rx_replication.specs.Sound.{IsSound}
use Rattle.rx_replication.specs.Steps.{System, run}
use Rattle.rx_replication.specs.Steps.Step.{Ask, Handle, Arrive}
use Rattle.rx_replication.specs.Taking.{Resolve, KeepsKey}
use Rattle.rx_replication.specs.Write.{state_at}

-- how often a pending document may have to be pushed: twice where the master holds another state
-- than the known one, else once
abbrev pub behind : Option State → Option Stored → ℕ
behind known None = 1
behind known (Some m) = if is_state known m.state then 1 else 2

-- all pending documents together
abbrev pub pushes_left : Documents → KnownStates → Documents → ℕ
pushes_left fork known master =
    sum_by (λ d. behind (named known d.state.key) (named master d.state.key))
    (pending fork known)

-- of a link
abbrev pub left_in : Link → ℕ
left_in l = pushes_left l.fork.documents l.known l.master.documents

-- how many keys the fork, the master or both hold
abbrev pub key_count : Documents → Documents → ℕ
key_count fork master =
    length master + length (filter (λ key. is_none (named master key)) (keys_of fork))

-- ---- what holds of every handler and every link

abbrev pub EveryLink : (Resolve → Link → Type 0) → Type 0
EveryLink P = (resolve : Resolve) → KeepsKey resolve → (l : Link) → IsLink l → P resolve l

-- an exchange lowers the pushes left by at least the documents that it pushes, and a pull, which
-- pushes none, doesn't raise them
abbrev pub LowersPushesLeft : Resolve → Link → Type 0
LowersPushesLeft resolve l =
    (x : Exchange) → 1 ≤ x.batch → (next : Link) → exchange_over_link resolve l x ≡ Some next
    → left_in next + length (pushed l x.batch) ≤ left_in l

-- a document is pushed at most twice, and only if it is pending before the first exchange
abbrev pub PushesAtMostTwice : Resolve → Link → Type 0
PushesAtMostTwice resolve l =
    (xs : List Exchange) → HaveBatches xs → (key : List ℕ)
    → (pushes_of resolve key (Some l) xs ≤ 2)
    × (1 ≤ pushes_of resolve key (Some l) xs
    → (d : Stored) × (named l.fork.documents key ≡ Some d) × (is_pending l.known d ≡ true))

-- of P pending documents and K keys, no more than 2 P + K exchanges go by without a quiet one
abbrev pub IsQuietInTime : Resolve → Link → Type 0
IsQuietInTime resolve l =
    (xs : List Exchange) → HaveBatches xs → GoOn resolve l xs
    → length xs ≤ 2 * length (pending l.fork.documents l.known)
    + key_count l.fork.documents l.master.documents

-- a quiet exchange in a sound link makes the fork's documents the master's
abbrev pub QuietIsEqual : Resolve → Link → Type 0
QuietIsEqual resolve l =
    IsSound l.fork.documents l.master.documents l.known l.up l.down → (x : Exchange)
    → IsQuiet l x.batch → (next : Link) → exchange_over_link resolve l x ≡ Some next
    → (key : List ℕ)
    → state_at next.fork.documents key ≡ state_at next.master.documents key

-- ---- of any moment of a fork and its master

abbrev pub link_of : System → Link
link_of w =
    record { fork = w.fork; master = w.master; known = w.known; up = w.up; down = w.down }

-- an exchange is three steps: the request is made, then handled, and its reply arrives
abbrev pub ExchangesAreSteps : Type 0
ExchangesAreSteps =
    (resolve : Resolve) (w : System) (x : Exchange) (next : Link)
    → exchange_over_link resolve (link_of w) x ≡ Some next
    → link_of (run resolve (Ask x.batch ∷ Handle 0 x.handled ∷ Arrive 0 x.taken ∷ []) w) ≡ next
