-- A sweep: turns over a tree, one after another, up to the first that isn't quiet.
use Rattle.std.specs.Prelude.{◌≡◌, ◌⊎◌, ℕ, ◌+◌, ◌*◌, ◌≤◌, Bool, true, false, List, [], ◌∷◌, ◌++◌, map, length, Option, Some}
use Rattle.std.specs.List.{AllByRecursion, filter, find, list_any}
use Rattle.std.specs.Option.{option_map_or}
use Rattle.std.specs.Str.{bytes_eq}
use Rattle.rx_value.specs.Named.{named, put_named}
use Rattle.rx_collection.specs.Held.{Held}
use Rattle.rx_document.specs.declared.stored.Stored.{Stored}
use Rattle.rx_handler.specs.Handlers.{Kinds}
use Rattle.rx_handler.specs.declared.kind.HandlerKind.{HandlerKind}
use Rattle.rx_record.specs.Content.{Content}
use Rattle.rx_replication.specs.Write.{state_at}
use Rattle.rx_reply.specs.declared.swept.Pass.{Pass}
use Rattle.rx_reply.specs.declared.swept.Pass.TheVariants.{Up, Down}
use Rattle.rx_reply.specs.declared.swept.Swept.{Swept as SweptTurn}
use Rattle.rx_reply.specs.declared.turn.TurnEnd.{TurnEnd}
use Rattle.rx_reply.specs.declared.turn.TurnEnd.TheVariants.{Quiet, Lost, Clock, More}
use Rattle.rx_tree.specs.Forest.{Reaches, follows}
use Rattle.rx_world.specs.Chain.{forest_of, has_fork}
use Rattle.rx_world.specs.Made.{IsMadeWorld}
use Rattle.rx_world.specs.Sound.{IsSoundWorld}
use Rattle.rx_world.specs.World.{World, Replications}
use Rattle.rx_world.specs.declared.replication.Replication.{Replication}
use Rattle.rx_sync.specs.Asks.{Asks, asks_of}
use Rattle.rx_sync.specs.Exchange.{Terms, world_after}
use Rattle.rx_sync.specs.Handling.{local_name}
use Rattle.rx_sync.specs.Laws.{RemembersLawful}
use Rattle.rx_tree.specs.Orders.{levels_down, levels_up}
use Rattle.rx_sync.specs.Turn.{Turned, turn}
use Rattle.rx_sync.specs.declared.sweeping.Step.{Step}

-- ---- a tree

-- the forks of a collection, in the order in which they were made
abbrev pub forks_in : World → List ℕ → List (List ℕ)
forks_in w n = filter (follows bytes_eq (forest_of w.replications) n) (map (λ e. e.0) w.collections)

-- the replication of a fork, by its name
abbrev pub entry_of : Replications → List ℕ → Option (List ℕ × Replication)
entry_of rs fork = find (λ e. has_fork fork e.1) rs

abbrev pub replication_of : Replications → List ℕ → List ℕ
replication_of rs fork = option_map_or (λ e. e.0) (entry_of rs fork) []

-- the turns of a sweep in their order: of which replication, and on which way
abbrev pub steps_of : Replications → Pass → List (List ℕ) → List Step
steps_of rs pass forks = map (λ c. record { pass = pass; name = replication_of rs c }) forks

abbrev pub sweep_steps : World → List ℕ → List Step
sweep_steps w n =
    steps_of w.replications Up (levels_up (forks_in w) (length w.replications) n)
    ++ steps_of w.replications Down (levels_down (forks_in w) (length w.replications) n)

-- ---- the same by replications

-- its master is that collection
abbrev pub has_master : List ℕ → Replication → Bool
has_master n r = option_map_or (λ m. bytes_eq m n) (local_name r.master) false

-- the forks among some replications of a collection
abbrev pub forks_among : List Replication → List ℕ → List (List ℕ)
forks_among rs n = map (λ r. r.fork) (filter (has_master n) rs)

-- replications in the order in which their forks were made
abbrev pub by_fork : Replications → List (List ℕ) → List Replication
by_fork rs [] = []
by_fork rs (c ∷ cs) = option_map_or (λ e. e.1 ∷ by_fork rs cs) (entry_of rs c) (by_fork rs cs)

-- ---- turns

-- how many documents an exchange and how many exchanges a turn, at which moment, and what resolves
-- conflicts
pub record Sweep : Type 0 where
  pub batch : ℕ
  pub budget : ℕ
  pub now : ℕ
  pub kinds : Kinds

-- what stays the same through the turn of the replication of a name
abbrev pub terms_in : Sweep → List ℕ → Terms
terms_in s name = record { name = name; now = s.now; kinds = s.kinds }

-- that turn, over a link that does nothing
abbrev pub turn_in : Sweep → List ℕ → World → List (List ℕ × Asks) → Turned
turn_in s name w asks = turn (terms_in s name) s.batch s.budget [] w (asks_of name asks)

-- What turns write, which requests are remembered after them, what each of them came to, and how
-- the last one ended: quiet, where there was none.
pub record Swept : Type 0 where
  pub records : List Content
  pub asks : List (List ℕ × Asks)
  pub turns : List SweptTurn
  pub ended : TurnEnd

-- a turn before others
abbrev pub swept_before : Step → Turned → Swept → Swept
swept_before step t rest = record {
  records = t.records ++ rest.records;
  asks = rest.asks;
  turns =
      record { pass = step.pass; name = step.name; exchanges = t.exchanges; end = t.ended }
      ∷ rest.turns;
  ended = rest.ended;
}

-- no turn any more
abbrev pub swept_with : TurnEnd → List (List ℕ × Asks) → Swept
swept_with end asks = record { records = []; asks = asks; turns = []; ended = end }

-- only a quiet turn is gone on from
abbrev pub swept_on : TurnEnd → List (List ℕ × Asks) → Swept → Swept
swept_on Quiet asks rest = rest
swept_on Lost asks rest = swept_with Lost asks
swept_on Clock asks rest = swept_with Clock asks
swept_on More asks rest = swept_with More asks

-- those of these steps
abbrev pub sweep : Sweep → List Step → World → List (List ℕ × Asks) → Swept
sweep s [] w asks = swept_with Quiet asks
sweep s (step ∷ steps) w asks =
    let t = turn_in s step.name w asks in
    let then = put_named asks step.name t.asks in
    swept_before step t (swept_on t.ended then (sweep s steps (world_after t.records w) then))

-- those of the tree of a collection
abbrev pub sweep_from : Sweep → List ℕ → World → List (List ℕ × Asks) → Swept
sweep_from s root w asks = sweep s (sweep_steps w root) w asks

-- what holds of each of its turns, up to the first that isn't quiet: of the name of its replication,
-- of the world before it, and of what was asked before
abbrev pub EachSwept : (List ℕ → World → List (List ℕ × Asks) → Type 0) → Sweep → List Step → World
    → List (List ℕ × Asks) → Type 0
EachSwept P s [] w asks = Unit {0}
EachSwept P s (step ∷ steps) w asks =
    let t = turn_in s step.name w asks in
    P step.name w asks
    × (t.ended ≡ Quiet
    → EachSwept P s steps (world_after t.records w) (put_named asks step.name t.asks))

-- ---- what holds of it

-- the handler of a replication is there
abbrev pub HasHandler : Kinds → World → List ℕ → Type 0
HasHandler kinds w name =
    (r : Replication) → named w.replications name ≡ Some r
    → (kind : HandlerKind) × (named kinds r.handler ≡ Some kind)

-- The world is sound, each replication of the tree has its handler, and what is remembered of
-- requests is lawful.
pub record MaySweep (s : Sweep) (root : List ℕ) (w : World) (asks : List (List ℕ × Asks)) : Type 0
  where
    pub batch : 1 ≤ s.batch
    pub made : IsMadeWorld w
    pub sound : IsSoundWorld w
    pub handled : AllByRecursion (λ (step : Step). HasHandler s.kinds w step.name)
        (sweep_steps w root)
    pub remembers : (name : List ℕ) → RemembersLawful w name (asks_of name asks)

-- a collection is the root, or a fork of one of its tree
abbrev pub IsInTree : World → List ℕ → List ℕ → Type 0
IsInTree w c root = Reaches bytes_eq (forest_of w.replications) c root

-- two collections have the same state at each key
abbrev pub AreEqualIn : World → List ℕ → List ℕ → Type 0
AreEqualIn w a b =
    (x y : Held) → named w.collections a ≡ Some x → named w.collections b ≡ Some y
    → (key : List ℕ) → state_at x.documents key ≡ state_at y.documents key

-- where a sweep ends quiet, each collection of the tree equals its root
abbrev pub QuietSweepIsEqual : Type 0
QuietSweepIsEqual =
    (s : Sweep) (root : List ℕ) (w : World) (asks : List (List ℕ × Asks)) → MaySweep s root w asks
    → (sweep_from s root w asks).ended ≡ Quiet
    → (c : List ℕ) → IsInTree w c root
    → AreEqualIn (world_after (sweep_from s root w asks).records w) c root

-- the collections of a tree hold no other keys than these
abbrev pub HoldsOnly : World → List ℕ → List (List ℕ) → Type 0
HoldsOnly w root keys =
    (c : List ℕ) → IsInTree w c root → (x : Held) → named w.collections c ≡ Some x
    → (k : List ℕ) (d : Stored) → named x.documents k ≡ Some d
    → list_any (bytes_eq k) keys ≡ true

-- a sweep over so many keys, each turn of which may make three exchanges a key and one, ends quiet,
-- or where no write time is left
abbrev pub SweepEndsInTime : Type 0
SweepEndsInTime =
    (s : Sweep) (root : List ℕ) (w : World) (asks : List (List ℕ × Asks)) → MaySweep s root w asks
    → (keys : List (List ℕ)) → HoldsOnly w root keys → 3 * length keys + 1 ≤ s.budget
    → ((sweep_from s root w asks).ended ≡ Quiet) ⊎ ((sweep_from s root w asks).ended ≡ Clock)
