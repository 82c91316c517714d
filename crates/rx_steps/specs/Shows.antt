-- What a world shows of the system of a replication.
use Rattle.std.specs.Prelude.{◌≡◌, ℕ, List, take, Some}
use Rattle.rx_value.specs.Named.{named}
use Rattle.rx_schema.specs.declared.shape.Shape.{Shape}
use Rattle.rx_collection.specs.Held.{Held}
use Rattle.rx_handler.specs.Handlers.{Kinds}
use Rattle.rx_handler.specs.declared.kind.HandlerKind.{HandlerKind}
use Rattle.rx_replication.specs.Exchange.{Link}
use Rattle.rx_replication.specs.Left.{link_of}
use Rattle.rx_replication.specs.Steps.{Step, System, AreLawfulSteps, run}
use Rattle.rx_replication.specs.Taking.{Resolve}
use Rattle.rx_sync.specs.Asks.{Asks}
use Rattle.rx_sync.specs.Bound.{link_in}
use Rattle.rx_sync.specs.Taking.{resolve_for}
use Rattle.rx_world.specs.World.{World}
use Rattle.rx_world.specs.declared.replication.Replication.{Replication}

-- ---- a world and a system

-- the collection with this schema in place of its own
abbrev pub of_schema : Shape → Held → Held
of_schema schema c = record c { schema = schema }

-- both collections of a link with it
abbrev pub link_of_schema : Shape → Link → Link
link_of_schema schema l =
    record l { fork = of_schema schema l.fork; master = of_schema schema l.master }

-- The replication of a name is held with its fork and with its master, which is of this journal.
-- These, what it knows and its checkpoints are the system's, but for the schema, which no step
-- regards and each migration changes. So are the epoch and the number of the last request, and what
-- is remembered are the newest of the requests that may still be handled. Nothing is said of the
-- open request and of the replies: they are the link's.
pub record Shows (a : Asks) (w : World) (name : List ℕ) (s : System) : Type 0 where
  pub schema : Shape
  pub link : link_in w name ≡ Some (link_of_schema schema (link_of s))
  pub epoch : s.epoch ≡ w.epoch
  pub n : s.n ≡ a.n
  pub remembered : ℕ
  pub requests : a.requests ≡ take remembered (take s.since s.requests)

-- ---- what resolves conflicts

-- it is how the handler of the replication of a name does
pub record Resolves (kinds : Kinds) (w : World) (name : List ℕ) (by : Resolve) : Type 0 where
  pub replication : Replication
  pub held : named w.replications name ≡ Some replication
  pub kind : HandlerKind
  pub handler : named kinds replication.handler ≡ Some kind
  pub is : resolve_for kind replication ≡ by

-- ---- what leads from one to the next

-- lawful steps lead from the system to one that the world shows
pub record LeadsTo (by : Resolve) (s : System) (a : Asks) (w : World) (name : List ℕ) : Type 0 where
  pub steps : List Step
  pub lawful : AreLawfulSteps steps
  pub shown : Shows a w name (run by steps s)
