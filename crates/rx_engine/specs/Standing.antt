-- How things stand between two lines of a run.
use Rattle.std.specs.Prelude.{ℕ, List, map, Bool, false, if◌then◌else◌}
use Rattle.std.specs.Option.{option_map_or}
use Rattle.rx_value.specs.Named.{named}
use Rattle.rx_handler.specs.Handlers.{Kinds}
use Rattle.rx_record.specs.Content.{Content, migration}
use Rattle.rx_session.specs.Session.{Session}
use Rattle.rx_sync.specs.Asks.{Asks, forgotten}
use Rattle.rx_sync.specs.Remote.{Heard}
use Rattle.rx_world.specs.Migrating.{is_in_group}
use Rattle.rx_world.specs.World.{World, Replications}

-- the session; what is remembered of the requests of each replication that made some, by its name;
-- what resolves conflicts, by its name; and what is to be heard of masters elsewhere, exchange
-- after exchange
pub record Standing : Type 0 where
  pub session : Session
  pub asks : List (List ℕ × Asks)
  pub kinds : Kinds
  pub heard : List Heard

-- the replication of a name is one of a group
abbrev pub is_of_group : (List ℕ → Bool) → Replications → List ℕ → Bool
is_of_group in_group rs name = option_map_or (λ r. in_group r.fork) (named rs name) false

-- requests by the name of their replication, forgotten where that is asked for
abbrev pub forgotten_where : (List ℕ → Bool) → List ℕ × Asks → List ℕ × Asks
forgotten_where chosen e = if chosen e.0 then (e.0, forgotten e.1) else e

-- what is remembered of requests after a record: a migration has those of its group forgotten
abbrev pub asks_after : Content → World → List (List ℕ × Asks) → List (List ℕ × Asks)
asks_after (migration name text steps) w asks =
    map (forgotten_where (is_of_group (is_in_group w.replications name) w.replications)) asks
asks_after other w asks = asks

-- the standing that has these parts
abbrev pub standing_with : Session → List (List ℕ × Asks) → Kinds → List Heard → Standing
standing_with session asks kinds heard =
    record { session = session; asks = asks; kinds = kinds; heard = heard }
