-- The collection of a world that is served.
use Rattle.std.specs.Prelude.{ℕ, List, [], Bool, not, ◌&&◌, is_some}
use Rattle.std.specs.Option.{unwrap_or}
use Rattle.rx_value.specs.Named.{named}
use Rattle.rx_schema.specs.declared.shape.Shape.{Shape}
use Rattle.rx_collection.specs.Held.{Held, held_with}
use Rattle.rx_collection.specs.declared.holder.Plain.{Plain}
use Rattle.rx_world.specs.Chain.{is_fork}
use Rattle.rx_world.specs.Holders.{Holders, world_in}
use Rattle.rx_world.specs.World.{World}

-- the world of collections without queries
abbrev pub world_of : Holders Plain → World
world_of h = world_in (λ (p : Plain). p.collection) h

-- a collection is served where it is held and is no fork
abbrev pub is_served : List ℕ → World → Bool
is_served name w = is_some (named w.collections name) && not (is_fork name w.replications)

-- what stands where there is no collection
abbrev pub no_shape : Shape
no_shape = record { version = 0; primary = []; properties = []; required = []; indexes = [] }

abbrev pub no_collection : Held
no_collection = held_with [] no_shape []

-- the collection of a name
abbrev pub collection_at : List ℕ → World → Held
collection_at name w = unwrap_or (named w.collections name) no_collection
