-- All that holds of a world that records made.
use Rattle.std.specs.Map.{keys_of}
use Rattle.rx_world.specs.Chain.{IsForest}
use Rattle.rx_world.specs.Lawful.{IsLawfulWorld}
use Rattle.rx_world.specs.Linked.{AreLinked}
use Rattle.rx_world.specs.Names.{AreNames}
use Rattle.rx_world.specs.Valid.{AllValid, AllSpelled, AreDistinct}
use Rattle.rx_world.specs.World.{World, max_collections, max_replications}

-- Collections are lawful, their documents valid, and the texts of their schemas read back. No name
-- of a collection comes twice. Replications are linked, and each of a local master could follow it
-- among those before. What stands for names are names, and not too many.
pub record IsMadeWorld (w : World) : Type 0 where
  pub lawful : IsLawfulWorld w
  pub valid : AllValid w
  pub spelled : AllSpelled w
  pub distinct : AreDistinct w
  pub linked : AreLinked w
  pub forest : IsForest w.replications
  pub collection_names : AreNames max_collections (keys_of w.collections)
  pub replication_names : AreNames max_replications (keys_of w.replications)
