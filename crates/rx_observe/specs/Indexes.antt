-- The indexes of a collection.
use Rattle.std.specs.Prelude.{◌≡◌, ℕ, List, map}
use Rattle.std.specs.List.{AllByRecursion}
use Rattle.rx_collection.specs.Held.{Held}
use Rattle.rx_collection.specs.Lawful.{IsLawful}
use Rattle.rx_index.specs.Index.{Indexed, Holds}

-- the index has these fields, and holds exactly the collection's documents
pub record IsIndexOf (c : Held) (fields : List (List ℕ)) (i : Indexed) : Type 0 where
  pub fields_are : i.fields ≡ fields
  pub held : Holds i c.documents

-- they have the fields of the schema's indexes, and each holds exactly the documents of a lawful
-- collection
pub record AreIndexesOf (c : Held) (indexes : List Indexed) : Type 0 where
  pub lawful : IsLawful c
  pub fields : map (λ i. i.fields) indexes ≡ c.schema.indexes
  pub held : AllByRecursion (λ i. Holds i c.documents) indexes
