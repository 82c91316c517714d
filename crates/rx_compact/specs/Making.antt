-- A copy, record by record.
use Rattle.std.specs.Prelude.{⊤, ◌≡◌, List, [], ◌∷◌, map, true, None}
use Rattle.rx_collection.specs.Held.{Held, held_with}
use Rattle.rx_meta.specs.Side.{side_with}
use Rattle.rx_record.specs.Content.{Content}
use Rattle.rx_record.specs.declared.record.PartRow.{PartRow}
use Rattle.rx_world.specs.Copy.{copy_step, may_copy, takes_part, with_part}
use Rattle.rx_world.specs.World.{World, Collections, Replications}
use Rattle.rx_world.specs.declared.replication.Replication.{Replication}

-- the world after records of a copy, one after another
abbrev pub copied_world : List Content → World → World
copied_world [] w = w
copied_world (c ∷ cs) w = copied_world cs (copy_step c w)

-- each of them may stand where it comes
abbrev pub MayCopy : List Content → World → Type 0
MayCopy [] w = ⊤
MayCopy (c ∷ cs) w = (may_copy c w ≡ true) × MayCopy cs (copy_step c w)

-- a collection as it is without its documents
abbrev pub emptied : Held → Held
emptied c = held_with c.name c.schema []

-- the same of each collection
abbrev pub all_emptied : Collections → Collections
all_emptied cs = map (λ e. (e.0, emptied e.1)) cs

-- a replication as it is before its fork learnt anything
abbrev pub unlearnt : Replication → Replication
unlearnt r = record r { side = side_with [] None None }

-- the same of each replication
abbrev pub all_unlearnt : Replications → Replications
all_unlearnt rs = map (λ e. (e.0, unlearnt e.1)) rs

-- a world as it is without documents, without what forks know, and before any epoch
abbrev pub bare : World → World
bare w = record {
  collections = all_emptied w.collections;
  replications = all_unlearnt w.replications;
  epoch = 0;
}

-- a collection with parts, one after another
abbrev pub with_parts : List (List PartRow) → Held → Held
with_parts [] c = c
with_parts (p ∷ ps) c = with_parts ps (with_part p c)

-- each of them may come where it comes
abbrev pub TakeParts : List (List PartRow) → Held → Type 0
TakeParts [] c = ⊤
TakeParts (p ∷ ps) c = (takes_part p c ≡ true) × TakeParts ps (with_part p c)
