-- How a change reaches observed queries that were right before it.
use Rattle.std.specs.Prelude.{◌≡◌, List}
use Rattle.rx_document.specs.Change.{change_of, DifferAt}
use Rattle.rx_document.specs.declared.change.Change.{Change}
use Rattle.rx_collection.specs.Held.{Held}
use Rattle.rx_collection.specs.Lawful.{IsLawful}
use Rattle.rx_observe.specs.Front.{IsFront, AreFronts}
use Rattle.rx_observe.specs.Observing.{Queries, AllRight}
use Rattle.rx_observe.specs.Watched.{Watched, IsRight}
use Rattle.rx_observe.specs.declared.front.Front.{Front}

-- the change is what made one collection of the other
pub record Becomes (c : Change) (old new : Held) : Type 0 where
  pub differ : DifferAt c.id old.documents new.documents
  pub change : c ≡ change_of c.id old.documents new.documents
  pub schema : new.schema ≡ old.schema
  pub lawful_old : IsLawful old
  pub lawful_new : IsLawful new

-- the query and its front were right before the change that made this collection
pub record Follows (c : Change) (w : Watched) (f : Front) (new : Held) : Type 0 where
  pub old : Held
  pub becomes : Becomes c old new
  pub right : IsRight old w
  pub front : IsFront w.query old.documents f

-- each was
pub record AllFollow (c : Change) (qs : Queries) (fs : List Front) (new : Held) : Type 0 where
  pub old : Held
  pub becomes : Becomes c old new
  pub right : AllRight old qs
  pub fronts : AreFronts old qs fs
