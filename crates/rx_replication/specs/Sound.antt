-- The four facts that replication keeps.
use Rattle.std.specs.Prelude.{◌≡◌, ℕ, true, List, Option, Some, None}
use Rattle.rx_value.specs.Named.{named}
use Rattle.rx_value.specs.declared.state.State.{State}
use Rattle.rx_document.specs.Documents.{Documents}
use Rattle.rx_document.specs.declared.place.Place.{Place}
use Rattle.rx_document.specs.declared.stored.Stored.{Stored}
use Rattle.rx_collection.specs.Since.{place_of}
use Rattle.rx_replication.specs.Known.{KnownStates}
use Rattle.rx_replication.specs.Write.{is_up_to}

-- each document at or below the checkpoint is known with its state
abbrev pub AreKnownUpTo : Documents → KnownStates → Option Place → Type 0
AreKnownUpTo documents known checkpoint =
    (key : List ℕ) (d : Stored) → named documents key ≡ Some d
    → is_up_to (place_of d) checkpoint ≡ true → named known key ≡ Some d.state

-- each known key is a key of the documents
abbrev pub HoldKnown : Documents → KnownStates → Type 0
HoldKnown documents known =
    (key : List ℕ) (s : State) → named known key ≡ Some s
    → (d : Stored) × (named documents key ≡ Some d)

-- the checkpoint isn't above the last place
abbrev pub Reach : Documents → Option Place → Type 0
Reach documents None = Unit {0}
Reach documents (Some p) =
    (key : List ℕ) × (d : Stored)
    × (named documents key ≡ Some d) × (is_up_to p (Some (place_of d)) ≡ true)

-- a side of a replication: its documents, the known states and its checkpoint
pub record IsSoundSide (documents : Documents) (known : KnownStates) (checkpoint : Option Place)
    : Type 0 where
  pub settled : AreKnownUpTo documents known checkpoint
  pub holds : HoldKnown documents known
  pub reached : Reach documents checkpoint

-- the fork's side speaks of no master, so a replication whose master is elsewhere keeps it alone
abbrev pub IsForkSound : Documents → KnownStates → Option Place → Type 0
IsForkSound fork known up = IsSoundSide fork known up

abbrev pub IsMasterSound : Documents → KnownStates → Option Place → Type 0
IsMasterSound master known down = IsSoundSide master known down

-- both
pub record IsSound (fork master : Documents) (known : KnownStates) (up down : Option Place)
    : Type 0 where
  pub fork_side : IsForkSound fork known up
  pub master_side : IsMasterSound master known down
