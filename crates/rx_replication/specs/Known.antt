-- What a fork knows of its master, and what it has to push.
use Rattle.std.specs.Prelude.{◌≡◌, ℕ, Bool, true, false, not, List, [], ◌∷◌, Option, Some, None}
use Rattle.std.specs.List.{filter}
use Rattle.std.specs.Map.{values_of}
use Rattle.rx_value.specs.Equal.{state_eq}
use Rattle.rx_value.specs.Named.{named, put_in_order}
use Rattle.rx_value.specs.declared.state.State.{State}
use Rattle.rx_document.specs.Documents.{Documents}
use Rattle.rx_document.specs.declared.place.Place.{Place}
use Rattle.rx_document.specs.declared.stored.Stored.{Stored}
use Rattle.rx_collection.specs.Since.{place_of, by_place}
use Rattle.rx_replication.specs.Write.{is_up_to}

-- the master's states that the fork learnt last, by rising key
abbrev pub KnownStates : Type 0
KnownStates = List (List ℕ × State)

-- with states learnt, one after another
abbrev pub with_learnt : KnownStates → List State → KnownStates
with_learnt known [] = known
with_learnt known (s ∷ ss) = with_learnt (put_in_order known s.key s) ss

-- there is a state, and it is that one
abbrev pub is_state : Option State → State → Bool
is_state None s = false
is_state (Some t) s = state_eq t s

-- its state isn't known, or another one is
abbrev pub is_pending : KnownStates → Stored → Bool
is_pending known d = not (is_state (named known d.state.key) d.state)

-- the pending documents, by rising place
abbrev pub pending : Documents → KnownStates → List Stored
pending documents known = filter (is_pending known) (values_of (by_place documents))

-- no document at or below the checkpoint is pending
abbrev pub NonePendingBelow : Documents → KnownStates → Option Place → Type 0
NonePendingBelow documents known up =
    (key : List ℕ) (d : Stored) → named documents key ≡ Some d → is_up_to (place_of d) up ≡ true
    → is_pending known d ≡ false
