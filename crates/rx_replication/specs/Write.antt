-- What a fork or a master writes, and where its documents stand.
use Rattle.std.specs.Prelude.{◌≡◌, ℕ, Bool, not, List, [], ◌∷◌, Option, Some, option_map}
use Rattle.std.specs.List.{AllByRecursion}
use Rattle.rx_value.specs.Named.{named, AreRising}
use Rattle.rx_value.specs.declared.state.State.{State}
use Rattle.rx_document.specs.Documents.{Documents}
use Rattle.rx_document.specs.declared.place.Place.{Place}
use Rattle.rx_collection.specs.Commit.{rows_of, with_rows}
use Rattle.rx_collection.specs.Held.{Held}
use Rattle.rx_collection.specs.Since.{is_above}
use Rattle.rx_collection.specs.Time.{stamp}

-- one commit of the states, or the same collection where there is no state; none where no write
-- time is left
abbrev pub write : Held → List State → ℕ → Option Held
write c [] now = Some c
write c (s ∷ ss) now =
    option_map (λ lwt. with_rows c (rows_of c (s ∷ ss) lwt)) (stamp c.documents now)

-- the state of a key
abbrev pub state_at : Documents → List ℕ → Option State
state_at documents key = option_map (λ d. d.state) (named documents key)

-- at or below the checkpoint; none lies below every place
abbrev pub is_up_to : Place → Option Place → Bool
is_up_to p checkpoint = not (is_above checkpoint p)

-- the keys rise, and each document has its key
pub record AreByKey (documents : Documents) : Type 0 where
  pub rising : AreRising documents
  pub keyed : AllByRecursion (λ e. e.1.state.key ≡ e.0) documents
