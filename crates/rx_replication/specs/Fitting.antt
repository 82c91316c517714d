-- When a reply is none that a fork refuses.
use Rattle.std.specs.Prelude.{◌≡◌, ℕ, ◌≤◌, false, List, [], ◌∷◌, length, Option, Some}
use Rattle.rx_value.specs.declared.state.State.{State}
use Rattle.rx_document.specs.declared.place.Place.{Place}
use Rattle.rx_wire.specs.declared.message.AskKind.{AskKind}
use Rattle.rx_wire.specs.declared.message.AskKind.TheVariants.{Push, Pull}
use Rattle.rx_wire.specs.declared.message.Body.{Body}
use Rattle.rx_wire.specs.declared.message.Body.TheVariants.{Conflicts, Docs}
use Rattle.rx_wire.specs.declared.message.PushRow.{PushRow}
use Rattle.rx_replication.specs.Member.{Member}
use Rattle.rx_replication.specs.Write.{is_up_to}

-- the key of the last state, of which there is one at least
abbrev pub last_key : State → List State → List ℕ
last_key s [] = s.key
last_key s (t ∷ ss) = last_key t ss

-- the place is above the asked one and has the key of the last state, or is the asked one where
-- there is no state
abbrev pub PlaceFits : Option Place → List State → Option Place → Type 0
PlaceFits asked [] to = to ≡ asked
PlaceFits asked (s ∷ ss) to =
    (p : Place) × (to ≡ Some p) × (is_up_to p asked ≡ false) × (p.id ≡ last_key s ss)

-- it is of the asked kind; each conflict has the key of a row; there are no more states than the
-- batch, and the place fits
abbrev pub IsFitting : AskKind → Body → Type 0
IsFitting (Push rows) (Conflicts cs) =
    (c : State) → Member c cs → (row : PushRow) × Member row rows × (c.key ≡ row.new.key)
IsFitting (Pull place batch) (Docs ss to) = (length ss ≤ batch) × PlaceFits place ss to
IsFitting (Push rows) (Docs ss to) = ⊥
IsFitting (Pull place batch) (Conflicts cs) = ⊥
