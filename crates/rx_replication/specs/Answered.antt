-- When a reply to the open request is answered.
use Rattle.std.specs.Prelude.{◌≡◌, ◌⊎◌, ℕ, true, false, List, Option, Some, None}
use Rattle.rx_value.specs.Named.{named}
use Rattle.rx_value.specs.declared.state.State.{State}
use Rattle.rx_document.specs.Documents.{Documents}
use Rattle.rx_document.specs.declared.place.Place.{Place}
use Rattle.rx_document.specs.declared.stored.Stored.{Stored}
use Rattle.rx_collection.specs.Since.{place_of}
use Rattle.rx_wire.specs.declared.message.AskKind.{AskKind}
use Rattle.rx_wire.specs.declared.message.AskKind.TheVariants.{Push, Pull}
use Rattle.rx_wire.specs.declared.message.Body.{Body}
use Rattle.rx_wire.specs.declared.message.Body.TheVariants.{Conflicts, Docs}
use Rattle.rx_wire.specs.declared.message.PushRow.{PushRow}
use Rattle.rx_replication.specs.Member.{Member}
use Rattle.rx_replication.specs.Sound.{Reach}
use Rattle.rx_replication.specs.Taking.{conflict_at}
use Rattle.rx_replication.specs.Write.{is_up_to}

-- the master holds the key, with that state or at a place above down
abbrev pub IsThere : Documents → Option Place → State → Type 0
IsThere master down s =
    (d : Stored) × (named master s.key ≡ Some d)
    × ((d.state ≡ s) ⊎ (is_up_to (place_of d) down ≡ false))

-- To a push: the master holds each row's key; a row without a conflict has its new state there or a
-- place above down; so has a conflict its state.
pub record IsPushAnswered (master : Documents) (down : Option Place) (rows : List PushRow)
    (cs : List State) : Type 0 where
  pub held : (row : PushRow) → Member row rows
      → (d : Stored) × (named master row.new.key ≡ Some d)
  pub taken : (row : PushRow) → Member row rows → conflict_at row.new.key cs ≡ None
      → IsThere master down row.new
  pub met : (c : State) → Member c cs → IsThere master down c

-- To a pull: the key of each state is held at a place above down; each document above down and up
-- to the new place is among the states; that place isn't above the last one nor below down.
pub record IsPullAnswered (master : Documents) (down : Option Place) (ss : List State)
    (to : Option Place) : Type 0 where
  pub held : (s : State) → Member s ss
      → (d : Stored) × (named master s.key ≡ Some d) × (is_up_to (place_of d) down ≡ false)
  pub whole : (key : List ℕ) (d : Stored) → named master key ≡ Some d
      → is_up_to (place_of d) down ≡ false → is_up_to (place_of d) to ≡ true
      → Member d.state ss
  pub reached : Reach master to
  pub risen : (p : Place) → down ≡ Some p → is_up_to p to ≡ true

-- an answer of the asked kind
abbrev pub IsAnswered : Documents → Option Place → AskKind → Body → Type 0
IsAnswered master down (Push rows) (Conflicts cs) = IsPushAnswered master down rows cs
IsAnswered master down (Pull place batch) (Docs ss to) = IsPullAnswered master down ss to
IsAnswered master down (Push rows) (Docs ss to) = ⊥
IsAnswered master down (Pull place batch) (Conflicts cs) = ⊥
