-- The log of writes: the write time of each, and the slot that it wrote. Of those that wrote one
-- slot the last one stands, and the others are stale.
use Rattle.std.specs.Prelude.{◌≡◌, ◌⊎◌, ℕ, ◌≤◌, ◌==◌, Bool, true, List, [], ◌∷◌, ◌++◌, length, Option, Some, None, is_some, slice_get, slice_set, option_to_list, if◌then◌else◌}
use Rattle.std.specs.List.{AllByRecursion}
use Rattle.std.specs.List.Sorted.{IsStrictlySortedBy}
use Rattle.std.specs.Ordering.{is_le}
use Rattle.rx_value.specs.Named.{named, put_in_order}
use Rattle.rx_document.specs.Place.{place_cmp}
use Rattle.rx_document.specs.declared.place.Place.{Place}
use Rattle.rx_document.specs.declared.stored.Stored.{Stored}
use Rattle.rx_schema.specs.declared.shape.Shape.{Shape}
use Rattle.rx_runs.specs.Rows.{shown, AreSlots}
use Rattle.rx_collection.specs.Held.{held_with}
use Rattle.rx_collection.specs.Lawful.{IsLawful}

-- the place of a write, if there is a document in its slot
abbrev pub with_place : ℕ → Option Stored → List Place → List Place
with_place lwt None ps = ps
with_place lwt (Some d) ps = record { lwt = lwt; id = d.state.key } ∷ ps

-- the places of writes, stale ones too
abbrev pub places : List Stored → List (ℕ × ℕ) → List Place
places rows [] = []
places rows (l ∷ ls) = with_place l.0 (slice_get rows l.1) (places rows ls)

-- the document of a write that stands
abbrev pub standing_at : ℕ → Option Stored → Option Stored
standing_at lwt None = None
standing_at lwt (Some d) = if d.lwt == lwt then Some d else None

-- the documents of the writes that stand
abbrev pub written : List Stored → List (ℕ × ℕ) → List Stored
written rows [] = []
written rows (l ∷ ls) = option_to_list (standing_at l.0 (slice_get rows l.1)) ++ written rows ls

-- whether it stands
abbrev pub is_standing : List Stored → ℕ × ℕ → Bool
is_standing rows l = is_some (standing_at l.0 (slice_get rows l.1))

-- the place of a write is at most that one
abbrev pub is_up_to : Place → ℕ → Option Stored → Bool
is_up_to q lwt None = true
is_up_to q lwt (Some d) = is_le (place_cmp (record { lwt = lwt; id = d.state.key }) q)

-- there is a document in the slot, and it was written no earlier
pub record IsWrite (rows : List Stored) (l : ℕ × ℕ) : Type 0 where
  pub row : Stored
  pub there : slice_get rows l.1 ≡ Some row
  pub no_later : l.0 ≤ row.lwt

-- that write is one of them
abbrev pub IsLogged : ℕ → ℕ → List (ℕ × ℕ) → Type 0
IsLogged lwt slot [] = ⊥
IsLogged lwt slot (l ∷ ls) = ((l.0 ≡ lwt) × (l.1 ≡ slot)) ⊎ IsLogged lwt slot ls

-- the document in that slot has that key
pub record HasKey (rows : List Stored) (s : ℕ) (key : List ℕ) : Type 0 where
  pub row : Stored
  pub there : slice_get rows s ≡ Some row
  pub keyed : row.state.key ≡ key

-- each document's slot is that of its key
abbrev pub AreKeyed : List Stored → List (List ℕ × ℕ) → Type 0
AreKeyed rows names =
    (s : ℕ) (d : Stored) → slice_get rows s ≡ Some d → named names d.state.key ≡ Some s

-- each document's slot is that of its key, and its last write is one of them; they are in order
pub record IsLog (rows : List Stored) (names : List (List ℕ × ℕ))
    (log : List (ℕ × ℕ)) : Type 0 where
  pub keyed : AreKeyed rows names
  pub each : AllByRecursion (IsWrite rows) log
  pub complete : (s : ℕ) (d : Stored) → slice_get rows s ≡ Some d → IsLogged d.lwt s log
  pub rising : IsStrictlySortedBy place_cmp (places rows log)

-- what holds of what a collection keeps
pub record IsWhole (name : List ℕ) (schema : Shape) (rows : List Stored) (names : List (List ℕ × ℕ))
    (log : List (ℕ × ℕ)) : Type 0 where
  pub lawful : IsLawful (held_with name schema (shown rows names))
  pub slots : AreSlots rows names
  pub many : length rows ≡ length names
  pub logged : IsLog rows names log

-- the row is in that slot: in the place of the one of its key, or in a new one of its key
abbrev pub IsWritten : List Stored → List (List ℕ × ℕ) → Stored → List Stored → List (List ℕ × ℕ)
    → ℕ → Type 0
IsWritten rows names row rows' names' s =
    ((named names row.state.key ≡ Some s) × (rows' ≡ slice_set rows s row) × (names' ≡ names))
    ⊎ ((named names row.state.key ≡ None) × (s ≡ length rows) × (rows' ≡ rows ++ row ∷ [])
    × (names' ≡ put_in_order names row.state.key s))
