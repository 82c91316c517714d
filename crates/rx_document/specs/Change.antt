-- The change of one document.
use Rattle.std.specs.Prelude.{◌≡◌, ◌≢◌, ℕ, List, Option, Some, None}
use Rattle.rx_value.specs.Fields.{Pairs}
use Rattle.rx_value.specs.Named.{named}
use Rattle.rx_document.specs.Documents.{Documents, live}
use Rattle.rx_document.specs.declared.change.Before.{Before}
use Rattle.rx_document.specs.declared.change.Before.TheVariants.{Absent, Live}
use Rattle.rx_document.specs.declared.change.Change.{Change}

-- what was before, by its fields if it was live
abbrev pub before_of : Option Pairs → Before
before_of None = Absent
before_of (Some fields) = Live fields

-- what becomes of a key where the old documents become the new ones
abbrev pub change_of : List ℕ → Documents → Documents → Change
change_of id old new =
    record { id = id; before = before_of (live (named old id)); after = live (named new id) }

-- the documents differ at that key alone
abbrev pub DifferAt : List ℕ → Documents → Documents → Type 0
DifferAt id old new = (key : List ℕ) → key ≢ id → named new key ≡ named old key
