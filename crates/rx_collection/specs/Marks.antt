-- The keys of documents that aren't deleted, and those of tombstones.
use Rattle.std.specs.Prelude.{◌≡◌, ℕ, Bool, false, List, Option, Some, None, is_some}
use Rattle.rx_value.specs.Named.{named}
use Rattle.rx_document.specs.Documents.{Documents, live}
use Rattle.rx_document.specs.declared.stored.Stored.{Stored}
use Rattle.rx_runs.specs.Marked.{Marked}

-- there is a document, and it is deleted
abbrev pub is_tombstone : Option Stored → Bool
is_tombstone None = false
is_tombstone (Some d) = d.state.deleted

-- the names without the mark are the keys of documents that aren't deleted, and those with it are
-- the keys of tombstones
pub record AreMarked (documents : Documents) (keys : Marked) : Type 0 where
  pub plain : (k : List ℕ) → is_some (named keys.plain k) ≡ is_some (live (named documents k))
  pub marked : (k : List ℕ) → is_some (named keys.marked k) ≡ is_tombstone (named documents k)
