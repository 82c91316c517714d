-- The record of a commit.
use Rattle.std.specs.Prelude.{ℕ, List, map, Option, option_map, option_and_then}
use Rattle.rx_value.specs.Named.{named}
use Rattle.rx_value.specs.declared.state.State.{State}
use Rattle.rx_document.specs.declared.stored.Stored.{Stored}
use Rattle.rx_collection.specs.Commit.{rows_of}
use Rattle.rx_collection.specs.Held.{Held}
use Rattle.rx_collection.specs.Time.{stamp}
use Rattle.rx_record.specs.Content.{Content, rows}
use Rattle.rx_record.specs.declared.record.RowOut.{RowOut}
use Rattle.rx_world.specs.World.{World}

-- a document as a row of a record
abbrev pub out_of : Stored → RowOut
out_of d = record { height = d.rev.height; state = d.state }

-- the record of states that are written to a collection at a moment, if there is a write time left
abbrev pub commit_to : List ℕ → List State → ℕ → Held → Option Content
commit_to name states now c =
    option_map (λ lwt. rows name lwt (map out_of (rows_of c states lwt))) (stamp c.documents now)

-- the same, to the collection of a name
abbrev pub commit : World → List ℕ → List State → ℕ → Option Content
commit w name states now = option_and_then (commit_to name states now) (named w.collections name)
