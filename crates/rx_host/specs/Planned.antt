-- What is planned for a request.
use Rattle.std.specs.Prelude.{◌≡◌, [], ◌∷◌, map, Option, Some, None}
use Rattle.rx_collection.specs.Held.{Held}
use Rattle.rx_record.specs.Content.{Content}
use Rattle.rx_serve.specs.Answered.{Commit, Commits}
use Rattle.rx_world.specs.Commit.{out_of}
use Rattle.rx_world.specs.Step.{written_to}
use Rattle.rx_host.specs.Records.{record_of}

-- The record of these commits, if there is one, and what it makes of the collection.
abbrev pub Writes : Held → Commits → Option Held → Option Content → Type 0
Writes c commits after None = (commits ≡ []) × (after ≡ Some c)
Writes c commits after (Some r) =
    (commit : Commit) × (r ≡ record_of c.name commit) × (commits ≡ commit ∷ [])
    × (after ≡ Some (written_to commit.lwt (map out_of commit.rows) c))
