-- The records of commits.
use Rattle.std.specs.Prelude.{ℕ, List, map}
use Rattle.rx_record.specs.Content.{Content, rows, content_bytes}
use Rattle.rx_world.specs.Commit.{out_of}
use Rattle.rx_serve.specs.Answered.{Commit, Commits}

-- that of a commit to the collection of a name
abbrev pub record_of : List ℕ → Commit → Content
record_of name commit = rows name commit.lwt (map out_of commit.rows)

-- their bodies
abbrev pub body_of : List ℕ → Commit → List ℕ
body_of name commit = content_bytes (record_of name commit)

abbrev pub bodies_of : List ℕ → Commits → List (List ℕ)
bodies_of name commits = map (body_of name) commits
