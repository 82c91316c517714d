-- The version of the format of a file, and the world that the bodies of the file make by it.
use Rattle.std.specs.Prelude.{ℕ, List, length, take, ◌&&◌, ◌==◌, nat_lt, if◌then◌else◌, Option, Some}
use Rattle.std.specs.Str.{bytes_eq}
use Rattle.rx_frame.specs.File.{second_header, shortest}
use Rattle.rx_world.specs.Copy.{replay_copy}
use Rattle.rx_world.specs.Replay.{replay}
use Rattle.rx_world.specs.World.{World, empty}

-- 2 where the file has more than 9 bytes and begins with the second version's header, else 1
unfoldable pub file_version : List ℕ → ℕ
file_version file =
    if nat_lt shortest (length file) && bytes_eq (take 8 file) second_header then 2 else 1

-- in the second version those of a copy, its end, and then those of a run; in the first those of a
-- run alone
abbrev pub replay_in : ℕ → List (List ℕ) → Option World
replay_in version bodies = if version == 2 then replay_copy (Some empty) bodies else replay bodies

-- the world that bodies make in the version of a file
abbrev pub replay_of : List ℕ → List (List ℕ) → Option World
replay_of file bodies = replay_in (file_version file) bodies
