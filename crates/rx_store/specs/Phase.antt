-- A journal while it is played: its records make a copy until the end of that, and then run.
use Rattle.std.specs.Prelude.{◌≡◌, ℕ, List, [], length, Option, Some}
use Rattle.rx_collection.specs.Held.{Held}
use Rattle.rx_document.specs.declared.stored.Stored.{Stored}
use Rattle.rx_frame.specs.File.{records}
use Rattle.rx_world.specs.Copy.{plain_world, replay_copy}
use Rattle.rx_world.specs.Holders.{holders_in, world_in}
use Rattle.rx_world.specs.Replay.{replay_from}
use Rattle.rx_world.specs.World.{World}
use Rattle.rx_store.specs.Made.{AreMade}
use Rattle.rx_store.specs.Versions.{replay_in}
use Rattle.rx_store.specs.declared.phase.Phase.{Phase}
use Rattle.rx_store.specs.declared.phase.Phase.TheVariants.{Copying, Running}

-- the world that bodies make which are still to come
abbrev pub world_to_come : {H : Type 0} → (H → Held) → Phase H → List (List ℕ) → Option World
world_to_come held (Copying copy) bodies = replay_copy (Some (plain_world copy)) bodies
world_to_come held (Running run) bodies = replay_from (Some (world_in held run)) bodies

-- its epoch so far
abbrev pub epoch_of : {H : Type 0} → Phase H → ℕ
epoch_of (Copying copy) = copy.epoch
epoch_of (Running run) = run.epoch

-- what runs was made of collections, and took the rows of records
abbrev pub IsMadeIn : {H : Type 0} → (Held → H → Type 0) → (H → List Stored → H) → Phase H → Type 0
IsMadeIn Makes written (Copying copy) = Unit {0}
IsMadeIn Makes written (Running run) = AreMade Makes written (holders_in run)

-- nothing runs yet that holds a collection
abbrev pub HasNone : {H : Type 0} → Phase H → Type 0
HasNone (Copying copy) = Unit {0}
HasNone (Running run) = holders_in run ≡ []

-- bodies of a file of that version were played to their end, are so many, and have so many bytes
-- with their gates and lengths
pub record ArePlayed {H : Type 0} (held : H → Held) (version : ℕ) (bodies : List (List ℕ))
    (phase : Phase H) (count size : ℕ) : Type 0 where
  pub plays : replay_in version bodies ≡ world_to_come held phase []
  pub counted : count ≡ length bodies
  pub sized : size ≡ length (records bodies)
