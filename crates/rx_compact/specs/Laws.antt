-- What holds of a copy.
use Rattle.std.specs.Prelude.{◌≡◌, ◌≢◌, ◌≤◌, ℕ, List, [], ◌++◌, map, Some, None, Ok}
use Rattle.std.specs.List.{AllByRecursion}
use Rattle.rx_collection.specs.Held.{Held}
use Rattle.rx_record.specs.Content.{Content, record_of}
use Rattle.rx_store.specs.Versions.{replay_in}
use Rattle.rx_world.specs.Copy.{most_copied_epoch}
use Rattle.rx_world.specs.Made.{IsMadeWorld}
use Rattle.rx_world.specs.Sound.{IsSoundWorld}
use Rattle.rx_world.specs.World.{World}
use Rattle.rx_compact.specs.Plan.{plan}

-- the revision of each document of a collection names it
abbrev pub IsTokened : Held → Type 0
IsTokened c = AllByRecursion (λ e. e.1.rev.token ≡ c.name) c.documents

-- the same in each collection
abbrev pub AreTokened : World → Type 0
AreTokened w = AllByRecursion (λ e. IsTokened e.1) w.collections

-- the revisions of a world that a journal makes name their collections
abbrev pub RevisionsAreTokened : Type 0
RevisionsAreTokened =
    (version : ℕ) (bodies : List (List ℕ)) (w : World) → replay_in version bodies ≡ Some w
    → AreTokened w

-- bodies are those of these records
abbrev pub Say : List (List ℕ) → List Content → Type 0
Say bodies cs = map record_of bodies ≡ map Ok cs

-- a copy makes the world that it is of
abbrev pub CopyMakesWorld : Type 0
CopyMakesWorld =
    (w : World) → IsMadeWorld w → IsSoundWorld w → AreTokened w → w.epoch ≤ most_copied_epoch
    → (bodies : List (List ℕ)) → Say bodies (plan w) → replay_in 2 bodies ≡ Some w

-- and a front of it that isn't all of it makes none
abbrev pub FrontMakesNone : Type 0
FrontMakesNone =
    (w : World) (front rest : List Content) → plan w ≡ front ++ rest → rest ≢ []
    → (bodies : List (List ℕ)) → Say bodies front → replay_in 2 bodies ≡ None
