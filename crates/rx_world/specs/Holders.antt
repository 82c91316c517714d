-- A world with the holders of its collections.
use Rattle.std.specs.Prelude.{◌≡◌, ℕ, List, [], ◌∷◌, Bool, true, false, String, string_bytes}
use Rattle.std.specs.declared.alloc.Global.{Global}
use Rattle.std.specs.List.{AllByRecursion}
use Rattle.rx_value.specs.Named.{by_name, by_bytes, put_named, change_named}
use Rattle.rx_document.specs.declared.stored.Stored.{Stored}
use Rattle.rx_collection.specs.Held.{Held, held_with}
use Rattle.rx_collection.specs.Lawful.{IsLawful}
use Rattle.rx_collection.specs.Migrated.{migrated_collection}
use Rattle.rx_migrate.specs.declared.step.Step.{Step}
use Rattle.rx_schema.specs.declared.shape.Shape.{Shape}
use Rattle.rx_world.specs.Made.{IsMadeWorld}
use Rattle.rx_world.specs.Step.{stored_rows}
use Rattle.rx_world.specs.Touch.{Touch, no_collection, new_collection, new_rows, remade}
use Rattle.rx_world.specs.World.{World, Replications}
use Rattle.rx_world.specs.declared.parts.Parts.{Parts}

-- holders and replications by name, in the order of their making, and the last epoch
pub record Holders (H : Type 0) : Type 0 where
  pub entries : List (String Global × H)
  pub replications : Replications
  pub epoch : ℕ

-- those of the parts
abbrev pub holders_of : {H : Type 0} → Parts H → Holders H
holders_of p = record {
  entries = p.holders.entries;
  replications = by_bytes p.replications.entries;
  epoch = p.epoch;
}

-- the world that the holders hold
abbrev pub world_in : {H : Type 0} → (H → Held) → Holders H → World
world_in held h = record {
  collections = by_name held h.entries;
  replications = h.replications;
  epoch = h.epoch;
}

-- the holder isn't broken, and its collection is lawful and has that name
pub record IsWhole {H : Type 0} (held : H → Held) (broken : H → Bool) (name : List ℕ) (h : H)
    : Type 0 where
  pub unbroken : broken h ≡ false
  pub called : (held h).name ≡ name
  pub lawful : IsLawful (held h)

-- each holder is so at its name
abbrev pub AreWhole : {H : Type 0} → (H → Held) → (H → Bool) → List (String Global × H) → Type 0
AreWhole held broken es = AllByRecursion (λ e. IsWhole held broken (string_bytes e.0) e.1) es

-- each holder is so, and the world that they hold is as records make it
pub record AreSound
    {H : Type 0}
    (held : H → Held)
    (broken : H → Bool)
    (h : Holders H) : Type 0 where
  pub whole : AreWhole held broken h.entries
  pub made : IsMadeWorld (world_in held h)

-- the holders by the bytes of their names
abbrev pub holders_in : {H : Type 0} → Holders H → List (List ℕ × H)
holders_in h = by_bytes h.entries

-- a holder of the group was made for its migrated collection, and each other one stays
pub record IsRemade
    {H : Type 0}
    (held : H → Held)
    (IsMadeFor : Held → H → Type 0)
    (in_group : List ℕ → Bool)
    (schema : Shape)
    (steps : List Step)
    (old new : List ℕ × H) : Type 0 where
  pub called : new.0 ≡ old.0
  pub made : in_group old.0 ≡ true → IsMadeFor (migrated_collection schema steps (held old.1)) new.1
  pub stays : in_group old.0 ≡ false → new.1 ≡ old.1

-- the same of holders by name, in their order
abbrev pub AreRemade : {H : Type 0} → (H → Held) → (Held → H → Type 0) → (List ℕ → Bool) → Shape
    → List Step → List (List ℕ × H) → List (List ℕ × H) → Type 0
AreRemade held IsMadeFor in_group schema steps [] [] = Unit {0}
AreRemade held IsMadeFor in_group schema steps (e ∷ es) (f ∷ fs) =
    IsRemade held IsMadeFor in_group schema steps e f
    × AreRemade held IsMadeFor in_group schema steps es fs
AreRemade held IsMadeFor in_group schema steps old new = ⊥

-- What the touch of a record makes of holders by name: all stay, a new one comes that was made for
-- the new collection, the one of the name is what it is after the rows, or those of the group are
-- made anew.
abbrev pub After : {H : Type 0} → (H → Held) → (H → List Stored → H) → (Held → H → Type 0) → Touch
    → List (List ℕ × H) → List (List ℕ × H) → Type 0
After {H} held written IsMadeFor no_collection old new = new ≡ old
After {H} held written IsMadeFor (new_collection name schema) old new =
    (h : H) × IsMadeFor (held_with name schema []) h × (new ≡ put_named old name h)
After {H} held written IsMadeFor (new_rows name lwt rows) old new =
    new ≡ change_named old name (λ h. written h (stored_rows (held h).name lwt rows))
After {H} held written IsMadeFor (remade in_group schema steps) old new =
    AreRemade held IsMadeFor in_group schema steps old new

-- each of the holders was made for some collection
abbrev pub AreMadeFor : {H : Type 0} → (Held → H → Type 0) → List (List ℕ × H) → Type 0
AreMadeFor IsMadeFor hs = AllByRecursion (λ e. (c : Held) × IsMadeFor c e.1) hs
