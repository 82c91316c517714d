-- What holds of each holder after a record.
use Rattle.std.proofs.Common.{◌≡◌, ℕ, Bool, true, false, List, [], ◌∷◌, Option, Some, None, refl, sym, subst}
use Rattle.std.specs.List.{AllByRecursion}
use Rattle.std.specs.Option.{option_map_or}
use Rattle.rx_value.specs.Named.{change_named}
use Rattle.rx_document.specs.declared.stored.Stored.{Stored}
use Rattle.rx_schema.specs.declared.shape.Shape.{Shape}
use Rattle.rx_migrate.specs.declared.step.Step.{Step}
use Rattle.rx_collection.specs.Held.{Held, held_with}
use Rattle.rx_collection.specs.Migrated.{migrated_collection}
use Rattle.rx_record.specs.Content.{Content, rows}
use Rattle.rx_record.specs.declared.record.RowOut.{RowOut}
use Rattle.rx_world.specs.Holders.{After, AreRemade}
use Rattle.rx_world.specs.Step.{stored_rows}
use Rattle.rx_world.specs.Touch.{Touch, no_collection, new_collection, new_rows, remade, fork_rows, touch}
use Rattle.rx_world.specs.World.{World}
use Rattle.rx_world.specs.declared.replication.Replication.{Replication}
use Rattle.rx_world.proofs.Looked.{all_put_named, all_change_named}

-- what holds of each holder that is made holds of all that are made anew, where it held of all
remade_all : {H : Type 0} (P : H → Type 0) (held : H → Held) (IsMadeFor : Held → H → Type 0)
    → ((c : Held) (h : H) → IsMadeFor c h → P h)
    → (G : List ℕ → Bool) (s : Shape) (steps : List Step)
    (old new : List (List ℕ × H)) → AreRemade held IsMadeFor G s steps old new
    → AllByRecursion (λ e. P e.1) old → AllByRecursion (λ e. P e.1) new
remade_all P held IsMadeFor made G s steps [] [] after all = tt
remade_all P held IsMadeFor made G s steps (e ∷ es) (f ∷ fs) after all = (
  (elim (G e.0) as (λ b. G e.0 ≡ b → P f.1) [
    | true ↦ (λ is. made (migrated_collection s steps (held e.1)) f.1 (after.0.made is))
    | false ↦ (λ is. subst P (sym (after.0.stays is)) all.0)
  ]) refl,
  remade_all P held IsMadeFor made G s steps es fs after.1 all.1,
)
remade_all P held IsMadeFor made G s steps [] (f ∷ fs) after all = absurd after
remade_all P held IsMadeFor made G s steps (e ∷ es) [] after all = absurd after

-- what holds of each holder that is made, and is kept by rows, holds of all where it held of all
pub after_all : {H : Type 0} (P : H → Type 0) (held : H → Held) (written : H → List Stored → H)
    (IsMadeFor : Held → H → Type 0) → ((c : Held) (h : H) → IsMadeFor c h → P h)
    → ((h : H) (rows : List Stored) → P h → P (written h rows))
    → (t : Touch) (old new : List (List ℕ × H)) → After held written IsMadeFor t old new
    → AllByRecursion (λ e. P e.1) old → AllByRecursion (λ e. P e.1) new
after_all P held written IsMadeFor made kept no_collection old new after all =
    subst (AllByRecursion (λ e. P e.1)) (sym after) all
after_all P held written IsMadeFor made kept (new_collection name schema) old new after all =
    subst (AllByRecursion (λ e. P e.1)) (sym after.2)
    (all_put_named (λ n h. P h) old name after.0
    (made (held_with name schema []) after.0 after.1) all)
after_all P held written IsMadeFor made kept (new_rows name lwt rs) old new after all =
    subst (AllByRecursion (λ e. P e.1)) (sym after)
    (all_change_named (λ n h. P h) old name
    (λ h. written h (stored_rows (held h).name lwt rs))
    (λ h at here. kept h (stored_rows (held h).name lwt rs) here) all)
after_all P held written IsMadeFor made kept (remade in_group schema steps) old new after all =
    remade_all P held IsMadeFor made in_group schema steps old new after all

-- rows are put into the holder of their name
pub rows_after : {H : Type 0} (held : H → Held) (written : H → List Stored → H)
    (IsMadeFor : Held → H → Type 0) (entry : Content) (w : World) (name : List ℕ) (lwt : ℕ)
    (rs : List RowOut) (old new : List (List ℕ × H)) → entry ≡ rows name lwt rs
    → new ≡ change_named old name (λ h. written h (stored_rows (held h).name lwt rs))
    → After held written IsMadeFor (touch entry w) old new
rows_after held written IsMadeFor entry w name lwt rs old new is now =
    subst (λ e. After held written IsMadeFor (touch e w) old new) (sym is) now

-- the rows of an exchange make no holder
none_made : {H : Type 0} (held : H → Held) (written : H → List Stored → H)
    (IsMadeFor : Held → H → Type 0) (lwt : ℕ) (rs : List RowOut) (o : Option Replication)
    (old new : List (List ℕ × H))
    → After held written (λ c h. Unit {0})
    (option_map_or (fork_rows lwt rs) o no_collection) old new
    → After held written IsMadeFor (option_map_or (fork_rows lwt rs) o no_collection) old new
none_made held written IsMadeFor lwt rs None old new after = after
none_made held written IsMadeFor lwt [] (Some r) old new after = after
none_made held written IsMadeFor lwt (row ∷ rs) (Some r) old new after = after
