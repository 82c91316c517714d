-- Hooks that stand before the local writes of collections.
use Rattle.std.specs.Prelude.{◌≡◌, ◌&&◌, ℕ, List, [], ◌∷◌, Bool, true, false, if◌then◌else◌}
use Rattle.std.specs.Prelude.{Some, Result, Ok}
use Rattle.std.specs.Str.{bytes_eq}
use Rattle.rx_value.specs.Due.{◌>>◌, or_fault}
use Rattle.rx_value.specs.Named.{named}
use Rattle.rx_value.specs.declared.state.State.{State}
use Rattle.rx_value.specs.declared.value.Value.TheVariants.{Text}
use Rattle.rx_update.specs.Hooked.{hooked}
use Rattle.rx_update.specs.Hooks.{HookKinds}
use Rattle.rx_update.specs.declared.attached.Attached.{Attached}
use Rattle.rx_update.specs.declared.attached.When.{When}
use Rattle.rx_update.specs.declared.attached.When.TheVariants.{Insert, Save, Remove}
use Rattle.rx_update.specs.declared.fault.VetoFault.{VetoFault}
use Rattle.rx_update.specs.declared.fault.VetoFault.TheVariants.{Vetoed}

-- these are the same writes
abbrev pub is_when : When → When → Bool
is_when Insert Insert = true
is_when Save Save = true
is_when Remove Remove = true
is_when _ _ = false

-- a hook stands before such a write of a collection
abbrev pub stands : List ℕ → When → Attached → Bool
stands coll when a = bytes_eq coll a.coll && is_when when a.when

-- what an attached one makes of a state
abbrev pub hooked_by : Attached → State → Result State VetoFault
hooked_by a s = or_fault (Vetoed a.hook) (hooked a.kind a.field s)

abbrev pub hooked_where : List ℕ → When → Attached → State → Result State VetoFault
hooked_where coll when a s = if stands coll when a then hooked_by a s else Ok s

-- each that stands there runs on the answer of those before
abbrev pub hooked_all : List ℕ → When → List Attached → State → Result State VetoFault
hooked_all coll when [] s = Ok s
hooked_all coll when (a ∷ more) s =
    hooked_where coll when a s >> hooked_all coll when more

-- the hooks that a run knows, by name, and those that stand before its writes, in the order of
-- attaching
pub record Hooking : Type 0 where
  pub known : HookKinds
  pub attached : List Attached

-- ---- what holds of all of them together

-- the key and the mark stay
abbrev pub KeepsWhich : Type 0
KeepsWhich = (coll : List ℕ) (when : When) (attached : List Attached) (s t : State)
    → hooked_all coll when attached s ≡ Ok t → (t.key ≡ s.key) × (t.deleted ≡ s.deleted)

-- and so does each field that is a text
abbrev pub KeepsTexts : Type 0
KeepsTexts = (coll : List ℕ) (when : When) (attached : List Attached) (s t : State)
    (name text : List ℕ) → named s.fields name ≡ Some (Text text)
    → hooked_all coll when attached s ≡ Ok t → named t.fields name ≡ Some (Text text)
