-- What a hook makes of a state.
use Rattle.std.specs.Prelude.{◌≡◌, ◌≢◌, ℕ, ℤ, pos, ◌+ℤ◌, List, true, Option, Some, None, if◌then◌else◌}
use Rattle.rx_value.specs.Fields.{Pairs, AreFields}
use Rattle.rx_value.specs.Named.{named, put_in_order}
use Rattle.rx_value.specs.Value.{is_number}
use Rattle.rx_value.specs.declared.state.State.{State}
use Rattle.rx_value.specs.declared.value.Value.{Value}
use Rattle.rx_value.specs.declared.value.Value.TheVariants.{Flag, Int}
use Rattle.rx_update.specs.Updated.{number_in}
use Rattle.rx_update.specs.declared.kind.HookKind.{HookKind}
use Rattle.rx_update.specs.declared.kind.HookKind.TheVariants.{Count, Zero, Lock}

-- one more, where a field holds it
abbrev pub counted_at : List ℕ → Pairs → Option ℤ → Pairs
counted_at field ps None = ps
counted_at field ps (Some n) =
    if is_number (n +ℤ pos 1) then put_in_order ps field (Int (n +ℤ pos 1)) else ps

-- the field counted one further, a missing one from 0; what is no number stays, and so does the
-- greatest number
abbrev pub counted : List ℕ → Pairs → Pairs
counted field ps = counted_at field ps (number_in (named ps field))

-- 0 where the field is missing
abbrev pub zeroed_at : List ℕ → Pairs → Option Value → Pairs
zeroed_at field ps None = put_in_order ps field (Int (pos 0))
zeroed_at field ps (Some v) = ps

abbrev pub zeroed : List ℕ → Pairs → Pairs
zeroed field ps = zeroed_at field ps (named ps field)

-- nothing, where the field is true
abbrev pub unless_true : Option Value → State → Option State
unless_true (Some (Flag true)) s = None
unless_true _ s = Some s

-- the state after a hook: `count` counts the field, `zero` gives it 0 where it is missing, and
-- `lock` vetoes where it is true
abbrev pub hooked : HookKind → List ℕ → State → Option State
hooked Count field s = Some (record s { fields = counted field s.fields })
hooked Zero field s = Some (record s { fields = zeroed field s.fields })
hooked Lock field s = unless_true (named s.fields field) s

-- ---- what holds of every hook

-- the key and the deletion mark stay
abbrev pub KeepsTheKey : Type 0
KeepsTheKey = (kind : HookKind) (field : List ℕ) (s t : State) → hooked kind field s ≡ Some t
    → t.key ≡ s.key

abbrev pub KeepsTheMark : Type 0
KeepsTheMark = (kind : HookKind) (field : List ℕ) (s t : State) → hooked kind field s ≡ Some t
    → t.deleted ≡ s.deleted

-- so does each other field
abbrev pub KeepsTheOthers : Type 0
KeepsTheOthers = (kind : HookKind) (field name : List ℕ) (s t : State) → name ≢ field
    → hooked kind field s ≡ Some t → named t.fields name ≡ named s.fields name

-- and fields stay fields
abbrev pub HooksToFields : Type 0
HooksToFields = (kind : HookKind) (field : List ℕ) (s t : State) → AreFields s.fields
    → hooked kind field s ≡ Some t → AreFields t.fields
