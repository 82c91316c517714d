-- Bounds between which a field that is bounded has values of one kind alone.
use Rattle.std.specs.Prelude.{ℕ, Bool, true, false, not, List, [], ◌∷◌, Option, Some, None}
use Rattle.std.specs.Option.{option_or}
use Rattle.rx_value.specs.declared.value.Value.{Value}
use Rattle.rx_value.specs.declared.value.Value.TheVariants.{Flag, Int, Text}
use Rattle.rx_selector.specs.declared.tree.Compare.TheVariants.{Eq}
use Rattle.rx_query.specs.QuerySpec.{QuerySpec}
use Rattle.rx_index.specs.Position.{Position, position_with}
use Rattle.rx_planner.specs.Plan.{Names, operand, strict, loose, end_at, fixed_or, behind}

-- where the values of that value's kind end: flags before numbers, numbers before texts
abbrev pub kind_end : Bool → Value → Position
kind_end up (Flag b) = position_with (Some (Flag up) ∷ []) up
kind_end false (Int n) = position_with (Some (Flag true) ∷ []) true
kind_end true (Int n) = position_with (Some (Text []) ∷ []) false
kind_end false (Text t) = position_with (Some (Text []) ∷ []) false
kind_end true (Text t) = position_with [] true

-- the operand that bounds the field on that side, if there is one
abbrev pub bounding : QuerySpec → Bool → List ℕ → Option Value
bounding q up field = option_or (operand q field (strict up)) (operand q field (loose up))

-- where the other side alone has an operand, the end of its kind
abbrev pub closed_by : Bool → Option Value → Option Value → Position → Position
closed_by up None (Some v) end = kind_end up v
closed_by up None None end = end
closed_by up (Some v) other end = end

-- the bound of a field that isn't fixed
abbrev pub closed_end : QuerySpec → Bool → List ℕ → Position
closed_end q up field =
    closed_by up (bounding q up field) (bounding q (not up) field) (end_at q up field)

-- the values of the first fields that are fixed, and the bound of the next one
abbrev pub closed_at : QuerySpec → Bool → Names → Position
closed_at q up [] = position_with [] up
closed_at q up (f ∷ fs) = fixed_or (operand q f Eq) (closed_at q up fs) (closed_end q up f)

-- among documents that aren't deleted
abbrev pub closed_of : QuerySpec → Bool → Names → Position
closed_of q up path = behind (Some (Flag false)) (closed_at q up path)
