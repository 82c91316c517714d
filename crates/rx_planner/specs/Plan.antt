-- By which index a full run goes, and between which bounds.
use Rattle.std.specs.Prelude.{◌≡◌, ℕ, suc, ◌+◌, ◌*◌, ◌<◌, ◌≤◌, Bool, true, false, not, ◌&&◌, ◌||◌, List, [], ◌∷◌, ◌++◌, map, drop, length, slice_get, slice_index_or, Option, Some, None, is_some, if◌then◌else◌}
use Rattle.std.specs.Cmp.Lexicographic.{pointwise}
use Rattle.std.specs.List.{list_all}
use Rattle.std.specs.Str.{bytes_eq}
use Rattle.rx_value.specs.Named.{named}
use Rattle.rx_value.specs.declared.value.Value.{Value}
use Rattle.rx_value.specs.declared.value.Value.TheVariants.{Flag}
use Rattle.rx_selector.specs.Operand.{operand_in}
use Rattle.rx_selector.specs.declared.tree.Compare.{Compare}
use Rattle.rx_selector.specs.declared.tree.Compare.TheVariants.{Eq, Gt, Gte, Lt, Lte}
use Rattle.rx_query.specs.QuerySpec.{QuerySpec}
use Rattle.rx_query.specs.Lists.{some_passes}
use Rattle.rx_index.specs.Position.{Position, position_with}
use Rattle.rx_planner.specs.declared.planned.Plan.{Plan}

-- names of fields
abbrev pub Names : Type 0
Names = List (List ℕ)

-- what an index orders by: its fields, and then the primary key
abbrev pub path_of : QuerySpec → Names → Names
path_of q fields = fields ++ q.primary ∷ []

-- the operand of that operator in the field's direct member of the selector
abbrev pub operand : QuerySpec → List ℕ → Compare → Option Value
operand q field which = operand_in field which q.clauses

-- the selector asks for one value of the field
abbrev pub is_fixed : QuerySpec → List ℕ → Bool
is_fixed q field = is_some (operand q field Eq)

-- how many first fields are fixed
abbrev pub leading : QuerySpec → Names → ℕ
leading q [] = 0
leading q (f ∷ fs) = if is_fixed q f then suc (leading q fs) else 0

-- the fields after these
abbrev pub rest_of : QuerySpec → Names → Names
rest_of q path = drop (leading q path) path

-- the selector bounds the field
abbrev pub is_bounded : QuerySpec → List ℕ → Bool
is_bounded q field =
    is_some (operand q field Gt) || is_some (operand q field Gte)
    || is_some (operand q field Lt) || is_some (operand q field Lte)

-- 2 for each of the first fields that are fixed, and 1 where the next one is bounded
abbrev pub score : QuerySpec → Names → ℕ
score q path =
    2 * leading q path
    + (if some_passes (is_bounded q) (slice_get path (leading q path)) then 1 else 0)

-- ---- bounds, of which the high one is `up`

-- the operator that leaves its operand out, and the one that takes it in
abbrev pub strict : Bool → Compare
strict false = Gt
strict true = Lt

abbrev pub loose : Bool → Compare
loose false = Gte
loose true = Lte

-- by these operands, if there are any
abbrev pub end_by : Bool → Option Value → Option Value → Position
end_by up (Some v) o = position_with (Some v ∷ []) (not up)
end_by up None (Some v) = position_with (Some v ∷ []) up
end_by up None None = position_with [] up

-- the bound of a field that isn't fixed
abbrev pub end_at : QuerySpec → Bool → List ℕ → Position
end_at q up field = end_by up (operand q field (strict up)) (operand q field (loose up))

-- with a value in front
abbrev pub behind : Option Value → Position → Position
behind v p = position_with (v ∷ p.values) p.after

-- that value and then those, or else the end
abbrev pub fixed_or : Option Value → Position → Position → Position
fixed_or (Some v) p end = behind (Some v) p
fixed_or None p end = end

-- the values of the first fields that are fixed, and the bound of the next one
abbrev pub bound_at : QuerySpec → Bool → Names → Position
bound_at q up [] = position_with [] up
bound_at q up (f ∷ fs) = fixed_or (operand q f Eq) (bound_at q up fs) (end_at q up f)

-- among documents that aren't deleted
abbrev pub bound_of : QuerySpec → Bool → Names → Position
bound_of q up path = behind (Some (Flag false)) (bound_at q up path)

-- ---- order

-- what the query orders by: the fields of its sort, and the primary key where they lack it
abbrev pub sort_path : QuerySpec → Names
sort_path q =
    map (λ s. s.0) q.sorts
    ++ (if is_some (named q.sorts q.primary) then [] else q.primary ∷ [])

-- a field of the sort that isn't reversed, and isn't fixed
abbrev pub rises_freely : QuerySpec → (List ℕ × Bool) → Bool
rises_freely q s = not s.1 && not (is_fixed q s.0)

-- an index of this path has the rows in the query's order
abbrev pub is_ordered : QuerySpec → Names → Bool
is_ordered q path =
    list_all (rises_freely q) q.sorts && pointwise bytes_eq (sort_path q) (rest_of q path)

-- ---- plans

-- what the k-th index orders by
abbrev pub path_at : QuerySpec → List Names → ℕ → Names
path_at q indexes k = path_of q (slice_index_or indexes k [])

-- the index with the greatest score, the first of those, with its bounds
pub record IsPlan (q : QuerySpec) (indexes : List Names) (plan : Plan) : Type 0 where
  pub within : plan.index < length indexes
  pub greatest : (k : ℕ) → k < length indexes
      → score q (path_at q indexes k) ≤ score q (path_at q indexes plan.index)
  pub first : (k : ℕ) → k < plan.index
      → score q (path_at q indexes k) < score q (path_at q indexes plan.index)
  pub low : plan.low ≡ bound_of q false (path_at q indexes plan.index)
  pub high : plan.high ≡ bound_of q true (path_at q indexes plan.index)
  pub ordered : plan.ordered ≡ is_ordered q (path_at q indexes plan.index)
