-- Things by name: lists of pairs of a name, as its bytes, and a thing.
use Rattle.std.specs.Prelude.{ℕ, List, [], ◌∷◌, map, Option, String, string_bytes, if◌then◌else◌}
use Rattle.std.specs.declared.alloc.Global.{Global}
use Rattle.std.specs.BTreeMap.{insert_entry}
use Rattle.std.specs.List.Sorted.{IsStrictlySortedBy}
use Rattle.std.specs.Map.{keys_of, lookup, remove_entry}
use Rattle.std.specs.Str.{bytes_eq}
use Rattle.rx_value.specs.Order.{text_cmp}

-- the entries of a map with text keys, each thing as `shown`
abbrev pub by_name : {H X : Type 0} → (H → X) → List (String Global × H) → List (List ℕ × X)
by_name shown es = map (λ e. (string_bytes e.0, shown e.1)) es

-- the same with each thing as it is
abbrev pub by_bytes : {X : Type 0} → List (String Global × X) → List (List ℕ × X)
by_bytes es = by_name (λ x. x) es

-- the thing of a name
abbrev pub named : {X : Type 0} → List (List ℕ × X) → List ℕ → Option X
named es name = lookup (bytes_eq name) es

-- with a thing for a name: in the name's place, or else at the end
abbrev pub put_named : {X : Type 0} → List (List ℕ × X) → List ℕ → X → List (List ℕ × X)
put_named [] name x = (name, x) ∷ []
put_named (e ∷ es) name x =
    if bytes_eq name e.0 then (e.0, x) ∷ es else e ∷ put_named es name x

-- with the thing of a name changed, if there is one
abbrev pub change_named : {X : Type 0} → List (List ℕ × X) → List ℕ → (X → X) → List (List ℕ × X)
change_named [] name f = []
change_named (e ∷ es) name f =
    if bytes_eq name e.0 then (e.0, f e.1) ∷ es else e ∷ change_named es name f

-- the names rise by their bytes, so none comes twice
abbrev pub AreRising : {X : Type 0} → List (List ℕ × X) → Type 0
AreRising es = IsStrictlySortedBy text_cmp (keys_of es)

-- with a thing for a name among rising names: in the name's place, or else where the name belongs
abbrev pub put_in_order : {X : Type 0} → List (List ℕ × X) → List ℕ → X → List (List ℕ × X)
put_in_order = insert_entry text_cmp

-- without the pair of a name
abbrev pub without : {X : Type 0} → List (List ℕ × X) → List ℕ → List (List ℕ × X)
without es name = remove_entry (bytes_eq name) es
