-- A list of JSON values beside the items that it stands for.
use Rattle.std.proofs.Common.{◌≡◌, ap, sym, List, [], ◌∷◌, map, Vec, Global, refl}
use Rattle.std.proofs.lemmas.List.Folds.{list_all-map}
use Rattle.std.specs.List.{list_all}
use Rattle.serde_json.proofs.Views.{view-Array}
use Rattle.serde_json.specs.View.{view, items_view}
use Rattle.serde_json.specs.declared.value.Value.{Value, Array}
use Rattle.rx_script.specs.Member.{is_object, listed, items_of}

listed-items_view : (vs : List Value) → listed (items_view vs) ≡ map view vs
listed-items_view [] = refl
listed-items_view (v ∷ vs) = ap (λ ds. view v ∷ ds) (listed-items_view vs)

pub items_of_array : (v : Vec Value Global) → items_of (view (Array v)) ≡ map view v.items
items_of_array v = rw (view-Array v) (listed-items_view v.items)

-- each item is an object where each value is one
pub each_object : (vs : List Value)
    → list_all (λ v. is_object (view v)) vs ≡ list_all is_object (listed (items_view vs))
each_object vs = rw (listed-items_view vs) (sym (list_all-map is_object view vs))
