-- The index by the primary key alone, whose keys a collection has in a run with marks.
use Rattle.std.specs.Prelude.{◌≡◌, ℕ, Bool, true, false, List, [], ◌∷◌, ◌++◌, map, Option, Some, None, if◌then◌else◌}
use Rattle.std.specs.Ordering.{is_le, match_ordering}
use Rattle.std.specs.Str.{is_utf8}
use Rattle.rx_runs.specs.Marked.{Marked}
use Rattle.rx_runs.specs.Run.{from_name, between}
use Rattle.rx_value.specs.Order.{order_of, text_cmp}
use Rattle.rx_value.specs.declared.value.Value.{Value}
use Rattle.rx_value.specs.declared.value.Value.TheVariants.{Flag, Text}
use Rattle.rx_index.specs.Index.{Indexed, indexed_by}
use Rattle.rx_index.specs.Packed.{IsKey, unpacked}
use Rattle.rx_index.specs.Position.{Position, position_with, id_of}
use Rattle.rx_index.specs.declared.view.Keys.{Keys}
use Rattle.rx_index.specs.declared.view.Keys.TheVariants.{ByKey, Kept}

-- the key of a document by its deletion mark and its primary key
abbrev pub mark_key : Bool → List ℕ → Position
mark_key deleted id = position_with (Some (Flag deleted) ∷ Some (Text id) ∷ []) false

-- the keys of names
abbrev pub mark_keys : Bool → List (List ℕ × ℕ) → List Position
mark_keys deleted es = map (λ e. mark_key deleted e.0) es

-- the index: the keys of documents that aren't deleted, and behind them those of tombstones
abbrev pub by_key : Marked → Indexed
by_key m = indexed_by [] (mark_keys false m.plain ++ mark_keys true m.marked)

-- an index as it is lent
abbrev pub lent : Keys → Indexed
lent (ByKey m) = by_key m.now
lent (Kept i) = i.now

-- ---- where a position stands among primary keys

-- from which text on primary keys come behind these values, if any do
abbrev pub behind_values : List (Option Value) → Bool → Option (List ℕ)
behind_values [] after = if after then None else Some []
behind_values (Some (Text t) ∷ []) after = Some (if after then t ++ 0 ∷ [] else t)
behind_values (Some (Text t) ∷ x ∷ xs) after = Some (t ++ 0 ∷ [])
behind_values (x ∷ xs) after = Some []

-- the same of a position, among the keys of documents with that mark
abbrev pub start_by : Bool → List (Option Value) → Bool → Option (List ℕ)
start_by deleted [] after = if after then None else Some []
start_by deleted (x ∷ xs) after =
    match_ordering (order_of x (Some (Flag deleted))) (Some []) (behind_values xs after) None

abbrev pub start_of : Bool → Position → Option (List ℕ)
start_of deleted p = start_by deleted p.values p.after

-- a primary key stands there or behind it
abbrev pub is_from : Option (List ℕ) → List ℕ → Bool
is_from None id = false
is_from (Some low) id = is_le (text_cmp low id)

-- the names from one start on and before another
abbrev pub names_between : List (List ℕ × ℕ) → Option (List ℕ) → Option (List ℕ)
    → List (List ℕ × ℕ)
names_between es None high = []
names_between es (Some low) None = from_name es low
names_between es (Some low) (Some high) = between es low high

-- ---- names of both kinds

-- the primary key in a name: the name itself, or what its bytes hold
abbrev pub id_in : Bool → List ℕ → List ℕ
id_in packed name = if packed then id_of (unpacked name) else name

-- it is a key, or a text
abbrev pub IsNameOf : Bool → List ℕ → Type 0
IsNameOf true name = IsKey name
IsNameOf false name = is_utf8 name ≡ true
