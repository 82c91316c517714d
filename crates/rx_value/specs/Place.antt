-- Where a name stands among pairs of rising names, or belongs.
use Rattle.std.specs.Prelude.{◌≡◌, ℕ, ◌<◌, ◌≤◌, List, length, Some, None, slice_index_or, slice_set}
use Rattle.std.specs.List.{insert}
use Rattle.rx_value.specs.Named.{named, put_in_order}

-- the name stands at i: it is the one there, it names the thing there, and to put a thing is to
-- write over that one
pub record StandsAt {X : Type 0} (es : List (List ℕ × X)) (name : List ℕ) (i : ℕ) : Type 0 where
  pub within : i < length es
  pub is_there : (d : List ℕ × X) → (slice_index_or es i d).0 ≡ name
  pub is_named : (d : List ℕ × X) → named es name ≡ Some (slice_index_or es i d).1
  pub puts : (d : List ℕ × X) (x : X)
      → slice_set es i ((slice_index_or es i d).0, x) ≡ put_in_order es name x

-- the name belongs at i: it names nothing, and to put a thing is to insert it there
pub record BelongsAt {X : Type 0} (es : List (List ℕ × X)) (name : List ℕ) (i : ℕ) : Type 0 where
  pub within : i ≤ length es
  pub unnamed : named es name ≡ None
  pub puts : (x : X) → insert es i (name, x) ≡ put_in_order es name x
