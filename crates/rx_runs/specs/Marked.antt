-- Names with slots on two sides: those that have a mark, and the others.
use Rattle.std.specs.Prelude.{◌≡◌, ℕ, ◌<◌, ◌^◌, Bool, true, List, [], ◌∷◌, length, Some, None, if◌then◌else◌}
use Rattle.std.specs.List.{AllByRecursion}
use Rattle.std.specs.Map.{keys_of}
use Rattle.std.specs.Str.{is_utf8}
use Rattle.rx_value.specs.Named.{named, put_in_order, without, AreRising}
use Rattle.rx_runs.specs.Run.{AllAbove}

-- the names without the mark, and those with it
pub record Marked : Type 0 where
  pub plain : List (List ℕ × ℕ)
  pub marked : List (List ℕ × ℕ)

-- of these two sides
abbrev pub sides : List (List ℕ × ℕ) → List (List ℕ × ℕ) → Marked
sides plain marked = record { plain = plain; marked = marked }

-- the pairs of two lists by rising name; one name of both has the thing of the first
abbrev pub merged : {X : Type 0} → List (List ℕ × X) → List (List ℕ × X) → List (List ℕ × X)
merged [] fs = fs
merged (e ∷ es) fs = put_in_order (merged es fs) e.0 e.1

-- the names of both sides with their slots
abbrev pub all_slots : Marked → List (List ℕ × ℕ)
all_slots m = merged m.plain m.marked

-- with a slot for a name, which has the mark or hasn't
abbrev pub with_mark : Marked → List ℕ → ℕ → Bool → Marked
with_mark m name slot mark =
    if mark then sides (without m.plain name) (put_in_order m.marked name slot)
    else sides (put_in_order m.plain name slot) (without m.marked name)

-- no name is one of both
abbrev pub NoneTwice : {X : Type 0} → List (List ℕ × X) → List (List ℕ × X) → Type 0
NoneTwice es fs = (k : List ℕ) (x : _) → named es k ≡ Some x → named fs k ≡ None

-- the first name of the one list is below all of the other, which has none where that has none
pub record GoesFirst {X : Type 0} (es fs : List (List ℕ × X)) : Type 0 where
  pub none : es ≡ [] → fs ≡ []
  pub below : (e : List ℕ × X) (rest : List (List ℕ × X)) → es ≡ e ∷ rest → AllAbove e.0 fs

-- names that rise and are texts, and no more than memory holds
pub record IsSide (es : List (List ℕ × ℕ)) : Type 0 where
  pub rising : AreRising es
  pub texts : AllByRecursion (λ k. is_utf8 k ≡ true) (keys_of es)
  pub few : length es < 2 ^ 62

-- each side is of such names, and no name is on both
pub record AreSides (m : Marked) : Type 0 where
  pub plain : IsSide m.plain
  pub marked : IsSide m.marked
  pub apart : NoneTwice m.plain m.marked
