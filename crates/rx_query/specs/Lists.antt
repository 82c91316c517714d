-- What actions do to a list of rows, and what is asked of its ends.
use Rattle.std.specs.Prelude.{Bool, false, List, [], ◌∷◌, length, ◌-◌, slice_get, Option, Some, None, if◌then◌else◌}

-- there is one, and it passes the test
abbrev pub some_passes : {X : Type 0} → (X → Bool) → Option X → Bool
some_passes p None = false
some_passes p (Some x) = p x

-- there is a first one, and it passes
abbrev pub first_passes : {X : Type 0} → (X → Bool) → List X → Bool
first_passes p xs = some_passes p (slice_get xs 0)

-- there is a last one, and it passes
abbrev pub last_passes : {X : Type 0} → (X → Bool) → List X → Bool
last_passes p xs = some_passes p (slice_get xs (length xs - 1))

-- with x before the first one that x precedes, or at the end
abbrev pub insert_in_order : {X : Type 0} → (X → X → Bool) → X → List X → List X
insert_in_order precedes x [] = x ∷ []
insert_in_order precedes x (y ∷ ys) =
    if precedes x y then x ∷ y ∷ ys else y ∷ insert_in_order precedes x ys

-- in order: each is put before the first that it precedes
abbrev pub sorted : {X : Type 0} → (X → X → Bool) → List X → List X
sorted precedes [] = []
sorted precedes (x ∷ xs) = insert_in_order precedes x (sorted precedes xs)

-- without the last one
abbrev pub without_last : {X : Type 0} → List X → List X
without_last [] = []
without_last (x ∷ []) = []
without_last (x ∷ y ∷ ys) = x ∷ without_last (y ∷ ys)

-- without the first one that passes
abbrev pub without_first : {X : Type 0} → (X → Bool) → List X → List X
without_first p [] = []
without_first p (x ∷ xs) = if p x then xs else x ∷ without_first p xs

-- with another in the place of the first one that passes
abbrev pub replaced_first : {X : Type 0} → (X → Bool) → X → List X → List X
replaced_first p other [] = []
replaced_first p other (x ∷ xs) = if p x then other ∷ xs else x ∷ replaced_first p other xs
