-- Chunks of pairs with rising names, and the run of all pairs that they make.
use Rattle.std.specs.Prelude.{⊤, ◌≡◌, ℕ, ◌<◌, ◌≤◌, true, false, List, [], ◌∷◌, ◌++◌, length, slice_index_or}
use Rattle.std.specs.List.{AllByRecursion, filter}
use Rattle.std.specs.Map.{keys_of}
use Rattle.std.specs.Ordering.{is_le, is_lt}
use Rattle.std.specs.declared.cmp.Ordering.TheVariants.{Less}
use Rattle.rx_value.specs.Named.{AreRising}
use Rattle.rx_value.specs.Order.{text_cmp}

-- the pairs of chunks, one chunk after another
abbrev pub flat : {X : Type 0} → List (List ℕ × List (List ℕ × X)) → List (List ℕ × X)
flat [] = []
flat (c ∷ cs) = c.1 ++ flat cs

-- each name is above the one
abbrev pub AllAbove : {X : Type 0} → List ℕ → List (List ℕ × X) → Type 0
AllAbove k es = AllByRecursion (λ q. text_cmp k q ≡ Less) (keys_of es)

-- each name is below the one
abbrev pub AllBelow : {X : Type 0} → List ℕ → List (List ℕ × X) → Type 0
AllBelow k es = AllByRecursion (λ q. text_cmp q k ≡ Less) (keys_of es)

-- each name is at least the one
abbrev pub AllFrom : {X : Type 0} → List ℕ → List (List ℕ × X) → Type 0
AllFrom k es = AllByRecursion (λ q. is_le (text_cmp k q) ≡ true) (keys_of es)

-- each chunk's names are at least its head and below the heads of all later chunks
abbrev pub AreParted : {X : Type 0} → List (List ℕ × List (List ℕ × X)) → Type 0
AreParted [] = ⊤
AreParted (c ∷ cs) =
    AllFrom c.0 c.1 × AllByRecursion (λ h. AllBelow h c.1) (keys_of cs) × AreParted cs

-- the first head is the least text
abbrev pub IsRooted : {X : Type 0} → List (List ℕ × List (List ℕ × X)) → Type 0
IsRooted [] = ⊤
IsRooted (c ∷ cs) = c.0 ≡ []

-- the names of all chunks rise, so do the heads, and the heads part them
pub record AreChunks {X : Type 0} (cs : List (List ℕ × List (List ℕ × X))) : Type 0 where
  pub rising : AreRising (flat cs)
  pub heads : AreRising cs
  pub parted : AreParted cs
  pub rooted : IsRooted cs

-- the heads up to the i-th are at most the name, and the others above it
pub record IsIn {X : Type 0} (cs : List (List ℕ × List (List ℕ × X))) (name : List ℕ)
    (i : ℕ) : Type 0 where
  pub within : i < length cs
  pub low : (j : ℕ) (d : List ℕ × List (List ℕ × X)) → j ≤ i
      → is_le (text_cmp (slice_index_or cs j d).0 name) ≡ true
  pub high : (j : ℕ) (d : List ℕ × List (List ℕ × X)) → i < j → j < length cs
      → is_le (text_cmp (slice_index_or cs j d).0 name) ≡ false

-- the pairs of names that are at least the one
abbrev pub from_name : {X : Type 0} → List (List ℕ × X) → List ℕ → List (List ℕ × X)
from_name es name = filter (λ e. is_le (text_cmp name e.0)) es

-- those of names that are below the one
abbrev pub below_name : {X : Type 0} → List (List ℕ × X) → List ℕ → List (List ℕ × X)
below_name es name = filter (λ e. is_lt (text_cmp e.0 name)) es

-- those of names from one on and below another
abbrev pub between : {X : Type 0} → List (List ℕ × X) → List ℕ → List ℕ → List (List ℕ × X)
between es low high = below_name (from_name es low) high
