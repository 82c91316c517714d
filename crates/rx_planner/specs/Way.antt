-- A walk along an index in the order of a query's sort.
use Rattle.std.specs.Prelude.{◌≡◌, ℕ, suc, ◌+◌, ◌-◌, ◌*◌, ◌<◌, ◌≤◌, ◌==◌, ◌⊎◌, Bool, true, false, not, ◌&&◌, List, [], ◌∷◌, ◌++◌, map, take, length, reverse, Option, Some, None, IfSome, slice_get, if◌then◌else◌}
use Rattle.std.specs.Bool.{beq}
use Rattle.std.specs.Str.{bytes_eq}
use Rattle.std.specs.List.{filter}
use Rattle.std.specs.List.Sorted.{IsStrictlySortedBy}
use Rattle.std.specs.Map.{values_of}
use Rattle.rx_value.specs.Named.{named}
use Rattle.rx_value.specs.declared.value.Value.TheVariants.{Flag}
use Rattle.rx_document.specs.Documents.{Documents}
use Rattle.rx_document.specs.declared.stored.Stored.{Stored}
use Rattle.rx_query.specs.QuerySpec.{Sorts, QuerySpec}
use Rattle.rx_query.specs.Lists.{first_passes, some_passes, sorted}
use Rattle.rx_query.specs.Result.{is_due, stored_before, IsCollection}
use Rattle.rx_index.specs.Index.{Indexed, Holds, has_key, is_between, ids_between}
use Rattle.rx_index.specs.Position.{Position, position_with, position_cmp, precedes, key_of, id_of}
use Rattle.rx_planner.specs.Plan.{Names, is_fixed, path_of, rest_of, bound_of}
use Rattle.rx_planner.specs.Rows.{due_among, most_rows}
use Rattle.rx_planner.specs.declared.walk.Step.{Step}
use Rattle.rx_planner.specs.declared.walk.Step.TheVariants.{More, Whole, TooFar}

-- ---- which way the rows stand

-- the first field of the sort is reversed
abbrev pub falls : QuerySpec → Bool
falls q = first_passes (λ s. s.1) q.sorts

-- it is that field, reversed or not
abbrev pub goes_by : Option (List ℕ × Bool) → List ℕ → Bool → Bool
goes_by None field desc = false
goes_by (Some s) field desc = bytes_eq s.0 field && beq s.1 desc

-- with how many of these fields the sort begins, all reversed or none
abbrev pub matched : Bool → Sorts → Names → ℕ
matched desc [] path = 0
matched desc (s ∷ ss) [] = 0
matched desc (s ∷ ss) (f ∷ fs) =
    if goes_by (Some s) f desc then suc (matched desc ss fs) else 0

-- the first fields that are fixed, and of those behind them as many as the sort begins with
abbrev pub front : QuerySpec → Names → Names
front q [] = []
front q (f ∷ fs) =
    if is_fixed q f then f ∷ front q fs else take (matched (falls q) q.sorts (f ∷ fs)) (f ∷ fs)

-- the sort begins with a field behind those that are fixed
abbrev pub fits : QuerySpec → Names → Bool
fits q path = not (matched (falls q) q.sorts (rest_of q path) == 0)

-- by the index of that place a walk can go, by these fields
pub record IsWayBy (q : QuerySpec) (indexes : List Indexed) (i : ℕ) (names : Names) : Type 0 where
  pub within : i < length indexes
  pub fits : IfSome (slice_get indexes i) (λ index. fits q (path_of q index.fields) ≡ true)
  pub front : IfSome (slice_get indexes i) (λ index. names ≡ front q (path_of q index.fields))
  pub rising : IfSome (slice_get indexes i) (λ index. IsStrictlySortedBy position_cmp index.keys)

-- by the index of that place a walk can go
abbrev pub fits_at : QuerySpec → List Indexed → ℕ → Bool
fits_at q indexes k = some_passes (λ index. fits q (path_of q index.fields)) (slice_get indexes k)

-- the bounds of an index
abbrev pub first_low : QuerySpec → Indexed → Position
first_low q index = bound_of q false (path_of q index.fields)

abbrev pub first_high : QuerySpec → Indexed → Position
first_high q index = bound_of q true (path_of q index.fields)

-- how many keys stand between them
abbrev pub width : QuerySpec → Indexed → ℕ
width q index = length (ids_between (first_low q index) (first_high q index) index.keys)

-- and between those of the index of that place
abbrev pub width_of : QuerySpec → Option Indexed → ℕ
width_of q None = 0
width_of q (Some index) = width q index

abbrev pub width_at : QuerySpec → List Indexed → ℕ → ℕ
width_at q indexes k = width_of q (slice_get indexes k)

-- of the first n indexes the first with the fewest keys of those by which a walk can go
pub record IsBestWay (q : QuerySpec) (indexes : List Indexed) (n best : ℕ) : Type 0 where
  pub within : best < n
  pub fits : fits_at q indexes best ≡ true
  pub fewest : (k : ℕ) → k < n → fits_at q indexes k ≡ true
      → width_at q indexes best ≤ width_at q indexes k
  pub first : (k : ℕ) → k < best → fits_at q indexes k ≡ true
      → width_at q indexes best < width_at q indexes k

-- that one is the best of the first n, or by none of them a walk can go
abbrev pub HasBest : QuerySpec → List Indexed → ℕ → Option ℕ → Type 0
HasBest q indexes n None = (k : ℕ) → k < n → fits_at q indexes k ≡ false
HasBest q indexes n (Some best) = IsBestWay q indexes n best

-- from the end where rows fall
abbrev pub turned : {X : Type 0} → Bool → List X → List X
turned desc xs = if desc then reverse xs else xs

-- ---- what comes next between two positions, up to a cut, and what is left behind that

-- from the high one where rows fall
abbrev pub part_low : Bool → Position → Position → Position
part_low desc low cut = if desc then cut else low

abbrev pub part_high : Bool → Position → Position → Position
part_high desc high cut = if desc then high else cut

abbrev pub left_low : Bool → Position → Position → Position
left_low desc low cut = if desc then low else cut

abbrev pub left_high : Bool → Position → Position → Position
left_high desc high cut = if desc then cut else high

-- how many keys come next
abbrev pub keys_next : Bool → List Position → Position → Position → Position → ℕ
keys_next desc keys low high cut =
    length (ids_between (part_low desc low cut) (part_high desc high cut) keys)

-- and how many are left
abbrev pub keys_left : Bool → List Position → Position → Position → Position → ℕ
keys_left desc keys low high cut =
    length (ids_between (left_low desc low cut) (left_high desc high cut) keys)

-- ---- cuts

-- before or behind the keys of documents that have the same values of these fields as that one
abbrev pub cut_at : Names → Bool → Stored → Position
cut_at names after d =
    position_with (Some (Flag d.state.deleted) ∷ map (λ f. named d.state.fields f) names) after

-- behind them on a walk
abbrev pub cut_behind : QuerySpec → Names → Stored → Position
cut_behind q names d = cut_at names (not (falls q)) d

-- a document whose key is one of the index, between two positions
pub record IsPivot (documents : Documents) (index : Indexed) (low high : Position) (d : Stored)
    : Type 0 where
  pub stored : named documents (id_of (key_of index.fields d)) ≡ Some d
  pub is_key : has_key index.keys (key_of index.fields d) ≡ true
  pub between : is_between low high (key_of index.fields d) ≡ true

-- a position between two others up to which there are keys: at most so many, or those alone that
-- begin as the first one does
pub record IsCut (q : QuerySpec) (documents : Documents) (index : Indexed) (names : Names)
    (most : ℕ)
    (low high cut : Position) : Type 0 where
  pub long : length cut.values ≡ length names + 1
  pub above : precedes low cut ≡ true
  pub below : precedes cut high ≡ true
  pub some : 0 < keys_next (falls q) index.keys low high cut
  pub reach : (keys_next (falls q) index.keys low high cut ≤ most)
      ⊎ ((d : Stored) → IsPivot documents index low high d
      → keys_left (falls q) index.keys low high (cut_behind q names d)
      ≤ keys_left (falls q) index.keys low high cut)

-- ---- what a walk has to look at

-- all due documents in order
abbrev pub all_rows : QuerySpec → Documents → List Stored
all_rows q documents = sorted (stored_before q) (filter (is_due q) (values_of documents))

-- the keys between the bounds up to those that begin as the document's does, or all
abbrev pub needed_for : QuerySpec → Indexed → Option Stored → ℕ
needed_for q index None = width q index
needed_for q index (Some d) =
    keys_next (falls q) index.keys (first_low q index) (first_high q index)
    (cut_behind q (front q (path_of q index.fields)) d)

-- those up to the last one of so many rows, or all where there are less
abbrev pub needed : QuerySpec → Documents → Indexed → ℕ → ℕ
needed q documents index most = needed_for q index (slice_get (all_rows q documents) (most - 1))

-- where the rows are limited, and the plan's keys don't have their order, nor is the primary key
-- fixed: no more than twice what the best walk has to look at, and a document a row
abbrev pub IsWithinWalk : QuerySpec → Documents → List Indexed → Bool → ℕ → Type 0
IsWithinWalk q documents indexes ordered looked =
    (best most : ℕ) → most_rows q ≡ Some most → ordered ≡ false → is_fixed q q.primary ≡ false
    → IsBestWay q indexes (length indexes) best
    → IfSome (slice_get indexes best)
    (λ index. looked ≤ 2 * needed q documents index most + most)

-- ---- walks

-- the rows between two positions
abbrev pub rows_between : QuerySpec → Documents → List Position → Position → Position → List Stored
rows_between q documents keys low high =
    sorted (stored_before q) (due_among q documents (ids_between low high keys))

-- an index of documents by which a walk can go
pub record IsWay (q : QuerySpec) (documents : Documents) (index : Indexed) (names : Names)
    : Type 0 where
  pub collection : IsCollection q.primary documents
  pub held : Holds index documents
  pub fits : fits q (path_of q index.fields) ≡ true
  pub front : names ≡ front q (path_of q index.fields)
  pub rising : IsStrictlySortedBy position_cmp index.keys

-- the position that is far from where a walk goes on is that of the bounds
abbrev pub IsStill : Bool → Position → Position → Position → Position → Type 0
IsStill true low high from to = low ≡ from
IsStill false low high from to = high ≡ to

-- the rows of a walk, how many documents it looked at, and the positions between which the others
-- are left
pub record IsUnderWay (q : QuerySpec) (documents : Documents) (index : Indexed) (rows : List Stored)
    (looked : ℕ) (low high : Position) : Type 0 where
  pub parted : rows ++ rows_between q documents index.keys low high ≡ all_rows q documents
  pub low_long : length low.values ≤ length (front q (path_of q index.fields)) + 1
  pub high_long : length high.values ≤ length (front q (path_of q index.fields)) + 1
  pub counted : looked + length (ids_between low high index.keys)
      ≡ width q index
  pub still : IsStill (falls q) low high (first_low q index) (first_high q index)

-- a walk found all rows or went on, or gave up, and looked at no more than this
abbrev pub HasStepped : QuerySpec → Documents → Indexed → ℕ → ℕ → ℕ → List Stored → ℕ → Position
    → Position → Step → Type 0
HasStepped q documents index most budget before rows looked low high More =
    IsUnderWay q documents index rows looked low high × (before < looked) × (looked ≤ budget)
    × (looked ≤ 2 * needed q documents index most + most)
HasStepped q documents index most budget before rows looked low high Whole =
    (rows ≡ all_rows q documents) × (looked ≤ budget)
    × (looked ≤ 2 * needed q documents index most + most)
HasStepped q documents index most budget before rows looked low high TooFar =
    (looked ≤ budget) × (looked + budget ≤ 2 * needed q documents index most)
