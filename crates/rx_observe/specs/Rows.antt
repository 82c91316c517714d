-- Whether rows were emitted last, and what is emitted.
use Rattle.std.specs.Prelude.{ℕ, ◌+◌, Bool, ◌&&◌, List, [], ◌∷◌, Option, Some, None, if◌then◌else◌}
use Rattle.std.specs.Cmp.Lexicographic.{pointwise}
use Rattle.std.specs.Str.{bytes_eq}
use Rattle.rx_value.specs.Equal.{fields_eq}
use Rattle.rx_query.specs.declared.results.Row.{Row}
use Rattle.rx_collection.specs.Held.{Held}
use Rattle.rx_query.specs.Result.{fresh_rows}
use Rattle.rx_observe.specs.Watched.{Watched, kept}
use Rattle.rx_observe.specs.declared.emission.Emission.{Emission}

-- rows are the same where id and fields are
abbrev pub same_row : Row → Row → Bool
same_row x y = bytes_eq x.id y.id && fields_eq x.fields y.fields

-- and lists of them row by row
abbrev pub same_rows : List Row → List Row → Bool
same_rows = pointwise same_row

-- the rows that are kept, where they differ from those emitted last
abbrev pub unseen : Option (List Row) → Option (List Row) → Option (List Row)
unseen None emitted = None
unseen (Some rows) None = Some rows
unseen (Some rows) (Some last) = if same_rows rows last then None else Some rows

-- with the rows that are kept, or else those emitted last, emitted
abbrev pub emitted : Watched → Watched
emitted w =
    record { query = w.query; rows = w.rows; emitted = kept w.rows w.emitted; counts = w.counts }

-- those of a query with its name
abbrev pub unseen_of : List ℕ × Watched → Option (List Row)
unseen_of q = unseen q.1.rows q.1.emitted

-- with an emission in front, where there are rows for it
abbrev pub with_emission : List ℕ → Option (List Row) → List Emission → List Emission
with_emission name None es = es
with_emission name (Some rows) es = record { name = name; rows = rows } ∷ es

-- an emission for each query whose rows differ from those emitted last, in order
abbrev pub emissions_of : List (List ℕ × Watched) → List Emission
emissions_of [] = []
emissions_of (q ∷ qs) = with_emission q.0 (unseen_of q) (emissions_of qs)

-- with a query's place and rows in front, where there are rows for it
abbrev pub with_place : ℕ → Option (List Row) → List (ℕ × List Row) → List (ℕ × List Row)
with_place n None ps = ps
with_place n (Some rows) ps = (n, rows) ∷ ps

-- the place of each such query with its rows, where the first one stands at n
abbrev pub places_of : ℕ → List (List ℕ × Watched) → List (ℕ × List Row)
places_of n [] = []
places_of n (q ∷ qs) = with_place n (unseen_of q) (places_of (n + 1) qs)

-- the same by the rows from scratch, whether they are kept or not
abbrev pub emissions_due : Held → List (List ℕ × Watched) → List Emission
emissions_due c [] = []
emissions_due c (q ∷ qs) =
    with_emission q.0 (unseen (Some (fresh_rows q.1.query c.documents)) q.1.emitted)
    (emissions_due c qs)
