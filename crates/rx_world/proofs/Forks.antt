-- What a fork holds once rows are written, and what an exchange touches.
use Rattle.std.proofs.Common.{◌≡◌, ℕ, ◌<◌, List, [], ◌∷◌, length, Option, Some, String, Global, refl, ap, arith}
use Rattle.std.specs.Map.{values_of}
use Rattle.std.specs.Option.{option_map_or}
use Rattle.rx_value.specs.Named.{by_bytes, named}
use Rattle.rx_record.specs.declared.record.RowOut.{RowOut}
use Rattle.rx_world.specs.Touch.{no_collection, new_rows, fork_rows, exchange_touch}
use Rattle.rx_world.specs.World.{Replications}
use Rattle.rx_world.specs.declared.replication.Replication.{Replication}

-- the things of entries are those by the bytes of the names
pub values_of-by_bytes : {X : Type 0} (es : List (String Global × X))
    → values_of es ≡ values_of (by_bytes es)
values_of-by_bytes [] = refl
values_of-by_bytes (e ∷ es) = ap (λ xs. e.1 ∷ xs) (values_of-by_bytes es)

-- where there is a row, an exchange touches the fork of its replication
pub touches_fork : (lwt : ℕ) (written : List RowOut) (name : List ℕ) (rs : Replications)
    (r : Replication)
    → named rs name ≡ Some r → 0 < length written
    → exchange_touch lwt written name rs ≡ new_rows r.fork lwt written
touches_fork lwt [] name rs r at some = absurd (omega arith)
touches_fork lwt (row ∷ written) name rs r at some =
    ap (λ (o : Option Replication). option_map_or (fork_rows lwt (row ∷ written)) o no_collection)
    at
