-- Replies that don't answer their request.
use Rattle.std.specs.Prelude.{ℕ, ◌-◌, Bool, true, false, not, ◌&&◌, nat_lt, List, length, position, slice_get, Option, Some, None, if◌then◌else◌}
use Rattle.std.specs.List.{list_any}
use Rattle.std.specs.Ordering.{eq_by_cmp}
use Rattle.std.specs.Str.{bytes_eq}
use Rattle.rx_value.specs.declared.state.State.{State}
use Rattle.rx_document.specs.Place.{place_cmp}
use Rattle.rx_document.specs.declared.place.Place.{Place}
use Rattle.rx_collection.specs.Since.{is_above}
use Rattle.rx_wire.specs.declared.message.AskKind.{AskKind}
use Rattle.rx_wire.specs.declared.message.AskKind.TheVariants.{Push, Pull}
use Rattle.rx_wire.specs.declared.message.Body.{Body}
use Rattle.rx_wire.specs.declared.message.Body.TheVariants.{Conflicts, Docs}
use Rattle.rx_wire.specs.declared.message.PushRow.{PushRow}

-- a row has that key
abbrev pub has_row : List PushRow → List ℕ → Bool
has_row rows key = list_any (λ row. bytes_eq row.new.key key) rows

-- the number of the first conflict whose key no row has
abbrev pub first_foreign : List PushRow → List State → Option ℕ
first_foreign rows cs = position (λ s. not (has_row rows s.key)) cs

-- With a last state, a place above the asked one that has its key; with none, the asked place.
abbrev pub place_fits : Option Place → Option State → Option Place → Bool
place_fits None None None = true
place_fits (Some asked) None (Some to) = eq_by_cmp place_cmp asked to
place_fits asked (Some last) (Some to) = is_above asked to && bytes_eq to.id last.key
place_fits asked last to = false

-- the place is one that these states, asked for from a place on, can have
abbrev pub is_fit : Option Place → List State → Option Place → Bool
is_fit asked ss to = place_fits asked (slice_get ss (length ss - 1)) to

-- What an answer is refused for, as the number of the state at fault, counted from 0: another kind
-- than the asked one, as 0; the first conflict of a key that no row has; the first document beyond
-- the batch; a place that doesn't fit, as the count of the documents.
abbrev pub bad_reply : Option Place → AskKind → Body → Option ℕ
bad_reply down (Push rows) (Docs ss to) = Some 0
bad_reply down (Pull place batch) (Conflicts cs) = Some 0
bad_reply down (Push rows) (Conflicts cs) = first_foreign rows cs
bad_reply down (Pull place batch) (Docs ss to) =
    if nat_lt batch (length ss) then Some batch
    else if is_fit down ss to then None else Some (length ss)
