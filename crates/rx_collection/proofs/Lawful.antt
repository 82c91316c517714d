-- What holds of every collection holds after a row is put.
use Rattle.std.proofs.Common.{◌≡◌, ℕ, ◌<◌, ◌≤◌, List, [], Option, Some, None, Less, refl, arith}
use Rattle.std.specs.List.Sorted.{IsStrictlySortedBy}
use Rattle.rx_value.specs.Named.{named, AreRising}
use Rattle.rx_value.proofs.Named.{put_in_order-rising}
use Rattle.rx_document.specs.Place.{place_cmp}
use Rattle.rx_document.specs.declared.stored.Stored.{Stored}
use Rattle.rx_collection.specs.Commit.{IsNext, IsNextHeight, next_height, with_row}
use Rattle.rx_collection.specs.Held.{Held}
use Rattle.rx_collection.specs.Lawful.{IsHeldAt, IsLawful}
use Rattle.rx_collection.specs.Since.{place_of}
use Rattle.rx_collection.specs.Time.{most_lwt}
use Rattle.rx_collection.proofs.Named.{at_name, all_put}
use Rattle.rx_collection.proofs.Placed.{earlier}

-- the next height is that of a next write
pub next_height_is : (o : Option Stored) (lwt height : ℕ) → 1 ≤ lwt → height ≡ next_height o
    → IsNextHeight o lwt height
next_height_is None lwt height written is = (omega arith, omega arith)
next_height_is (Some d) lwt height written is = is

-- no name is out of order among none
pub rising_none : (X : Type 0) → AreRising {X = X} []
unfolding IsStrictlySortedBy
rising_none X = tt

-- a row that may be written next
module _ (c : Held) (row : Stored) (lawful : IsLawful c) (next : IsNext c row) where
  -- is later than the document in whose place it comes
  pub later : (d : Stored) → named c.documents row.state.key ≡ Some d
      → (d.state.key ≡ row.state.key) × (1 ≤ d.rev.height) × (d.rev.height ≤ d.lwt)
      × (d.lwt < row.lwt)
  later d at =
      let held = at_name (IsHeldAt c.schema.primary) c.documents row.state.key d lawful.each at in
      let below = at_name (λ k d. place_cmp (place_of d) (place_of row) ≡ Less) c.documents
      row.state.key d next.above at in
      (held.keyed, held.counted, held.lower, earlier (place_of d) (place_of row) held.keyed below)

  -- is the first of its key where its height is 1
  of_first : (o : Option Stored) → named c.documents row.state.key ≡ o
      → IsNextHeight o row.lwt row.rev.height → row.rev.height ≡ 1
      → named c.documents row.state.key ≡ None
  of_first None at is one = at
  of_first (Some d) at is one = let l = later d at in absurd (omega (arith, is, one, l.1))

  pub none_before_first : row.rev.height ≡ 1 → named c.documents row.state.key ≡ None
  none_before_first = of_first (named c.documents row.state.key) refl next.height

  -- counts its writes from 1
  counted : (o : Option Stored) → named c.documents row.state.key ≡ o
      → IsNextHeight o row.lwt row.rev.height → (1 ≤ row.rev.height) × (row.rev.height ≤ row.lwt)
  counted None at is = is
  counted (Some d) at is = let l = later d at in (omega arith, omega arith)

  -- stands under its key
  is_held : IsHeldAt c.schema.primary row.state.key row
  is_held =
      let n = counted (named c.documents row.state.key) refl next.height in
      record {
        keyed = refl;
        carried = next.carried;
        written = next.written;
        in_range = next.in_range;
        counted = n.0;
        lower = n.1;
      }

  -- and keeps the collection lawful
  pub lawful_put : IsLawful (with_row c row)
  lawful_put = record {
    rising = put_in_order-rising c.documents row.state.key row lawful.rising;
    each = all_put (IsHeldAt c.schema.primary) c.documents row.state.key row is_held lawful.each;
  }

-- what is held was written in range, and so often at most
pub height_in_range : (c : Held) → IsLawful c → (k : List ℕ) (d : Stored)
    → named c.documents k ≡ Some d → d.rev.height ≤ most_lwt
height_in_range c lawful k d at =
    let held = at_name (IsHeldAt c.schema.primary) c.documents k d lawful.each at in
    let lower = held.lower in let range = held.in_range in omega arith
