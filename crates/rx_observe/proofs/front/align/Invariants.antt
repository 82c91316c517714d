use Rattle.std.proofs.Common.{◌≡◌, length}
use Rattle.rx_collection.specs.Held.{Held}
use Rattle.rx_observe.specs.Front.{AreFronts}
use Rattle.rx_observe.specs.Observing.{Queries}
use Rattle.rx_observe.proofs.front.align.Given as goal

-- there are so many, each where it was
abbrev pub invariant-loop-i : goal.invariant-loop-i
invariant-loop-i l = record {
  many : length l.fronts.items ≡ l.i;
  kept : (c : Held) (qs : Queries) → AreFronts c qs l.fn.fronts.items
      → AreFronts c qs l.fronts.items;
}
