use Rattle.std.proofs.Common.{◌≡◌, true}
use Rattle.rx_collection.specs.Hints.{AreSpread}
use Rattle.rx_collection.proofs.hints.Hints.keep_all.Given as goal

-- where the table is whole it has what stands in the places so far
abbrev pub invariant-loop-place : goal.invariant-loop-place
invariant-loop-place l =
    l.self.whole ≡ true → AreSpread l.places l.place-index l.self.places.items
