use Rattle.std.proofs.Common.{◌≡◌, true}
use Rattle.rx_collection.specs.Hints.{AreHinted}
use Rattle.rx_collection.proofs.hints.Hints.gathered.Given as goal

-- where the table is whole it has the documents so far
abbrev pub invariant-loop-slot : goal.invariant-loop-slot
invariant-loop-slot l = l.hints.whole ≡ true → AreHinted l.hints.places.items l.rows l.slot
