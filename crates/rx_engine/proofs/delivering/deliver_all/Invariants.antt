use Rattle.std.proofs.Common.{◌≡◌, true, Some}
use Rattle.std.specs.Vec.Iter.{into_iter_items}
use Rattle.rx_sync.specs.Asking.{pending_in}
use Rattle.rx_engine.proofs.EachEvent.{IsDelivering}
use Rattle.rx_engine.proofs.delivering.deliver_all.Given as goal

-- so many events were delivered, and the others are to come; where it is said,
-- nothing is to be pushed
abbrev pub invariant-loop-i : goal.invariant-loop-i
invariant-loop-i l = record {
  on : IsDelivering l.wanted.name l.now l.wanted.link.items l.fn.events.items l.fn.first l.i
      (into_iter_items l.coming) l.made;
  none : l.made.none ≡ true → pending_in l.made.play.playing.world l.wanted.name ≡ Some 0;
}
