use Rattle.std.proofs.Common.{◌≡◌, ◌⊎◌, ◌≤◌, ◌+◌, min}
use Rattle.rx_outside.specs.Failed.{Rises, last_count}
use Rattle.rx_host.specs.Outside.{OnlyGives}
use Rattle.rx_host.proofs.connections.next_wire.Given as goal

abbrev pub invariant-tries : goal.invariant-tries
invariant-tries g l = record {
  listens : g.L.Listen.is_open l.door;
  accepted : g.L.Listen.accepted l.door ≡ g.L.Listen.accepted l.fn.door;
  only_gives : OnlyGives g.L.Listen l.fn.door l.door;
  count : g.L.Listen.faults l.fn.door ≤ g.L.Listen.faults l.door;
  failed : (l.counter ≡ 0) ⊎ Rises (g.L.Listen.faults l.fn.door) (g.L.Listen.faults l.door);
  tries : min (g.L.Listen.faults l.fn.door + l.counter) last_count ≤ g.L.Listen.faults l.door;
}
