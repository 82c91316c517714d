use Rattle.std.proofs.Common.{◌≡◌, List, length}
use Rattle.rx_serve.specs.Answered.{Commits}
use Rattle.rx_host.specs.Causes.{AreNoLess, failed_calls}
use Rattle.rx_host.specs.Connections.{ServedConnection}
use Rattle.rx_host.specs.Engine.{IsStillOf, collection_of}
use Rattle.rx_host.specs.Moments.{GivesMoments}
use Rattle.rx_host.specs.Outside.{HaveServed, opened_at, told_by}
use Rattle.rx_host.specs.Serving.{HasKept}
use Rattle.rx_host.proofs.connections.serve_connections.Given as goal

abbrev pub invariant-connections : goal.invariant-connections
invariant-connections g l = record {
  served : (conns : List ServedConnection) × (length conns ≡ l.i)
      × HaveServed g.L.W.Wire.tells g.K.Sink.tells 1 (collection_of l.fn.first)
      (collection_of l.engine) conns
      (opened_at l.fn.port (told_by g.L.Listen g.K.Sink l.fn.door l.fn.out))
      (told_by g.L.Listen g.K.Sink l.door l.out)
      (λ moments. g.C.Clock.tells
      → GivesMoments (g.C.Clock.given l.fn.clock) (g.C.Clock.given l.clock) moments)
      (HasKept g.D.Disk l.fn.disk l.disk l.fn.first l.engine);
  kept : (commits : Commits) × HasKept g.D.Disk l.fn.disk l.disk l.fn.first l.engine commits;
  listens : g.L.Listen.is_open l.door;
  same : IsStillOf l.fn.first l.engine;
  counts : AreNoLess (failed_calls g.L.Listen g.D.Disk g.K.Sink l.fn.door l.fn.disk l.fn.out)
      (failed_calls g.L.Listen g.D.Disk g.K.Sink l.door l.disk l.out);
}
