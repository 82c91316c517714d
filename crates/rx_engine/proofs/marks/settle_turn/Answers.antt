use Rattle.std.proofs.Common.{sym, subst}
use Rattle.rx_session.specs.Session.{Session}
use Rattle.rx_world.specs.World.{World}
use Rattle.rx_engine.specs.Marks.{AreMarked}
use Rattle.rx_engine.proofs.marks.settle_turn.Goals as goal

pub returns-clause-marked : goal.returns-clause-marked
returns-clause-marked c =
    let marks = c.set.new.self in
    subst (λ (s : Session). AreMarked s.world marks) (sym c.in_ok-session.ensures.session)
    (subst (λ (w : World). AreMarked w marks) c.world.ensures c.in_ok-set.ensures)
