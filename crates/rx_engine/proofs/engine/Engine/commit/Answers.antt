use Rattle.std.proofs.Common.{refl}
use Rattle.rx_engine.specs.Engine.{IsAt, asks_in, limit_of, session_of, standing_of}
use Rattle.rx_store.specs.Holds.{Holds}
use Rattle.rx_store.proofs.Crashes.{answered, same_stop}
use Rattle.rx_store.proofs.Stops.{handed_on}
use Rattle.rx_engine.proofs.engine.Engine.commit.Goals as goal

pub returns-in_err-journal-clause-safe : goal.returns-in_err-journal-clause-safe
unfolding session_of
returns-in_err-journal-clause-safe g c told bodies more ahead =
    same_stop g.D.Disk c.args.disk.now c.commit.new.disk bodies more (limit_of c.args.self)
    (λ kept all. Holds g.D.Disk c.commit.new.disk kept all (session_of c.args.self).world)
    (IsAt g.D.Disk c.commit.new.disk) c.in_err-journal.field-0.0 c.from_residual.result
    (handed_on c.from_residual.result c.in_err-journal.field-0.0 c.from_residual.ensures.1)
    (c.in_err-journal.ensures.safe told bodies more (session_of c.args.self).world ahead)

pub returns-clause-safe : goal.returns-clause-safe
unfolding session_of
returns-clause-safe g c told bodies more ahead =
    answered g.D.Disk c.args.disk.now c.commit.new.disk bodies more (limit_of c.args.self)
    (λ kept all. Holds g.D.Disk c.commit.new.disk kept all (session_of c.args.self).world)
    (IsAt g.D.Disk c.commit.new.disk) c.in_ok-journal.journal
    (record {
      journal = c.in_ok-journal.journal;
      session = c.args.self.session;
      diagram = c.args.self.diagram;
    })
    (c.in_ok-journal.ensures.safe told bodies more (session_of c.args.self).world ahead)
    (λ held. held)

pub returns-clause-same : goal.returns-clause-same
unfolding session_of asks_in standing_of
returns-clause-same g c = λ kinds heard. refl
