use Rattle.rx_outside.proofs.Moments.{gives_next}
use Rattle.rx_outside.proofs.memory_clock.MemoryClockClock.now.Goals as goal

pub returns-clause-gives : goal.returns-clause-gives
returns-clause-gives c = λ told.
    gives_next _ c.args.self.now.count _ _ c.next-moment.ensures c.saturating_add-self.ensures
