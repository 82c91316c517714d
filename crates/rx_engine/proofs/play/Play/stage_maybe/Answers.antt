use Rattle.rx_engine.proofs.Staging.{follows_none}
use Rattle.rx_engine.proofs.play.Play.stage_maybe.Goals as goal

pub returns-in-None : goal.returns-in-None
returns-in-None c = rw c.in-None.is (follows_none c.args.self)
