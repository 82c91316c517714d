use Rattle.rx_record.specs.Shown.{content}
use Rattle.rx_world.specs.Holders.{holders_in}
use Rattle.rx_world.specs.Touch.{touch}
use Rattle.rx_session.specs.Placed.{world_of}
use Rattle.rx_session.proofs.Settling.{unwatched_in}
use Rattle.rx_session.proofs.applying.apply.Goals as goal

pub returns-clause-unwatched : goal.returns-clause-unwatched
returns-clause-unwatched c =
    unwatched_in (λ w. holders_in w) (touch (content c.args.entry) (world_of c.args.world))
    (holders_in c.args.world)
    c.change.result c.change.ensures.lives c.requires.unwatched
