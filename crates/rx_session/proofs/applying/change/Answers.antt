use Rattle.std.proofs.Common.{Ok}
use Rattle.rx_record.specs.Shown.{content}
use Rattle.rx_world.specs.Holders.{holders_in}
use Rattle.rx_world.specs.Touch.{touch}
use Rattle.rx_session.specs.Placed.{world_of}
use Rattle.rx_session.proofs.Remade.{after_so, made_whole}
use Rattle.rx_session.proofs.applying.change.Goals as goal

pub apply-requires-clause-makes : goal.apply-requires-clause-makes
apply-requires-clause-makes g c = λ x r made. made_whole x r (c.requires.makes x r made)

pub returns-clause-lives : goal.returns-clause-lives
returns-clause-lives g c =
    after_so (λ x l. g.F.Fn.post c.args.make.now (x, tt) (Ok l))
    (λ x l made. c.requires.makes x (Ok l) made)
    (touch (content c.args.entry) (world_of c.args.world)) (holders_in c.args.world)
    (holders_in c.in_ok-applied.applied) c.in_ok-applied.ensures.holders
