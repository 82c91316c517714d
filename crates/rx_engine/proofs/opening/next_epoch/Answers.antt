use Rattle.std.proofs.Common.{◌∙◌, ap}
use Rattle.rx_record.specs.Content.{Content}
use Rattle.rx_session.specs.Placed.{world_of}
use Rattle.rx_world.specs.Step.{step}
use Rattle.rx_engine.proofs.opening.next_epoch.Goals as goal

pub returns-in-Ok-clause-world : goal.returns-in-Ok-clause-world
returns-in-Ok-clause-world c =
    c.in-Ok.ensures.ok.0 ∙ ap (λ (r : Content). step r (world_of c.args.world)) c.requires.next
