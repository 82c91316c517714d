use Rattle.rx_world.specs.Holders.{holders_of, world_in}
use Rattle.rx_world.proofs.Valid.{valid_found}
use Rattle.rx_world.proofs.world.World.holder.Goals as goal

pub returns-clause-valid : goal.returns-clause-valid
returns-clause-valid g c =
    let held = g.H.Holder.held in
    valid_found (λ h. held h.now) (world_in held (holders_of c.self.inside.parts)) c.args.name.now
    c.find.result c.self.invariant.made.valid c.find.ensures.held
