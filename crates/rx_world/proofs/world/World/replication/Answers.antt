use Rattle.std.proofs.Common.{IfSome, subst}
use Rattle.rx_world.specs.Holders.{holders_of, world_in}
use Rattle.rx_world.specs.Linked.{IsLinked}
use Rattle.rx_world.proofs.Links.{linked_found}
use Rattle.rx_world.proofs.world.World.replication.Goals as goal

pub returns-clause-linked : goal.returns-clause-linked
returns-clause-linked g c =
    let held = g.H.Holder.held in
    let name = c.args.name.now in
    subst (λ v. IfSome c.find.result (λ r. IsLinked (world_in held v).collections name r.now))
    c.self.view_is
    (linked_found (world_in held (holders_of c.self.inside.parts)) name c.find.result
    c.self.invariant.made.linked c.find.ensures)
