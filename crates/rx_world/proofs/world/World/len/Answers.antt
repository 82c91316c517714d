use Rattle.std.proofs.Common.{subst}
use Rattle.std.specs.List.{AllByRecursion}
use Rattle.rx_world.specs.Holders.{IsWhole, holders_in, world_in}
use Rattle.rx_world.specs.Lawful.{IsLawfulWorld}
use Rattle.rx_world.proofs.Entries.{all_lawful, whole_by_bytes}
use Rattle.rx_world.proofs.world.World.len.Goals as goal

pub returns-clause-lawful : goal.returns-clause-lawful
returns-clause-lawful g c =
    let held = g.H.Holder.held in
    subst (λ w. IsLawfulWorld (world_in held w)) c.self.view_is
    (all_lawful held g.H.Holder.is_broken c.self.inside.parts.holders.entries
    c.self.invariant.whole)

pub returns-clause-whole : goal.returns-clause-whole
returns-clause-whole g c =
    let held = g.H.Holder.held in
    let broken = g.H.Holder.is_broken in
    subst (λ w. AllByRecursion (λ e. IsWhole held broken e.0 e.1) (holders_in w)) c.self.view_is
    (whole_by_bytes held broken c.self.inside.parts.holders.entries c.self.invariant.whole)
