use Rattle.std.proofs.Common.{◌≡◌, ◌∙◌, ap, sym, subst₂}
use Rattle.std.specs.Bool.{Decides}
use Rattle.std.specs.Map.{values_of}
use Rattle.rx_value.specs.Named.{by_name}
use Rattle.rx_world.specs.Holders.{holders_of, world_in}
use Rattle.rx_world.proofs.Forks.{values_of-by_bytes}
use Rattle.rx_world.proofs.Links.{same_by_name}
use Rattle.rx_world.proofs.world.World.has_same.Goals as goal

pub returns-then-hold_same : goal.returns-then-hold_same
returns-then-hold_same g c =
    let held = g.H.Holder.held in
    let these = values_of-by_bytes c.self.inside.parts.replications.entries in
    let those = values_of-by_bytes c.other.inside.parts.replications.entries in
    let this_world = world_in held (holders_of c.self.inside.parts) in
    let that_world = world_in held (holders_of c.other.inside.parts) in
    subst₂ (λ v w. Decides c.follow_same.result ((by_name held v.entries ≡ by_name held w.entries)
    × (v.replications ≡ w.replications))) c.self.view_is c.other.view_is (
      λ is. (
        c.hold_same.ensures.0 c.if-hold_same.true,
        same_by_name this_world that_world c.self.invariant.made.linked
            c.other.invariant.made.linked (sym these ∙ c.follow_same.ensures.0 is ∙ those),
      ),
      λ both. c.follow_same.ensures.1 (these ∙ ap values_of both.1 ∙ sym those),
    )
