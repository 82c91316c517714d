use Rattle.std.proofs.Common.{◌≡◌, ◌∙◌, List, ℕ, Some, Ok, sym, ap, rules}
use Rattle.rx_value.specs.Named.{named}
use Rattle.rx_world.specs.Holders.{world_in}
use Rattle.rx_world.specs.Migrating.{is_in_group, may_migrate}
use Rattle.rx_world.specs.Migration.{group_fits}
use Rattle.rx_world.specs.Schema.{schema_in}
use Rattle.rx_world.proofs.Fitting.{fits_legal, reads_own}
use Rattle.rx_world.proofs.world.World.migrate.Goals as goal

pub returns-clause-legal : goal.returns-clause-legal
returns-clause-legal g c =
    let w = world_in g.H.Holder.held c.args.self.now in
    let name = c.args.name.now in
    let s = c.args.schema.now in
    let held : named w.collections name ≡ Some c.collection.result.now = search rules in
    let called : c.collection.result.now.name ≡ name = search rules in
    let read : schema_in c.canonical.result.now ≡ Some s =
    reads_own c.canonical.result.now s c.canonical.ensures.text c.canonical.ensures.reads_back in
    let fits : group_fits (is_in_group w.replications name) s c.args.steps c.collection.result.now w
    ≡ Ok tt =
    ap (λ (n : List ℕ).
    group_fits (is_in_group w.replications n) s c.args.steps c.collection.result.now w)
    (sym called) ∙ search rules in
    ap (λ (n : List ℕ). may_migrate n c.in_ok-copy.field-0 c.args.steps w) c.in_ok-new.ensures
    ∙ ap (λ (t : List ℕ). may_migrate name t c.args.steps w) c.in_ok-copy.ensures
    ∙ fits_legal name c.canonical.result.now s c.args.steps c.collection.result.now w held read fits
