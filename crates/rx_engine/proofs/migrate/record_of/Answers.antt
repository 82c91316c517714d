use Rattle.std.proofs.Common.{◌≡◌, ◌∙◌, List, ℕ, ap, subst}
use Rattle.rx_value.specs.Named.{named}
use Rattle.rx_record.specs.Shown.{content}
use Rattle.rx_session.specs.Placed.{world_of}
use Rattle.rx_world.specs.World.{World}
use Rattle.rx_engine.specs.Migrate.{Migrates}
use Rattle.rx_engine.proofs.Grouped.{migrates_it}
use Rattle.rx_engine.proofs.migrate.record_of.Goals as goal

pub returns-in-Ok-clause-migrates : goal.returns-in-Ok-clause-migrates
returns-in-Ok-clause-migrates c =
    let collection = c.args.collection.now in
    let called : c.as_str.result.now ≡ collection.name = c.as_str.ensures ∙ c.name-name.ensures in
    let held =
    ap (λ (w : World). named w.collections c.as_str.result.now) c.world.ensures
    ∙ ap (λ (n : List ℕ). named c.args.session.now.world.collections n) called ∙ c.requires.held in
    subst (λ (n : List ℕ). Migrates n (content c.in-Ok.entry)) called
    (migrates_it c.as_str.result.now c.args.schema.now c.args.steps collection
    (world_of c.world.result.now) (content c.in-Ok.entry)
    (c.in-Ok.ensures.exact collection held))
