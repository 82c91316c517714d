use Rattle.std.proofs.Common.{◌∙◌, ◌&&◌, ℕ, List, Bool, not, sym, ap}
use Rattle.std.specs.List.{list_all}
use Rattle.rx_value.specs.Named.{by_bytes}
use Rattle.rx_world.specs.Migrating.{is_in_group}
use Rattle.rx_world.specs.Migration.{is_here, known_migrates}
use Rattle.rx_world.specs.declared.replication.Replication.{Replication}
use Rattle.rx_world.proofs.Fitting.{all_unless, migrate_in_parts}
use Rattle.rx_world.proofs.migrating.replications_migrate.Goals as goal

pub returns-then-is_some : goal.returns-then-is_some
returns-then-is_some c =
    let rs = by_bytes c.args.replications.now.entries in
    let G : List ℕ → Bool = is_in_group rs c.args.name.now in
    let told = c.in_ok-invalid_replication in
    sym (migrate_in_parts G c.args.schema.now c.args.steps.now rs
    ∙ ap (λ b. b && list_all (λ (e : List ℕ × Replication). is_here G e.1) rs)
    (all_unless
    (λ (e : List ℕ × Replication). known_migrates G c.args.schema.now c.args.steps.now e.1)
    rs told.field-0 told.ensures ∙ ap not (sym c.is_some.ensures ∙ c.if-is_some.true)))

pub returns : goal.returns
returns c =
    let rs = by_bytes c.args.replications.now.entries in
    let G : List ℕ → Bool = is_in_group rs c.args.name.now in
    let told = c.in_ok-invalid_replication in
    c.are_here.ensures
    ∙ sym (migrate_in_parts G c.args.schema.now c.args.steps.now rs
    ∙ ap (λ b. b && list_all (λ (e : List ℕ × Replication). is_here G e.1) rs)
    (all_unless
    (λ (e : List ℕ × Replication). known_migrates G c.args.schema.now c.args.steps.now e.1)
    rs told.field-0 told.ensures ∙ ap not (sym c.is_some.ensures ∙ c.if-is_some.false)))
