use Rattle.std.proofs.Common.{◌≡◌, ◌⊎◌, List, ℕ, Some, Result, Ok, Err, sym, subst}
use Rattle.rx_value.specs.Due.{◌>>◌, DueBy}
use Rattle.rx_value.specs.Named.{named}
use Rattle.rx_record.specs.Content.{Content}
use Rattle.rx_record.specs.Shown.{content}
use Rattle.rx_engine.specs.Migrate.{said_of, unless_observed, Migrates}
use Rattle.rx_engine.specs.Shown.{outcome_of}
use Rattle.rx_writes.specs.declared.fault.Fault.{Fault}
use Rattle.rx_writes.specs.declared.fault.Fault.TheVariants.{Memory}
use Rattle.rx_engine.proofs.Grouped.{refused_then}
use Rattle.rx_engine.proofs.migrate.plan_migration.Goals as goal

pub record_of-requires : goal.record_of-requires
record_of-requires c = record {
  held =
      subst (λ (n : List ℕ).
      named c.args.session.now.world.collections n ≡ Some c.args.collection.now)
      (sym c.requires.called) c.requires.held;
}

pub write_unless_observed-requires-clause-migrates :
    goal.write_unless_observed-requires-clause-migrates
write_unless_observed-requires-clause-migrates c =
    subst (λ (n : List ℕ). Migrates n (content c.in-Ok.entry)) c.requires.called
    c.in-Ok.ensures.migrates

pub returns-in-Err-clause-exact : goal.returns-in-Err-clause-exact
returns-in-Err-clause-exact c =
    let said : List ℕ → Result Content Fault =
    λ n. said_of n c.args.schema.now c.args.steps c.args.collection.now c.args.session.now in
    refused_then (said c.args.coll.now)
    (λ (x : Content). unless_observed c.args.coll.now x c.args.session.now)
    Memory c.in-Err.fault
    (subst
    (λ (n : List ℕ). (c.in-Err.fault ≡ Memory) ⊎ (said n ≡ Err c.in-Err.fault)) c.requires.called
    c.in-Err.ensures.exact)

pub returns-in-Ok-clause-exact : goal.returns-in-Ok-clause-exact
returns-in-Ok-clause-exact c =
    let said : List ℕ → Result Content Fault =
    λ n. said_of n c.args.schema.now c.args.steps c.args.collection.now c.args.session.now in
    let is : said c.args.coll.now ≡ Ok (content c.in-Ok.entry) =
    subst (λ (n : List ℕ). said n ≡ Ok (content c.in-Ok.entry)) c.requires.called
    c.in-Ok.ensures.exact in
    subst (λ (r : Result Content Fault). DueBy Memory outcome_of c.write_unless_observed.result
    (r >> λ (x : Content). unless_observed c.args.coll.now x c.args.session.now)) (sym is)
    c.write_unless_observed.ensures.exact
