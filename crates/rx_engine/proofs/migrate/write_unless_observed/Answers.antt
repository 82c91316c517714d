use Rattle.std.proofs.Common.{◌≡◌, ◌∙◌, inl, inr, List, ℕ, Option, Some, sym, ap}
use Rattle.rx_record.specs.Shown.{content}
use Rattle.rx_session.specs.Session.{first_observed}
use Rattle.rx_world.specs.Migrating.{is_in_group}
use Rattle.rx_engine.proofs.Grouped.{may_migrate_it, observed_is}
use Rattle.rx_engine.proofs.migrate.write_unless_observed.Goals as goal

pub returns-in-Some-clause-exact : goal.returns-in-Some-clause-exact
returns-in-Some-clause-exact c =
    let s = c.args.session.now in
    let told : List ℕ → Option (List ℕ) =
    λ n. first_observed (is_in_group s.world.replications n) s.queries in
    let at : Some c.in-Some.name.now ≡ told c.args.coll.now =
    c.in-Some.ensures ∙ ap told c.as_str.ensures in
    elim c.observed.ensures [
      | inl memory ↦ inl memory
      | inr is ↦ inr (observed_is c.args.coll.now (content c.args.entry) s c.in-Some.name.now
          c.observed.result at is)
    ]

pub returns-in_ok-collections-in-None-clause-may : goal.returns-in_ok-collections-in-None-clause-may
returns-in_ok-collections-in-None-clause-may c =
    let s = c.args.session.now in
    let told : List ℕ → Option (List ℕ) =
    λ n. first_observed (is_in_group s.world.replications n) s.queries in
    may_migrate_it c.args.coll.now (content c.args.entry) s c.requires.legal c.requires.migrates
    (sym (c.in-None.ensures ∙ ap told c.as_str.ensures))
