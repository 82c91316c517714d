use Rattle.std.proofs.Common.{◌≡◌, ◌∙◌, Bool, List, ℕ, ap, false, option_map, sym, true}
use Rattle.std.proofs.lemmas.Result.{on_ok_weaker}
use Rattle.indexmap.specs.IndexMap.{set_value_at}
use Rattle.rx_value.specs.Named.{by_bytes}
use Rattle.rx_value.proofs.Outcomes.{some_same}
use Rattle.rx_world.specs.Migrating.{is_in_group}
use Rattle.rx_world.specs.declared.replication.Replication.{Replication}
use Rattle.rx_world.proofs.Regrouped.{other_set, value_set}
use Rattle.rx_world.proofs.remade.migrate_at.Goals as goal

pub returns-then-not-is_in_group : goal.returns-then-not-is_in_group
returns-then-not-is_in_group c = λ e there.
    let rs = by_bytes c.args.replications.now.entries in
    let G : List ℕ → Bool = is_in_group rs c.args.name.now in
    let found : e.1 ≡ c.find_at.result.now =
    some_same (sym (ap (option_map (λ (x : List ℕ × Replication). x.1)) there)
    ∙ c.find_at.ensures) in
    let other : G e.1.fork ≡ false =
    ap (λ (r : Replication). G r.fork) found ∙ ap G (sym c.as_str.ensures)
    ∙ sym c.is_in_group.ensures
    ∙ c.if-not-is_in_group.true in
    other_set G c.args.steps.now rs c.args.at e there other

pub returns-in-Some : goal.returns-in-Some
returns-in-Some c =
    let es = c.args.replications.now.entries in
    let rs = by_bytes es in
    let G : List ℕ → Bool = is_in_group rs c.args.name.now in
    on_ok_weaker c.migrate_side.result
    (λ now. λ e there.
    let found : e.1 ≡ c.find_at.result.now =
    some_same (sym (ap (option_map (λ (x : List ℕ × Replication). x.1)) there)
    ∙ c.find_at.ensures) in
    let group : G e.1.fork ≡ true =
    ap (λ (r : Replication). G r.fork) found ∙ ap G (sym c.as_str.ensures)
    ∙ sym c.is_in_group.ensures
    ∙ c.if-not-is_in_group.false in
    ap (λ (r : Replication). by_bytes (set_value_at es c.args.at r)) now
    ∙ value_set G c.args.steps.now es c.args.at c.in-Some.replication.now e
    (sym c.in-Some.ensures.value) there group)
    c.migrate_side.ensures
