use Rattle.std.proofs.Common.{◌≡◌, ◌∙◌, true, false, cond, sym, ap}
use Rattle.rx_value.specs.Named.{by_bytes}
use Rattle.rx_session.specs.Placed.{world_of}
use Rattle.rx_sync.specs.Asks.{Asks, forgotten}
use Rattle.rx_world.specs.Migrating.{is_in_group}
use Rattle.rx_world.proofs.Regrouped.{set_same}
use Rattle.indexmap.specs.IndexMap.{set_value_at}
use Rattle.std.specs.Prelude.{set}
use Rattle.rx_engine.specs.Standing.{is_of_group}
use Rattle.rx_engine.proofs.Forgetting.{by_bytes_set, entry_is}
use Rattle.rx_engine.proofs.remembered.forget_at.Goals as goal

pub returns-then-not-stands_in_group : goal.returns-then-not-stands_in_group
returns-then-not-stands_in_group c = λ e there.
    let es = by_bytes c.args.asks.now.entries in
    let rs = (world_of c.args.world.now).replications in
    let other : is_of_group (is_in_group rs c.args.name.now) rs e.0 ≡ false =
    sym (c.stands_in_group.ensures e there) ∙ c.if-not-stands_in_group.true in
    sym (ap (λ b. set es c.args.at (cond b (e.0, forgotten e.1) e)) other
    ∙ set_same es c.args.at e there)

pub returns-in-Some : goal.returns-in-Some
returns-in-Some c = λ e there.
    let entries = c.args.asks.now.entries in
    let es = by_bytes entries in
    let rs = (world_of c.args.world.now).replications in
    let of_group : is_of_group (is_in_group rs c.args.name.now) rs e.0 ≡ true =
    sym (c.stands_in_group.ensures e there) ∙ c.if-not-stands_in_group.false in
    ap (λ (a : Asks). by_bytes (set_value_at entries c.args.at a)) c.forget.ensures
    ∙ by_bytes_set entries c.args.at (forgotten c.in-Some.one.now) e there
    ∙ ap (λ (a : Asks). set es c.args.at (e.0, forgotten a))
    (entry_is entries c.args.at c.in-Some.one.now e (sym c.in-Some.ensures.value) there)
    ∙ sym (ap (λ b. set es c.args.at (cond b (e.0, forgotten e.1) e)) of_group)
