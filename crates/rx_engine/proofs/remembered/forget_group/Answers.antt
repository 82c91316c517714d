use Rattle.std.proofs.Common.{◌≡◌, ◌+◌, ◌<◌, length, suc, sym, subst, arith, rules}
use Rattle.std.proofs.lemmas.Grind.{common_steps}
use Rattle.rx_value.specs.Named.{by_bytes}
use Rattle.rx_session.specs.Placed.{world_of}
use Rattle.rx_world.specs.Migrating.{is_in_group}
use Rattle.rx_engine.specs.Standing.{is_of_group}
use Rattle.rx_engine.proofs.Forgetting.{AreForgotten, next_forgotten}
use Rattle.rx_engine.proofs.remembered.forget_group.Goals as goal

pub loop-at-preserved : goal.loop-at-preserved
loop-at-preserved c =
    let rs = (world_of c.args.world.now).replications in
    let chosen = is_of_group (is_in_group rs c.args.name.now) rs in
    let old = by_bytes c.args.asks.now.entries in
    let now = by_bytes c.loop-at.asks.entries in
    let at = c.loop-at.at in
    let new = by_bytes c.forget_at.new.asks.entries in
    let one : at + 1 ≡ suc at = omega arith in
    let within : at < length now = first_of (search rules, grind (arith, common_steps)) in
    subst (AreForgotten chosen old new) (sym one)
    (next_forgotten chosen old now new at within c.loop-at.invariant c.forget_at.ensures)
