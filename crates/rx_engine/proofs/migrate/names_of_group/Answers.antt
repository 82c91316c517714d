use Rattle.std.proofs.Common.{◌≡◌, ◌+◌, ◌<◌, length, suc, take, sym, subst, arith, rules}
use Rattle.std.proofs.lemmas.Grind.{common_steps}
use Rattle.rx_value.specs.Form.{texts}
use Rattle.rx_session.specs.Placed.{world_of}
use Rattle.rx_world.specs.Migrating.{is_in_group}
use Rattle.rx_engine.specs.Migrate.{names_of_group}
use Rattle.rx_engine.proofs.Grouped.{next_name}
use Rattle.rx_engine.proofs.migrate.names_of_group.Goals as goal

pub loop-at-preserved : goal.loop-at-preserved
loop-at-preserved c =
    let w = world_of c.args.world.now in
    let G = is_in_group w.replications c.args.coll.now in
    let cs = w.collections in
    let at = c.loop-at.at in
    let one : at + 1 ≡ suc at = omega arith in
    let within : at < length cs = first_of (search rules, grind (arith, common_steps)) in
    subst (λ n. texts c.add_name.new.names.items ≡ names_of_group G (take n cs)) (sym one)
    (next_name G cs at (texts c.loop-at.names.items) (texts c.add_name.new.names.items) within
    c.loop-at.invariant c.in_ok-add_name.ensures)
