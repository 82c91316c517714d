use Rattle.std.proofs.Common.{◌≡◌, ◌+◌, ◌<◌, length, suc, sym, subst, arith, rules}
use Rattle.std.proofs.lemmas.Grind.{common_steps}
use Rattle.rx_value.specs.Named.{by_bytes}
use Rattle.rx_world.proofs.Regrouped.{AreTurned, next_turn}
use Rattle.rx_world.proofs.remade.migrate_known.Goals as goal

pub loop-at-preserved : goal.loop-at-preserved
loop-at-preserved c =
    let old = by_bytes c.args.replications.now.entries in
    let rs = by_bytes c.loop-at.replications.entries in
    let at = c.loop-at.at in
    let new = by_bytes c.migrate_at.new.replications.entries in
    let one : at + 1 ≡ suc at = omega arith in
    let within : at < length rs = first_of (search rules, grind (arith, common_steps)) in
    subst (AreTurned c.args.steps.now c.args.name.now old new) (sym one)
    (next_turn c.args.steps.now c.args.name.now old rs new at within c.loop-at.invariant
    c.in_ok-migrate_at.ensures)
