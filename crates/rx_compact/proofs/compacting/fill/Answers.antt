use Rattle.std.proofs.Common.{◌≡◌, ◌≤◌, arith, rules, true}
use Rattle.rx_store.proofs.Stops.{handed_on}
use Rattle.rx_world.specs.Copy.{most_copied_epoch}
use Rattle.rx_world.specs.Holders.{world_in}
use Rattle.rx_compact.specs.declared.compacting.CompactFault.TheVariants.{Stopped}
use Rattle.rx_compact.proofs.Filling.{not_written}
use Rattle.rx_compact.proofs.compacting.fill.Goals as goal

pub returns-in_err-copied : goal.returns-in_err-copied
returns-in_err-copied g c =
    let w = world_in g.H.Holder.held c.args.looked.now.world in
    let empty : c.in_ok-take_empty.field-0 ≡ true = search rules in
    let low : w.epoch ≤ most_copied_epoch =
    omega (arith, c.if-epoch-gt-MOST_COPIED_EPOCH.false, c.epoch.ensures) in
    let r = c.from_residual-in_err-copied.result in
    not_written g.D.Disk c.args.copy.now c.take_empty.new.disk c.write_copy.new.disk w
    c.args.looked.now.end c.args.limit r c.take_empty.ensures.untouched
    c.take_empty.ensures.cause.later (λ told. (c.in_ok-take_empty.ensures.empty told).0 empty)
    c.requires.sound low c.in_err-copied.field-0.0 c.in_err-copied.ensures
    (handed_on r (Stopped c.in_err-copied.field-0.0) c.from_residual-in_err-copied.ensures.1)
