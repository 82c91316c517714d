use Rattle.std.proofs.Common.{◌≤◌, ◌∙◌, ap, sym, option_map, arith}
use Rattle.rx_collection.specs.Time.{most_lwt}
use Rattle.rx_collection.proofs.Lawful.{height_in_range}
use Rattle.rx_world.proofs.legality.is_next_height.Goals as goal

pub overflow_add-result : goal.overflow_add-result
overflow_add-result c =
    let held = c.in-Some.held.now in
    let bound : held.rev.height ≤ most_lwt =
    height_in_range c.args.collection.now c.get.ensures.lawful c.args.key.now held
    (sym c.get.ensures.value ∙ ap (option_map (λ d. d.now)) c.in-Some.is) in
    omega arith
