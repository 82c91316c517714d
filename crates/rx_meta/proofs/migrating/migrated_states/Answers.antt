use Rattle.std.proofs.Common.{◌≡◌, ◌++◌, drop, Some, slice_get, ap, ◌∙◌, rules}
use Rattle.rx_value.specs.Named.{put_in_order}
use Rattle.rx_meta.specs.Migrated.{known_after}
use Rattle.rx_meta.proofs.After.{one_more}
use Rattle.rx_meta.proofs.migrating.migrated_states.Goals as goal

pub loop-all-preserved : goal.loop-all-preserved
loop-all-preserved c =
    let steps = c.args.steps.now in
    let all = c.loop-all.all in
    let left = c.loop-all.left in
    let first = c.in-Some.first in
    let next = c.in_ok-next.next in
    let at : slice_get left 0 ≡ Some first = search rules in
    let rest : c.take_first.new.known ≡ drop 1 left = search rules in
    let put : c.put.new.self ≡ put_in_order all first.0 next = search rules in
    ap (λ l. l ++ known_after steps c.take_first.new.known) put
    ∙ ap (λ l. put_in_order all first.0 next ++ known_after steps l) rest
    ∙ one_more steps all left c.args.known first next c.loop-all.invariant at c.requires
    c.in_ok-next.ensures
