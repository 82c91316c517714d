use Rattle.std.proofs.Common.{◌-◌, remove, ap, ◌∙◌}
use Rattle.rx_query.specs.States.{is_changed}
use Rattle.rx_actions.proofs.Firsts.{remove_last, remove_found}
use Rattle.rx_actions.proofs.acting.act.Goals as goal

-- the last row
pub returns-in-RemoveLastItem-clause-ok : goal.returns-in-RemoveLastItem-clause-ok
returns-in-RemoveLastItem-clause-ok c =
    let rows = c.args.results.now in
    rw c.in-RemoveLastItem.is
    (c.remove-in-RemoveLastItem.ensures.rest ∙ ap (λ n. remove rows (n - 1)) c.len-last.ensures
    ∙ remove_last rows)

-- the old row
pub returns-in-RemoveExisting-clause-ok : goal.returns-in-RemoveExisting-clause-ok
returns-in-RemoveExisting-clause-ok c =
    rw c.in-RemoveExisting.is
    (c.remove-in-RemoveExisting.ensures.rest
    ∙ remove_found (is_changed c.args.change.now) c.args.results.now c.old_place-place.result
    c.old_place-place.ensures.within c.old_place-place.ensures.first)
