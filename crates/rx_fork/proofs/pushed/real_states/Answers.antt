use Rattle.std.proofs.Common.{◌∙◌, ◌∷◌, ◌++◌, [], ◌+◌, ap, sym, subst, map, drop}
use Rattle.rx_value.proofs.Lists.{from_item, moved}
use Rattle.rx_replication.specs.Taking.{real_state}
use Rattle.rx_replication.proofs.Distinct.{RowKeysDiffer}
use Rattle.rx_fork.proofs.Ordered.{left_reals, rest_differ}
use Rattle.rx_fork.proofs.pushed.real_states.Goals as goal

pub loop-row-preserved : goal.loop-row-preserved
loop-row-preserved c =
    let rows = c.args.rows.now in
    let row = c.row-item.result in
    let i = c.loop-row.row-index in
    let left = c.loop-row.left.now in
    let rest = drop (i + 1) rows in
    let next = from_item rows i row c.loop-row-test.true c.row-item.is in
    let apart = subst RowKeysDiffer next c.loop-row.invariant.1 in (
      moved c.loop-row.states.items _ _ (map (real_state left) (drop i rows))
          (map (real_state c.args.conflicts.now) rows) (real_state left row)
          (c.in_ok-push.ensures.items ∙ ap (λ s. c.loop-row.states.items ++ s ∷ [])
          (c.in_ok-copy.ensures ∙ c.real_state.ensures))
          (ap (map (real_state left)) next
          ∙ ap (λ ss. real_state left row ∷ ss) (sym (ap (λ cs. map (real_state cs) rest)
          c.conflicts_left-left.ensures ∙ left_reals left row rest apart)))
          c.loop-row.invariant.0,
      rest_differ row rest apart,
    )
