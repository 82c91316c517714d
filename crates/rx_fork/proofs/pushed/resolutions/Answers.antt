use Rattle.std.proofs.Common.{◌≡◌, ◌∙◌, ◌∷◌, ◌++◌, [], ◌+◌, Bool, List, cond, not, ap, sym, subst, drop}
use Rattle.rx_value.specs.Equal.{state_eq}
use Rattle.rx_value.specs.declared.state.State.{State}
use Rattle.rx_value.proofs.Lists.{from_item, moved}
use Rattle.rx_handler.specs.Resolve.{resolve}
use Rattle.rx_replication.specs.Taking.{real_state, resolutions}
use Rattle.rx_replication.proofs.Distinct.{RowKeysDiffer}
use Rattle.rx_fork.proofs.Ordered.{answers_first, left_answers, rest_differ, with_answer}
use Rattle.rx_fork.proofs.pushed.resolutions.Goals as goal
use Rattle.rx_fork.proofs.pushed.resolutions.Goals.{then-ne+in_ok-resolve+in_ok-push, else-ne}

pub loop-row-preserved : goal.loop-row-preserved
loop-row-preserved g c =
    let by = resolve c.args.handler.now.kind c.args.field.now in
    let rows = c.args.rows.now in
    let all = resolutions by c.args.conflicts.now rows in
    let row = c.row-item.result in
    let i = c.loop-row.row-index in
    let left = c.loop-row.left.now in
    let more = c.conflicts_left-left.result.now in
    let rest = drop (i + 1) rows in
    let real = real_state left row in
    let next = from_item rows i row c.loop-row-test.true c.row-item.is in
    let apart = subst RowKeysDiffer next c.loop-row.invariant.1 in
    let behind : resolutions by left rest ≡ resolutions by more rest =
    sym (ap (λ cs. resolutions by cs rest) c.conflicts_left-left.ensures
    ∙ left_answers by left row rest apart) in
    let whole : resolutions by left (drop i rows)
    ≡ with_answer by real row (resolutions by more rest) =
    ap (resolutions by left) next ∙ answers_first by left row rest
    ∙ ap (with_answer by real row) behind in
    let met : not (state_eq real row.new) ≡ c.ne.result =
    ap (λ s. not (state_eq s row.new)) (sym c.real_state-real.ensures) ∙ sym c.ne.ensures in
    let chosen : Bool → List State =
    λ b. cond b (by real row.new ∷ resolutions by more rest) (resolutions by more rest) in
    elim c.if-ne.branch [
      | then-ne+in_ok-resolve+in_ok-push w ↦ (
        rw w.list-is
            (moved c.loop-row.list _ (resolutions by more rest)
            (resolutions by left (drop i rows)) all (by real row.new)
            (w.in_ok-push.ensures.ok ∙ ap (λ s. c.loop-row.list ++ s ∷ [])
            (w.in_ok-resolve.ensures ∙ ap (λ s. by s row.new) c.real_state-real.ensures))
            (whole ∙ ap chosen (met ∙ w.if-ne.true)) c.loop-row.invariant.0),
        rest_differ row rest apart,
      )
      | else-ne w ↦ (
        rw w.list-is
            (ap (λ ss. c.loop-row.list ++ ss) (sym (whole ∙ ap chosen (met ∙ w.if-ne.false)))
            ∙ c.loop-row.invariant.0),
        rest_differ row rest apart,
      )
    ]
