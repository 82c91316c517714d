use Rattle.std.proofs.Common.{◌≡◌, ◌∷◌, ◌+◌, [], map, drop, drop-cons, add-one, suc, ap, sym, ◌∙◌, arith}
use Rattle.std.proofs.lemmas.Grind.{common_steps}
use Rattle.serde_json.specs.View.{view}
use Rattle.rx_writes.specs.Rows.{rows_states}
use Rattle.rx_writes.proofs.EachRow.{after, all_read, row_read, rows_given}
use Rattle.rx_writes.proofs.rows.read_rows.Goals as goal

pub returns-clause-valid : goal.returns-clause-valid
returns-clause-valid g c =
    let held = c.args.collection.now in
    let docs = c.args.docs.now in
    let states = c.loop-row.states.items in
    (rows_given held c.args.attached.now 0 [] (map view docs) states
    (all_read held c.args.attached.now docs c.loop-row.row c.loop-row.seen states (omega arith)
    c.loop-row.invariant.states)).0

pub returns-clause-distinct : goal.returns-clause-distinct
returns-clause-distinct g c =
    let held = c.args.collection.now in
    let docs = c.args.docs.now in
    let states = c.loop-row.states.items in
    (rows_given held c.args.attached.now 0 [] (map view docs) states
    (all_read held c.args.attached.now docs c.loop-row.row c.loop-row.seen states (omega arith)
    c.loop-row.invariant.states)).1

pub loop-row-preserved : goal.loop-row-preserved
loop-row-preserved g c =
    let docs = c.args.docs.now in
    let row = c.loop-row.row in
    let d = c.index-docs-row.result in
    let here : drop row docs ≡ d ∷ drop (row + 1) docs =
    drop-cons docs row d (omega arith)
    ∙ ap (λ x. x ∷ drop (suc row) docs) (sym c.index-docs-row.is)
    ∙ ap (λ n. d ∷ drop n docs) (sym (add-one row)) in
    record {
      states =
          row_read c.args.collection.now c.args.attached.now docs row c.loop-row.seen
          c.read_row.new.seen c.loop-row.states.items d c.in_ok-state.state
          c.loop-row.invariant.states here c.in_ok-state.ensures.exact c.in_ok-state.ensures.seen
          ∙ ap (λ states.
          after states (rows_states c.args.collection.now c.args.attached.now (row + 1)
          c.read_row.new.seen (map view (drop (row + 1) docs))))
          (sym c.in_ok-push.ensures.items);
      revs = grind (arith, common_steps);
    }
