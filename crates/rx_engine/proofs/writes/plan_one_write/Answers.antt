use Rattle.std.proofs.Common.{◌≡◌, ◌∷◌, [], List, Ok, map, sym, ap, ◌∙◌, subst}
use Rattle.std.specs.List.{IsDistinct}
use Rattle.std.specs.Str.{bytes_eq}
use Rattle.rx_value.specs.Named.{named}
use Rattle.rx_value.specs.declared.state.State.{State}
use Rattle.rx_document.specs.Revision.{revision_text}
use Rattle.rx_collection.specs.Commit.{next_height}
use Rattle.rx_record.specs.Shown.{content}
use Rattle.rx_record.specs.declared.record.Record.{Record}
use Rattle.rx_record.specs.declared.record.RowOut.{RowOut}
use Rattle.rx_world.specs.Commit.{commit_to}
use Rattle.rx_session.specs.Doing.{write}
use Rattle.rx_writes.specs.Documents.{next_revision}
use Rattle.rx_engine.specs.Outcome.{write_outcome}
use Rattle.rx_engine.proofs.OneRow.{first_height, no_other, one_row, rows_in}
use Rattle.rx_engine.proofs.writes.plan_one_write.Goals as goal

-- there is one key
pub commit-requires-clause-distinct : goal.commit-requires-clause-distinct
unfolding IsDistinct
commit-requires-clause-distinct c =
    subst (λ (ss : List State). IsDistinct bytes_eq (map (λ s. s.key) ss))
    (sym c.in_ok-states.ensures.items) (tt, tt)

-- its record has a row
pub unreachable-requires : goal.unreachable-requires
unreachable-requires c =
    let held = c.args.collection.now in
    no_other c.in_ok-entry.entry
    (record { height = next_height (named held.documents c.args.state.key); state = c.args.state })
    (one_row held.name c.args.state c.args.session.now.moment held (content c.in_ok-entry.entry)
    c.in_ok-states.states.items c.in_ok-states.ensures.items c.in_ok-entry.ensures.ok)
    (λ name lwt written is. c.in_default.not-Rows name lwt written is)

pub returns-clause-exact : goal.returns-clause-exact
returns-clause-exact c answer =
    let held = c.args.collection.now in
    let state = c.args.state in
    let entry = c.in_ok-entry.entry in
    let moment = c.args.session.now.moment in
    let row : RowOut =
    record { height = next_height (named held.documents state.key); state = state } in
    let one : c.in-Rows.rows.items ≡ row ∷ [] =
    ap (λ (r : Record). rows_in (content r)) (sym c.in-Rows.is)
    ∙ one_row held.name state moment held (content entry) c.in_ok-states.states.items
    c.in_ok-states.ensures.items c.in_ok-entry.ensures.ok in
    let rev : c.in_ok-rev.rev ≡ next_revision held state.key =
    c.in_ok-rev.ensures
    ∙ ap (λ height. revision_text (record { height = height; token = held.name }))
    (first_height c.in-Rows.rows.items row c.index.result.now one c.index.ensures) in
    ap (λ ss. write_outcome (answer (next_revision held state.key))
    (commit_to held.name ss moment held)) (sym c.in_ok-states.ensures.items)
    ∙ ap (write_outcome (answer (next_revision held state.key))) c.in_ok-entry.ensures.ok
    ∙ ap (λ rev. Ok (record { doing = write (content entry); answer = answer rev })) (sym rev)
