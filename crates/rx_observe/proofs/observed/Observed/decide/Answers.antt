use Rattle.std.proofs.Common.{◌≡◌, List, [], None, sym, ap, ◌∙◌}
use Rattle.rx_document.specs.declared.change.Change.{Change}
use Rattle.rx_diagram.specs.Asked.{asked_of}
use Rattle.rx_query.specs.QuerySpec.{asked}
use Rattle.rx_query.specs.States.{bits_of}
use Rattle.rx_query.specs.declared.results.Row.{Row}
use Rattle.rx_table.specs.Rows.{table_of}
use Rattle.rx_observe.specs.Watched.{Watched, unknown, bits_at}
use Rattle.rx_observe.proofs.observed.Observed.decide.Goals as goal

-- the edges that are kept are those of the rows
pub decide-requires-clause-edges : goal.decide-requires-clause-edges
decide-requires-clause-edges c = λ e at.
    c.self.invariant.edges c.in-Some.rows c.in-Some.is e (sym c.as_ref-edges.ensures.value ∙ at)

pub returns-in-Some-clause-action : goal.returns-in-Some-clause-action
returns-in-Some-clause-action c =
    let q = asked c.self.inside.query in
    let change = c.args.change.now in
    c.decide.ensures.action ∙ ap (λ rows. table_of (bits_at q change rows)) (sym c.in-Some.is)
    ∙ ap (λ (w : Watched). table_of (bits_at w.query change w.rows)) c.self.view_is

pub returns-in-Some-clause-asked : goal.returns-in-Some-clause-asked
returns-in-Some-clause-asked c =
    let q = asked c.self.inside.query in
    let change = c.args.change.now in
    c.decide.ensures.asked ∙ ap (λ rows. asked_of (bits_at q change rows)) (sym c.in-Some.is)
    ∙ ap (λ (w : Watched). asked_of (bits_at w.query change w.rows)) c.self.view_is

-- a cold query is given no more than such a change
pub returns-in-None-clause-action : goal.returns-in-None-clause-action
returns-in-None-clause-action c =
    let q = asked c.self.inside.query in
    let change = c.args.change.now in
    let cold : c.args.self.now.rows ≡ None =
    ap (λ (w : Watched). w.rows) (sym c.self.view_is) ∙ c.in-None.is in
    let given = c.requires.cold cold in
    let same : change ≡ unknown change =
    λ i. record { id = change.id; before = given i; after = change.after } in
    c.decide-in-None.ensures.action
    ∙ ap (λ (rows : List Row). table_of (bits_of q change rows)) c.new-none.ensures
    ∙ ap (λ (x : Change). table_of (bits_of q x [])) same
    ∙ ap (λ rows. table_of (bits_at q change rows)) (sym c.in-None.is)
    ∙ ap (λ (w : Watched). table_of (bits_at w.query change w.rows)) c.self.view_is

pub returns-in-None-clause-asked : goal.returns-in-None-clause-asked
returns-in-None-clause-asked c =
    let q = asked c.self.inside.query in
    let change = c.args.change.now in
    let cold : c.args.self.now.rows ≡ None =
    ap (λ (w : Watched). w.rows) (sym c.self.view_is) ∙ c.in-None.is in
    let given = c.requires.cold cold in
    let same : change ≡ unknown change =
    λ i. record { id = change.id; before = given i; after = change.after } in
    c.decide-in-None.ensures.asked
    ∙ ap (λ (rows : List Row). asked_of (bits_of q change rows)) c.new-none.ensures
    ∙ ap (λ (x : Change). asked_of (bits_of q x [])) same
    ∙ ap (λ rows. asked_of (bits_at q change rows)) (sym c.in-None.is)
    ∙ ap (λ (w : Watched). asked_of (bits_at w.query change w.rows)) c.self.view_is
