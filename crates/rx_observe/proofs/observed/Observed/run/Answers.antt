use Rattle.std.proofs.Common.{◌≡◌, IfOk, OnOk, sym, ap, ◌∙◌, subst}
use Rattle.rx_query.specs.Result.{fresh_rows}
use Rattle.rx_observe.specs.Front.{IsFront}
use Rattle.rx_observe.specs.Inside.{watched_in}
use Rattle.rx_observe.specs.Watched.{Watched}
use Rattle.rx_observe.proofs.observed.Observed.run.Goals as goal

pub rows_of-requires-clause-keyed : goal.rows_of-requires-clause-keyed
rows_of-requires-clause-keyed c =
    ap (λ (w : Watched). w.query.primary) c.self.view_is ∙ c.requires.keyed

pub rows_of-requires-clause-front : goal.rows_of-requires-clause-front
rows_of-requires-clause-front c =
    let documents = c.args.collection.now.documents in
    subst (λ (w : Watched). IsFront w.query documents c.args.front.now) (sym c.self.view_is)
    c.requires.front

pub returns-clause-same : goal.returns-clause-same
returns-clause-same c =
    let w = watched_in c.self.inside in
    (λ i. record {
      query = c.rows_of.ensures.query i;
      rows = w.rows;
      emitted = w.emitted;
      counts = w.counts;
    })
    ∙ c.self.view_is

pub returns-clause-rows : goal.returns-clause-rows
returns-clause-rows c =
    let documents = c.args.collection.now.documents in
    subst (λ (w : Watched). IfOk c.rows_of.result (λ rows. rows ≡ fresh_rows w.query documents))
    c.self.view_is c.rows_of.ensures.rows

pub returns-clause-front : goal.returns-clause-front
returns-clause-front c =
    let documents = c.args.collection.now.documents in
    subst (λ (w : Watched). OnOk c.rows_of.result (IsFront w.query documents c.rows_of.new.front))
    c.self.view_is c.rows_of.ensures.front
