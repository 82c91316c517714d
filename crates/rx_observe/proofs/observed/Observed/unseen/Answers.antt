use Rattle.std.proofs.Common.{sym, ap, ◌∙◌}
use Rattle.rx_observe.specs.Inside.{watched_in}
use Rattle.rx_observe.specs.Rows.{unseen}
use Rattle.rx_observe.specs.Watched.{Watched}
use Rattle.rx_observe.proofs.Unseen.{unseen_none, emitted_last}
use Rattle.rx_observe.proofs.observed.Observed.unseen.Goals as goal

-- untouched rows were emitted
pub returns-then-not-self-clause-copy : goal.returns-then-not-self-clause-copy
returns-then-not-self-clause-copy c =
    let w = watched_in c.self.inside in
    sym (unseen_none w.rows w.emitted (c.self.invariant.touched c.if-not-self.true))
    ∙ ap (λ (w : Watched). unseen w.rows w.emitted) c.self.view_is

-- rows that are those emitted last are untouched
pub invariant_of-self : goal.invariant_of-self
invariant_of-self c = record {
  touched = λ _ rows is.
      emitted_last c.in-Some.rows c.self.inside.emitted c.if-was_emitted.ensures
      ∙ sym c.in-Some.is ∙ is;
  edges = c.self.invariant.edges;
}
