use Rattle.std.proofs.Common.{sym, ap, ◌∙◌}
use Rattle.rx_observe.specs.Inside.{watched_in}
use Rattle.rx_observe.specs.Rows.{unseen, emitted}
use Rattle.rx_observe.specs.Watched.{Watched, kept}
use Rattle.rx_observe.proofs.Unseen.{rows_unseen}
use Rattle.rx_observe.proofs.observed.Observed.emit.Goals as goal

pub invariant_of-self : goal.invariant_of-self
invariant_of-self c =
    let w = watched_in c.self.inside in
    let is = rows_unseen w.rows w.emitted c.args.copy
    (ap (λ (o : Watched). unseen o.rows o.emitted) c.self.view_is ∙ c.requires) in
    record { touched = λ _ rows same. sym is ∙ same; edges = c.self.invariant.edges }

pub returns : goal.returns
returns c =
    let w = watched_in c.self.inside in
    let is = rows_unseen w.rows w.emitted c.args.copy
    (ap (λ (o : Watched). unseen o.rows o.emitted) c.self.view_is ∙ c.requires) in
    (λ i. record {
      query = w.query;
      rows = w.rows;
      emitted = kept (sym is i) w.emitted;
      counts = w.counts;
    })
    ∙ ap emitted c.self.view_is
