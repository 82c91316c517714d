use Rattle.std.proofs.Common.{◌≡◌, List, ℕ, map, sym, ap, ◌∙◌}
use Rattle.rx_query.specs.QuerySpec.{asked}
use Rattle.rx_planner.specs.Count.{in_window}
use Rattle.rx_planner.specs.Plan.{path_of}
use Rattle.rx_planner.proofs.Best.{read_at}
use Rattle.rx_planner.proofs.Counts.{walked_count, span_count}
use Rattle.rx_planner.proofs.planned.Plan.count.Goals as goal
use Rattle.rx_planner.proofs.planned.Plan.count.Goals.{then-is_exact, else-is_exact+in_ok-due}

pub returns : goal.returns
returns g c =
    let q = asked c.args.query.now in
    let documents = g.T.Lookup.documents c.args.docs.now in
    let i = c.at-index in
    let path : List (List ℕ) = map (λ f. f.now) c.as_slice-path.result.now in
    let path_is : path ≡ path_of q i.result.fields =
    ap (map (λ f. f.now)) c.as_slice-path.ensures.value ∙ c.in_ok-path.ensures
    ∙ ap (path_of q) c.fields.ensures in
    c.in_window.ensures
    ∙ (elim c.if-is_exact.branch [
      | then-is_exact w ↦
          ap (in_window q) (w.due-is ∙ w.len-due.ensures)
          ∙ span_count q documents c.args.indexes.now c.args.self.now i.result (read_at c.args.indexes.now c.args.self.now.index i.result i.ensures)
          c.requires.planned c.requires.keyed c.requires.held c.range-ids.ensures.rising path
          c.in_ok-low.low c.in_ok-high.high c.range-ids.result path_is c.in_ok-low.ensures
          c.in_ok-high.ensures c.range-ids.ensures.ids (sym c.is_exact.ensures ∙ w.if-is_exact.true)
      | else-is_exact+in_ok-due w ↦
          ap (in_window q) (w.due-is ∙ w.in_ok-due.ensures)
          ∙ walked_count q documents c.args.indexes.now c.args.self.now i.result (read_at c.args.indexes.now c.args.self.now.index i.result i.ensures)
          c.requires.planned c.requires.keyed c.requires.held c.range-ids.ensures.rising path
          c.in_ok-low.low c.in_ok-high.high c.range-ids.result path_is c.in_ok-low.ensures
          c.in_ok-high.ensures c.range-ids.ensures.ids
    ])
