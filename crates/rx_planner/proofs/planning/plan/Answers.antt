use Rattle.std.proofs.Common.{◌≡◌, ◌<◌, ◌∙◌, ℕ, List, true, false, map, sym, ap, subst}
use Rattle.std.proofs.lemmas.List.{length-map}
use Rattle.rx_query.specs.QuerySpec.{asked}
use Rattle.rx_index.specs.Index.{Indexed}
use Rattle.rx_planner.specs.Plan.{bound_of, is_ordered, path_at, path_of}
use Rattle.rx_planner.proofs.Best.{path_read, read_at}
use Rattle.rx_planner.proofs.planning.plan.Goals as goal

pub returns : goal.returns
returns c =
    let q = asked c.args.query.now in
    let indexes = c.args.indexes.now in
    let fields : Indexed → List (List ℕ) = λ i. i.fields in
    let best = c.in_ok-index.ensures in
    let long = length-map indexes fields in
    let index = c.in_ok-index.index in
    let path : map (λ f. f.now) c.as_slice-path.result.now ≡ path_at q (map fields indexes) index =
    ap (map (λ f. f.now)) c.as_slice-path.ensures.value ∙ c.in_ok-path.ensures
    ∙ ap (path_of q) c.fields.ensures
    ∙ sym (path_read q indexes index c.at.result (read_at indexes index c.at.result c.at.ensures)
    best.within) in
    record {
      within = subst (λ n. index < n) (sym long) best.within;
      greatest = λ k lt. best.greatest k (subst (λ n. k < n) long lt);
      first = best.first;
      low = c.in_ok-bound.ensures ∙ ap (bound_of q false) path;
      high = c.in_ok-bound-2.ensures ∙ ap (bound_of q true) path;
      ordered = c.in_ok-is_ordered.ensures ∙ ap (is_ordered q) path;
    }
