use Rattle.std.proofs.Common.{◌≡◌, Bor, ℕ, List, IfSome, map, is_some, sym, ap, ◌∙◌, subst}
use Rattle.rx_query.specs.QuerySpec.{asked}
use Rattle.rx_planner.specs.Plan.{path_of}
use Rattle.rx_planner.specs.Way.{front, fits}
use Rattle.rx_planner.proofs.Best.{read_at}
use Rattle.rx_planner.proofs.Windows.{way_at}
use Rattle.rx_planner.proofs.way.way_by.Goals as goal

pub returns-clause-way : goal.returns-clause-way
returns-clause-way c =
    let q = asked c.args.query.now in
    let index = c.at-index in
    way_at q c.args.indexes.now c.args.i index.result
    (map (λ (f : Bor (List ℕ)). f.now) c.in-Some.names.items) (read_at c.args.indexes.now c.args.i index.result index.ensures) c.requires
    (ap (λ fs. fits q (path_of q fs)) (sym c.fields.ensures) ∙ sym c.in_ok-names.ensures.fits
    ∙ ap is_some c.in-Some.is)
    (subst (λ o. IfSome o (λ names. map (λ f. f.now) names.items
    ≡ front q (path_of q c.fields.result.now))) c.in-Some.is c.in_ok-names.ensures.front
    ∙ ap (λ fs. front q (path_of q fs)) c.fields.ensures)
    c.range.ensures.rising
