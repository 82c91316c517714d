use Rattle.std.proofs.Common.{◌≡◌, Bor, Ok, Err, IfOk, IfSome, map, take, drop, sym, ◌∙◌}
use Rattle.std.specs.Map.{values_of}
use Rattle.rx_document.specs.declared.stored.Stored.{Stored}
use Rattle.rx_query.specs.QuerySpec.{asked}
use Rattle.rx_query.specs.Result.{result_of}
use Rattle.rx_planner.specs.Way.{all_rows}
use Rattle.rx_planner.proofs.Windows.{are_shown}
use Rattle.rx_planner.proofs.planned.Plan.walked.Goals as goal

pub returns-clause-rows : goal.returns-clause-rows
returns-clause-rows g c =
    let q = asked c.args.query.now in
    let documents = g.T.Lookup.documents c.args.docs.now in
    let now : Bor Stored → Stored = λ r. r.now in
    (elim c.walk_along.result as (λ r. IfOk r (λ walked. IfSome walked.rows
    (λ rows. map now rows.items ≡ take c.in-Some.most (all_rows q documents)))
    → IfOk r (λ walked. IfSome walked.rows
    (λ rows. drop q.skip (map now rows.items) ≡ result_of q (values_of documents)))) [
      | Ok walked ↦
          (λ h. are_shown q documents c.in-Some.most (sym c.in-Some.is ∙ c.most_rows.ensures)
          walked.rows (λ rows. map now rows.items) h)
      | Err e ↦ (λ _. tt)
    ]) c.walk_along.ensures.rows
