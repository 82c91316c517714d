use Rattle.std.proofs.Common.{◌≡◌, Bor, List, IfOk, map, ap, ◌∙◌, subst}
use Rattle.rx_document.specs.declared.stored.Stored.{Stored}
use Rattle.rx_query.specs.QuerySpec.{asked}
use Rattle.rx_query.specs.Result.{row_of, fresh_rows}
use Rattle.rx_query.specs.declared.results.Row.{Row}
use Rattle.rx_observe.proofs.Fresh.{lent_rows, found_fresh}
use Rattle.rx_observe.proofs.full.run_in_full.Goals as goal

pub returns : goal.returns
returns c =
    let held = c.args.collection.now in
    let q = asked c.args.query.now in
    let found = c.in_ok-found.found.items in
    let same : map (λ (d : Bor Stored). row_of d.now) c.as_slice.result.now
    ≡ fresh_rows q held.documents =
    ap (map (λ (d : Bor Stored). row_of d.now)) c.as_slice.ensures.value ∙ lent_rows found
    ∙ found_fresh q held.documents (map (λ d. d.now) found) c.in_ok-found.ensures in
    subst (λ (rows : List Row). IfOk c.copy_rows.result (λ r. r ≡ rows)) same c.copy_rows.ensures
