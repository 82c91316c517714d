use Rattle.std.proofs.Common.{ltb, ap, ◌∙◌}
use Rattle.rx_query.specs.QuerySpec.{QuerySpec, asked}
use Rattle.rx_query.specs.Result.{fresh_rows}
use Rattle.rx_observe.proofs.Fronts.{front_is}
use Rattle.rx_observe.proofs.full.run_front.Goals as goal

pub returns-clause-front : goal.returns-clause-front
returns-clause-front c =
    let documents = c.args.collection.now.documents in
    let most = c.most_kept-most.result in
    front_is (asked c.args.query.now) c.args.limit most documents c.in_ok-rows.rows
    (ltb c.len.result most) c.requires.limit c.most_kept-most.ensures.most
    c.most_kept-most.ensures.window
    (c.in_ok-rows.ensures ∙ ap (λ (q : QuerySpec). fresh_rows q documents) c.set_limit.ensures)
    (ap (λ n. ltb n most) c.len.ensures)
