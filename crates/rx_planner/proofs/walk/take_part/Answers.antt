use Rattle.std.proofs.Common.{refl, sym, subst}
use Rattle.std.specs.List.{IsDistinct}
use Rattle.std.specs.Ordering.{eq_by_cmp}
use Rattle.rx_query.specs.QuerySpec.{asked}
use Rattle.rx_query.specs.Result.{stored_cmp}
use Rattle.rx_planner.specs.Rows.{due_among}
use Rattle.rx_planner.specs.Way.{part_low, part_high}
use Rattle.rx_planner.proofs.Runs.{met_distinct}
use Rattle.rx_planner.proofs.walk.take_part.Goals as goal

pub gather-requires : goal.gather-requires
gather-requires g c =
    let q = asked c.args.query.now in
    let documents = g.T.Lookup.documents c.args.docs.now in
    let index = c.args.index.now in
    let walk = c.args.walk.now in
    let desc = c.falls-desc.result in
    subst (λ ids. IsDistinct (eq_by_cmp (stored_cmp q)) (due_among q documents ids))
    (sym c.part-ids.ensures.ids)
    (met_distinct q documents index.fields index.keys (part_low desc walk.low c.args.cut)
    (part_high desc walk.high c.args.cut) c.requires.keyed
    c.part-ids.ensures.rising (λ k _. c.requires.held k refl))
