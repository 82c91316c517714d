use Rattle.std.proofs.Common.{◌≤◌, ◌+◌, Bor, List, ℕ, IfSome, map, length, ap, ◌∙◌, subst, arith}
use Rattle.std.proofs.lemmas.List.{length-map}
use Rattle.rx_query.specs.QuerySpec.{asked}
use Rattle.rx_index.specs.Position.{Position, position_with, key_of}
use Rattle.rx_planner.specs.Way.{keys_next, IsPivot}
use Rattle.rx_planner.proofs.Pivots.{near_is, far_is}
use Rattle.rx_planner.proofs.walk.next_cut.Goals as goal

-- as many names, lent
as_long : (names : List (Bor (List ℕ))) (p : Position) → length p.values ≤ length names + 1
    → length p.values ≤ length (map (λ f. f.now) names) + 1
as_long names p h =
    let many = length-map names (λ (f : Bor (List ℕ)). f.now) in omega (arith, many, h)

pub returns-then-len-gt0-clause-cut : goal.returns-then-len-gt0-clause-cut
returns-then-len-gt0-clause-cut g c =
    let documents = g.T.Lookup.documents c.args.docs.now in
    let index = c.args.index.now in
    let names = c.args.names.now in
    let low = c.args.low.now in
    let high = c.args.high.now in
    near_is (asked c.args.query.now) documents index (map (λ (f : Bor (List ℕ)). f.now) names)
    c.requires.way low high c.in-Some.document.now
    (subst (λ o. IfSome o (λ d. IsPivot documents index low high d.now)) c.in-Some.is
    c.in_ok-document.ensures.pivot)
    (as_long names low c.requires.low_long) (as_long names high c.requires.high_long)
    c.args.most c.len.result c.falls-desc.result c.in_ok-near.near c.falls-desc.ensures
    c.in_ok-near.ensures (c.len.ensures ∙ ap length c.part.ensures.ids) c.if-len-gt0.true
    (subst (λ o. IfSome o (λ d. keys_next c.falls-desc.result index.keys low high
    (position_with (key_of index.fields d.now).values c.falls-desc.result) ≤ c.args.most))
    c.in-Some.is c.in_ok-document.ensures.near)

pub returns-clause-cut : goal.returns-clause-cut
returns-clause-cut g c =
    let documents = g.T.Lookup.documents c.args.docs.now in
    let index = c.args.index.now in
    let names = c.args.names.now in
    let low = c.args.low.now in
    let high = c.args.high.now in
    far_is (asked c.args.query.now) documents index (map (λ (f : Bor (List ℕ)). f.now) names)
    c.requires.way low high c.in-Some.document.now
    (subst (λ o. IfSome o (λ d. IsPivot documents index low high d.now)) c.in-Some.is
    c.in_ok-document.ensures.pivot)
    (as_long names low c.requires.low_long) (as_long names high c.requires.high_long)
    c.args.most c.len.result c.falls-desc.result c.in_ok-near.near c.falls-desc.ensures
    c.in_ok-near.ensures (c.len.ensures ∙ ap length c.part.ensures.ids) c.if-len-gt0.false
    c.in_ok-cut_at.field-0 c.in_ok-cut_at.ensures
