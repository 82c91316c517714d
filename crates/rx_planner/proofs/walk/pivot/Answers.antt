use Rattle.std.proofs.Common.{◌≤◌, Bor, length, option_map, sym, ap, ◌∙◌, subst}
use Rattle.rx_document.specs.declared.stored.Stored.{Stored}
use Rattle.rx_planner.proofs.Pivots.{none_left, never_none, is_pivot, few_before}
use Rattle.rx_planner.proofs.walk.pivot.Goals as goal

pub returns-in_default-clause-few : goal.returns-in_default-clause-few
returns-in_default-clause-few g c = λ _.
    subst (λ xs. length xs ≤ c.args.most) c.range-ids.ensures.ids
    (none_left c.args.desc c.range-ids.result c.args.most
    (sym c.entry_at.ensures ∙ c.in_default.is))

pub unreachable-requires : goal.unreachable-requires
unreachable-requires g c =
    never_none (g.T.Lookup.documents c.args.docs.now) c.args.index.now c.requires c.args.low.now
    c.args.high.now c.args.desc c.args.most c.range-ids.result c.in-Some.entry
    c.range-ids.ensures.ids (sym c.entry_at.ensures ∙ c.in-Some.is)
    (sym c.in_ok-document.ensures
    ∙ ap (option_map (λ (d : Bor Stored). d.now)) c.in_default-2.is)

pub returns-clause-pivot : goal.returns-clause-pivot
returns-clause-pivot g c =
    is_pivot (g.T.Lookup.documents c.args.docs.now) c.args.index.now c.requires c.args.low.now
    c.args.high.now c.args.desc c.args.most c.range-ids.result c.in-Some.entry
    c.range-ids.ensures.ids (sym c.entry_at.ensures ∙ c.in-Some.is) c.in-Some-2.document.now
    (sym c.in_ok-document.ensures
    ∙ ap (option_map (λ (d : Bor Stored). d.now)) c.in-Some-2.is)

pub returns-clause-near : goal.returns-clause-near
returns-clause-near g c =
    few_before (g.T.Lookup.documents c.args.docs.now) c.args.index.now c.requires c.args.low.now
    c.args.high.now c.args.desc c.args.most c.range-ids.result c.in-Some.entry
    c.range-ids.ensures.ids (sym c.entry_at.ensures ∙ c.in-Some.is) c.in-Some-2.document.now
    (sym c.in_ok-document.ensures
    ∙ ap (option_map (λ (d : Bor Stored). d.now)) c.in-Some-2.is)
    c.range-ids.ensures.rising
