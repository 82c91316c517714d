use Rattle.std.proofs.Common.{Bor, [], ◌∷◌, ◌++◌, map, None, Some, option_map, sym, ap, ◌∙◌}
use Rattle.rx_document.specs.declared.stored.Stored.{Stored}
use Rattle.rx_query.specs.QuerySpec.{asked}
use Rattle.rx_planner.proofs.Single.{one_shown, one_hidden}
use Rattle.rx_planner.proofs.one.run_at.Goals as goal

pub returns-then-not-shows_first : goal.returns-then-not-shows_first
returns-then-not-shows_first g c =
    let now : Bor Stored → Stored = λ r. r.now in
    ap (map now) c.new-rows.ensures.items
    ∙ one_hidden (asked c.args.query.now) c.args.id.now (g.T.Lookup.documents c.args.docs.now)
    c.requires.fixed c.requires.keyed (sym c.shows_first.ensures ∙ c.if-not-shows_first.true)

pub returns-in_default : goal.returns-in_default
returns-in_default g c =
    let now : Bor Stored → Stored = λ r. r.now in
    ap (map now) c.new-rows.ensures.items
    ∙ one_shown (asked c.args.query.now) c.args.id.now (g.T.Lookup.documents c.args.docs.now)
    c.requires.fixed c.requires.keyed (sym c.shows_first.ensures ∙ c.if-not-shows_first.false)
    None (sym (ap (option_map now) c.in_default.is) ∙ c.due_at.ensures)

pub returns : goal.returns
returns g c =
    let now : Bor Stored → Stored = λ r. r.now in
    ap (map now)
    (c.in_ok-push.ensures.items
    ∙ ap (λ rows. rows ++ c.in-Some.document ∷ []) c.new-rows.ensures.items)
    ∙ one_shown (asked c.args.query.now) c.args.id.now (g.T.Lookup.documents c.args.docs.now)
    c.requires.fixed c.requires.keyed (sym c.shows_first.ensures ∙ c.if-not-shows_first.false)
    (Some c.in-Some.document.now) (sym (ap (option_map now) c.in-Some.is) ∙ c.due_at.ensures)
