use Rattle.std.proofs.Common.{◌-◌, length, option_map, slice_get, ap, ◌∙◌}
use Rattle.rx_document.specs.declared.change.Change.{Change}
use Rattle.rx_query.specs.QuerySpec.{asked}
use Rattle.rx_query.specs.States.{live_before}
use Rattle.rx_query.specs.declared.results.Row.{Row}
use Rattle.rx_states.specs.Forms.{leading_in}
use Rattle.rx_states.proofs.Leading.{form_tells}
use Rattle.rx_states.proofs.forms.forms_of.Goals as goal

pub returns-clause-before : goal.returns-clause-before
returns-clause-before c =
    let sorts = (asked c.args.query.now).sorts in
    form_tells sorts (live_before c.args.change.now.before) c.leading-both.result.before
    (c.leading-both.ensures.before
    ∙ ap (λ (x : Change). leading_in sorts (live_before x.before)) c.requires.sides)
    c.with_value.result (c.with_value.ensures.fields ∙ c.live_before.ensures)
    c.with_value.ensures.leading

pub returns-clause-after : goal.returns-clause-after
returns-clause-after c =
    let sorts = (asked c.args.query.now).sorts in
    form_tells sorts c.args.change.now.after c.leading-both.result.after
    (c.leading-both.ensures.after
    ∙ ap (λ (x : Change). leading_in sorts x.after) c.requires.sides)
    c.with_value-2.result (c.with_value-2.ensures.fields ∙ c.as_ref.ensures.value)
    c.with_value-2.ensures.leading

pub returns-clause-first : goal.returns-clause-first
returns-clause-first c =
    let rows = c.args.results.now in
    form_tells (asked c.args.query.now).sorts
    (option_map (λ (r : Row). r.fields) (slice_get rows 0)) c.as_ref-2.result
    (c.as_ref-2.ensures.value ∙ c.requires.edges.first) c.form_of_row.result
    (c.form_of_row.ensures.fields ∙ ap (option_map (λ (r : Row). r.fields)) c.first.ensures)
    c.form_of_row.ensures.leading

pub returns-clause-last : goal.returns-clause-last
returns-clause-last c =
    let rows = c.args.results.now in
    form_tells (asked c.args.query.now).sorts
    (option_map (λ (r : Row). r.fields) (slice_get rows (length rows - 1))) c.as_ref-3.result
    (c.as_ref-3.ensures.value ∙ c.requires.edges.last) c.form_of_row-2.result
    (c.form_of_row-2.ensures.fields ∙ ap (option_map (λ (r : Row). r.fields)) c.last.ensures)
    c.form_of_row-2.ensures.leading
