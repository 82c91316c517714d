use Rattle.std.proofs.Common.{◌≡◌, ◌+◌, true, false, cond, drop, Some, is_some, sym, ap, ◌∙◌}
use Rattle.std.specs.Str.{bytes_eq}
use Rattle.rx_value.specs.Named.{named}
use Rattle.rx_value.proofs.Lists.{drop_at}
use Rattle.rx_query.specs.QuerySpec.{asked}
use Rattle.rx_planner.proofs.order.sorts_by.Goals as goal

pub returns-then-eq : goal.returns-then-eq
returns-then-eq c =
    let sorts = (asked c.args.query.now).sorts in
    let i = c.loop-i.i in
    let name = c.args.name.now in
    let field = c.sort.result.0.now in
    let here : bytes_eq name field ≡ true =
    ap (bytes_eq name) (sym c.as_str.ensures) ∙ sym c.eq.ensures ∙ c.if-eq.true in
    sym (sym c.loop-i.invariant
    ∙ ap (λ xs. is_some (named xs name)) (drop_at sorts i (field, c.sort.result.1) c.sort.ensures)
    ∙ ap (λ b. is_some (cond b (Some c.sort.result.1) (named (drop (i + 1) sorts) name))) here)

pub loop-i-preserved : goal.loop-i-preserved
loop-i-preserved c =
    let sorts = (asked c.args.query.now).sorts in
    let i = c.loop-i.i in
    let name = c.args.name.now in
    let field = c.sort.result.0.now in
    let here : bytes_eq name field ≡ false =
    ap (bytes_eq name) (sym c.as_str.ensures) ∙ sym c.eq.ensures ∙ c.if-eq.false in
    sym (ap (λ xs. is_some (named xs name))
    (drop_at sorts i (field, c.sort.result.1) c.sort.ensures)
    ∙ ap (λ b. is_some (cond b (Some c.sort.result.1) (named (drop (i + 1) sorts) name))) here)
    ∙ c.loop-i.invariant
