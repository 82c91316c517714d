use Rattle.std.proofs.Common.{◌≡◌, ℕ, Bool, true, false, not, List, rules, sym, ap, ◌∙◌}
use Rattle.std.specs.Ordering.{is_ne}
use Rattle.rx_query.specs.QuerySpec.{asked}
use Rattle.rx_query.specs.Order.{field_cmp}
use Rattle.rx_states.proofs.Steps.{ties_next, ties_not}
use Rattle.rx_states.proofs.answers.differs.Goals as goal

-- the field tells them apart
pub returns-then-is_ne : goal.returns-then-is_ne
returns-then-is_ne c =
    let a = c.args.a.now in
    let b = c.args.b.now in
    let s : List ℕ × Bool = (c.sort-desc.result.0.now, c.sort-desc.result.1) in
    let apart : is_ne (field_cmp s.0 a b) ≡ true = search rules in
    ap not (sym (ties_not (asked c.args.query.now).sorts c.loop-i.i s c.sort-desc.ensures a b apart)
    ∙ c.loop-i.invariant)

-- it doesn't
pub loop-i-preserved : goal.loop-i-preserved
loop-i-preserved c =
    let a = c.args.a.now in
    let b = c.args.b.now in
    let s : List ℕ × Bool = (c.sort-desc.result.0.now, c.sort-desc.result.1) in
    let same : is_ne (field_cmp s.0 a b) ≡ false = search rules in
    sym (ties_next (asked c.args.query.now).sorts c.loop-i.i s c.sort-desc.ensures a b same)
    ∙ c.loop-i.invariant
