use Rattle.std.proofs.Common.{sym, rules, Ok, Err}
use Rattle.std.proofs.lemmas.Fn.{always_returns_same}
use Rattle.rx_value.specs.Order.{text_cmp}
use Rattle.rx_value.proofs.Places.{searched}
use Rattle.rx_schema.proofs.validity.find_rule.Goals as goal

-- the closure compares a property's name
pub returns-in-Ok : goal.returns-in-Ok
returns-in-Ok c =
    let facts = c.in-Ok.ensures in
    let by_name = facts.position (λ rule. text_cmp rule.0 c.args.name.now)
    (always_returns_same _ _ _ (λ a r f called. search rules)) in
    let ends = searched c.args.rules.now c.args.name.now
    (Ok c.in-Ok.i) c.requires facts.bound by_name in
    sym (ends.0.is_named c.index-rules-i.result)

pub returns-in-Err : goal.returns-in-Err
returns-in-Err c =
    let facts = c.in-Err.ensures in
    let by_name = facts.position (λ rule. text_cmp rule.0 c.args.name.now)
    (always_returns_same _ _ _ (λ a r f called. search rules)) in
    let ends = searched c.args.rules.now c.args.name.now
    (Err c.in-Err.field-0) c.requires facts.bound by_name in
    sym ends.1.unnamed
