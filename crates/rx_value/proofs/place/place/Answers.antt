use Rattle.std.proofs.Common.{rules}
use Rattle.std.proofs.lemmas.Fn.{always_returns_same}
use Rattle.rx_value.specs.Order.{text_cmp}
use Rattle.rx_value.proofs.Places.{searched}
use Rattle.rx_value.proofs.place.place.Goals as goal

-- the closure compares a pair's name
pub returns : goal.returns
returns g c =
    let facts = c.binary_search_by.ensures in
    let by_name = facts.position (λ pair. text_cmp pair.0 c.args.name.now)
    (always_returns_same _ _ _ (λ a r f called. search rules)) in
    let ends = searched c.args.pairs.now c.args.name.now _ c.requires facts.bound by_name in
    record { found = ends.0; absent = ends.1 }
