use Rattle.std.proofs.Common.{sym, subst}
use Rattle.rx_index.specs.Index.{Holds}
use Rattle.rx_index.proofs.Taken.{held_filled, keys_moved}
use Rattle.rx_index.proofs.filled.Filling.done.Goals as goal

pub add_all-requires : goal.add_all-requires
add_all-requires c =
    keys_moved c.self.inside.keys.items c.sort_unstable_by.new.self.items
    c.sort_unstable_by.ensures.permutation c.self.invariant.0

pub returns-clause-held : goal.returns-clause-held
returns-clause-held c documents held =
    let f = c.self.inside in
    held_filled f.index.fields f.keys.items c.sort_unstable_by.new.self.items f.index
    c.add_all.new.index c.sort_unstable_by.ensures.permutation c.self.invariant.1
    c.in_ok-add_all.ensures.fields c.in_ok-add_all.ensures.keys documents
    (subst (λ i. Holds i documents) (sym c.self.view_is) held)
