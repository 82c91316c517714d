use Rattle.std.proofs.Common.{sym, subst}
use Rattle.std.specs.List.{AllByRecursion}
use Rattle.rx_index.specs.Index.{Holds, is_between}
use Rattle.rx_planner.proofs.Walks.{held_at}
use Rattle.rx_observe.proofs.Fresh.{is_collection_for}
use Rattle.rx_observe.proofs.KeysHeld.{keys_held}
use Rattle.rx_observe.proofs.full.count_by.Goals as goal

pub count-requires-clause-keyed : goal.count-requires-clause-keyed
count-requires-clause-keyed c =
    is_collection_for c.args.query.now.primary c.args.collection.now c.requires.keyed
    c.requires.indexed.lawful

pub count-requires-clause-held : goal.count-requires-clause-held
count-requires-clause-held c =
    let held = c.args.collection.now in
    let plan = c.in_ok-plan.plan in
    held_at held.documents (is_between plan.low plan.high) c.new-indexes.result plan.index
    (subst (AllByRecursion (λ i. Holds i held.documents)) (sym c.new-indexes.ensures) (
      keys_held held c.keys.result.now c.keys.ensures.lawful c.keys.ensures.marks,
      c.requires.indexed.held,
    ))
