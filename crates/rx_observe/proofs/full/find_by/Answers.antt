use Rattle.std.proofs.Common.{sym, subst}
use Rattle.std.specs.List.{AllByRecursion}
use Rattle.rx_index.specs.Index.{Holds}
use Rattle.rx_observe.proofs.Fresh.{is_collection_for}
use Rattle.rx_observe.proofs.KeysHeld.{keys_held}
use Rattle.rx_observe.proofs.full.find_by.Goals as goal

pub find-requires-clause-keyed : goal.find-requires-clause-keyed
find-requires-clause-keyed c =
    is_collection_for c.args.query.now.primary c.args.collection.now c.requires.keyed
    c.requires.indexed.lawful

pub find-requires-clause-held : goal.find-requires-clause-held
find-requires-clause-held c =
    let held = c.args.collection.now in
    subst (AllByRecursion (λ i. Holds i held.documents)) (sym c.new-indexes.ensures) (
      keys_held held c.keys.result.now c.keys.ensures.lawful c.keys.ensures.marks,
      c.requires.indexed.held,
    )
