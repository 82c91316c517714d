use Rattle.rx_collection.proofs.Hinted.{known_none}
use Rattle.rx_collection.proofs.Logged.{whole_none}
use Rattle.rx_collection.proofs.Marks.{marked_none}
use Rattle.rx_collection.proofs.collection.Collection.new.Goals as goal

pub invariant_of-result : goal.invariant_of-result
invariant_of-result c =
    rw (c.new.ensures, c.new-2.ensures, c.new-4.ensures.items) (
      whole_none c.args.name c.args.schema,
      known_none c.new-3.result,
      marked_none,
    )
