use Rattle.std.proofs.Common.{take, sym, subst}
use Rattle.rx_planner.proofs.Lists.{take_up_to}
use Rattle.rx_observe.proofs.Indexing.{AreMade, one_more}
use Rattle.rx_observe.proofs.indexes.indexes_of.Goals as goal

pub loop-i-preserved : goal.loop-i-preserved
loop-i-preserved c =
    let held = c.args.collection.now in
    let i = c.loop-i.i in
    let of = c.index.result.now in
    let all = c.schema-schema.result.now.indexes in
    let now = c.push.new.self.items in
    let inv = c.loop-i.invariant in
    record {
      lawful = inv.lawful;
      made =
          subst (λ fs. AreMade held fs now) (sym (take_up_to all i of c.index.ensures))
          (one_more held (take i all) of c.loop-i.indexes.items now c.in_ok-index_by.field-0 inv.made
          c.in_ok-index_by.ensures.index c.in_ok-push.ensures.items);
    }
