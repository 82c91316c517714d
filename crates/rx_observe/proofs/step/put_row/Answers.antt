use Rattle.std.proofs.Common.{◌≡◌, OnOk, sym, subst}
use Rattle.rx_document.specs.declared.change.Change.{Change}
use Rattle.rx_collection.specs.Commit.{with_row}
use Rattle.rx_collection.specs.Held.{Held}
use Rattle.rx_observe.specs.Indexes.{AreIndexesOf}
use Rattle.rx_observe.specs.Observing.{each}
use Rattle.rx_observe.specs.Watched.{stepped}
use Rattle.rx_observe.proofs.Steps.{all_follow}
use Rattle.rx_observe.proofs.step.put_row.Goals as goal

pub step_all-requires-clause-follow : goal.step_all-requires-clause-follow
step_all-requires-clause-follow c =
    all_follow c.args.collection.now c.put-2.new.self c.args.row c.args.queries.now.items
    c.align.new.fronts.items c.in_ok-change.change c.requires.indexed.lawful c.requires.next
    c.requires.right
    (c.align.ensures.kept c.args.collection.now c.args.queries.now.items c.requires.fronts)
    c.in_ok-change.ensures c.in_ok-put.ensures.ok

pub step_all-requires-clause-indexed : goal.step_all-requires-clause-indexed
step_all-requires-clause-indexed c =
    let indexes = c.put_in_each.new.indexes.items in
    subst (AreIndexesOf c.put-2.new.self) (sym c.as_slice.ensures.value)
    (subst (λ (d : Held). AreIndexesOf d indexes) (sym c.in_ok-put.ensures.ok)
    c.in_ok-put_in_each.ensures)

pub returns-clause-queries : goal.returns-clause-queries
returns-clause-queries c =
    let held = c.args.collection.now in
    let row = c.args.row in
    let before = c.args.queries.now.items in
    let now = c.step_all.new.queries.items in
    subst (λ (x : Change). OnOk c.step_all.result
    (now ≡ each (stepped (with_row held row).documents x) before)) c.in_ok-change.ensures
    (subst (λ (d : Held). OnOk c.step_all.result
    (now ≡ each (stepped d.documents c.in_ok-change.change) before)) c.in_ok-put.ensures.ok
    c.step_all.ensures.queries)
