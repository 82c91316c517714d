use Rattle.std.proofs.Common.{◌≡◌, ◌∙◌, [], ◌∷◌, ◌++◌, ap, sym, subst, refl, map, drop, ◌+◌, Some, None}
use Rattle.std.specs.List.{IsDistinct}
use Rattle.std.specs.Str.{bytes_eq}
use Rattle.rx_value.proofs.Lists.{from_item, moved, ended}
use Rattle.rx_replication.specs.Master.{conflict_of, conflicts, writes}
use Rattle.rx_replication.proofs.Distinct.{writes_differ}
use Rattle.rx_master.proofs.Rows.{writes-taken, writes-refused, conflicts-taken, conflicts-refused}
use Rattle.rx_master.proofs.plan.take.Goals as goal
use Rattle.rx_master.proofs.plan.take.Goals.{in-Some+in_ok-copy-in-Some+in_ok-push-in-Some, in-None+in_ok-copy-in-None+in_ok-push-in-None}

pub loop-row-preserved : goal.loop-row-preserved
loop-row-preserved c =
    let master = c.args.collection.now.documents in
    let rows = c.args.rows.now in
    let row = c.row-item.result in
    let i = c.loop-row.row-index in
    let rest = drop (i + 1) rows in
    let next = from_item rows i row c.loop-row-test.true c.row-item.is in
    let before = c.loop-row.invariant in
    elim c.match-conflict_of.branch [
      | in-Some+in_ok-copy-in-Some+in_ok-push-in-Some w ↦
          let real = w.in-Some.real.now in
          let met : conflict_of master row ≡ Some real = sym w.in-Some.ensures in
          let copied : w.in_ok-copy-in-Some.field-0 ≡ real = w.in_ok-copy-in-Some.ensures in
          record {
            writes = rw w.plan-is
                (ap (λ ss. c.loop-row.plan.writes ++ ss) (sym (ap (writes master) next
                ∙ writes-refused master row rest real met)) ∙ before.writes);
            conflicts = rw w.plan-is
                (moved c.loop-row.plan.conflicts _ (conflicts master rest)
                (conflicts master (drop i rows)) (conflicts master rows) real
                (w.in_ok-push-in-Some.ensures.ok
                ∙ ap (λ s. c.loop-row.plan.conflicts ++ s ∷ []) copied)
                (ap (conflicts master) next ∙ conflicts-refused master row rest real met)
                before.conflicts);
          }
      | in-None+in_ok-copy-in-None+in_ok-push-in-None w ↦
          let free : conflict_of master row ≡ None = sym w.in-None.ensures in
          let copied : w.in_ok-copy-in-None.field-0 ≡ row.new = w.in_ok-copy-in-None.ensures in
          record {
            writes = rw w.plan-is
                (moved c.loop-row.plan.writes _ (writes master rest)
                (writes master (drop i rows)) (writes master rows) row.new
                (w.in_ok-push-in-None.ensures.ok
                ∙ ap (λ s. c.loop-row.plan.writes ++ s ∷ []) copied)
                (ap (writes master) next ∙ writes-taken master row rest free)
                before.writes);
            conflicts = rw w.plan-is
                (ap (λ ss. c.loop-row.plan.conflicts ++ ss) (sym (ap (conflicts master) next
                ∙ conflicts-taken master row rest free)) ∙ before.conflicts);
          }
    ]

pub returns-clause-writes : goal.returns-clause-writes
returns-clause-writes c =
    ended (writes c.args.collection.now.documents) c.args.rows.now c.loop-row.row-index
    c.loop-row.plan.writes (writes c.args.collection.now.documents c.args.rows.now) refl
    c.loop-row-test.false c.loop-row.invariant.writes

pub returns-clause-conflicts : goal.returns-clause-conflicts
returns-clause-conflicts c =
    ended (conflicts c.args.collection.now.documents) c.args.rows.now c.loop-row.row-index
    c.loop-row.plan.conflicts (conflicts c.args.collection.now.documents c.args.rows.now) refl
    c.loop-row-test.false c.loop-row.invariant.conflicts

pub returns-clause-distinct : goal.returns-clause-distinct
returns-clause-distinct c = λ differ.
    let master = c.args.collection.now.documents in
    subst (λ (ss : _). IsDistinct bytes_eq (map (λ s. s.key) ss))
    (sym (returns-clause-writes c)) (writes_differ master c.args.rows.now differ)
