use Rattle.std.proofs.Common.{◌≡◌, ◌∙◌, ◌∷◌, ◌++◌, [], ap, sym, arith}
use Rattle.rx_record.specs.declared.record.PartRow.{PartRow}
use Rattle.rx_compact.specs.Plan.{most_in_part, part_row}
use Rattle.rx_compact.proofs.Taking.{last_taken, one_taken}
use Rattle.rx_compact.proofs.plan.next_rows.Goals as goal

pub loop-alloc-preserved : goal.loop-alloc-preserved
loop-alloc-preserved c =
    let rows = c.loop-alloc.rows.items in
    let next : c.loop-alloc.page ≡ c.in-Some.document.now ∷ c.next.new.self =
    c.in-Some.ensures.steps in (
      one_taken part_row c.args.page.now rows c.push.new.self.items c.loop-alloc.page
          c.next.new.self c.in-Some.document.now c.loop-alloc.invariant.0 next
          (c.in_ok-push-in-Some.ensures.items
          ∙ ap (λ (r : PartRow). rows ++ r ∷ []) c.in_ok-part_row-in-Some.ensures),
      omega (arith, c.in_ok-push-in-Some.ensures.len, c.loop-alloc-test.true),
    )

pub returns-in-None-clause-rows : goal.returns-in-None-clause-rows
returns-in-None-clause-rows c =
    (last_taken part_row c.args.page.now c.loop-alloc.rows.items c.loop-alloc.page most_in_part
    c.loop-alloc.invariant.0 c.in-None.ensures.steps.0 c.loop-alloc.invariant.1).0

pub returns-in-None-clause-left : goal.returns-in-None-clause-left
returns-in-None-clause-left c =
    let none = c.in-None.ensures.steps in
    none.1 ∙ sym none.0
    ∙ (last_taken part_row c.args.page.now c.loop-alloc.rows.items c.loop-alloc.page most_in_part
    c.loop-alloc.invariant.0 none.0 c.loop-alloc.invariant.1).1
