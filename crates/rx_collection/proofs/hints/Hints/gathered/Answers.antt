use Rattle.std.proofs.Common.{◌∙◌, ◌+◌, ap, arith, subst, sym, true≢false}
use Rattle.rx_collection.specs.Hints.{AreHinted}
use Rattle.rx_collection.specs.declared.hints.Hints.{Hints}
use Rattle.rx_collection.proofs.hints.Hints.gathered.Goals as goal
use Rattle.rx_collection.proofs.hints.Hints.gathered.Goals.{then-not-add, else-not-add}

pub loop-slot-preserved : goal.loop-slot-preserved
loop-slot-preserved c = λ whole. elim c.if-not-add.branch [
  | then-not-add w ↦
      absurd (true≢false (sym whole ∙ ap (λ (h : Hints). h.whole) w.hints-is))
  | else-not-add w ↦
      let before = sym c.add.ensures.whole ∙ sym (ap (λ (h : Hints). h.whole) w.hints-is) ∙ whole in
      subst (λ (h : Hints). AreHinted h.places.items c.args.rows.now (c.loop-slot.slot + 1))
      (sym w.hints-is) (c.add.ensures.added w.if-not-add.false (c.loop-slot.invariant before))
]

pub returns : goal.returns
returns c = λ whole s d lt there. c.loop-slot.invariant whole s d (omega arith) there
