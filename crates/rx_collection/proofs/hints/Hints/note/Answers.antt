use Rattle.std.proofs.Common.{◌∙◌, arith, sym}
use Rattle.rx_collection.proofs.hints.Hints.note.Goals as goal

pub returns-else-not-add : goal.returns-else-not-add
returns-else-not-add c = record {
  placed = λ whole s d lt there.
      let before = sym c.add.ensures.whole ∙ whole in
      c.add.ensures.added c.if-not-add.false (c.make_room.ensures c.requires.known before) s d
      (omega (arith, c.requires.last)) there;
}
