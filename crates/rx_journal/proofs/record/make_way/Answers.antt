use Rattle.std.proofs.Common.{arith}
use Rattle.rx_journal.specs.Window.{held}
use Rattle.rx_journal.proofs.Held.{ahead_long, ahead_short}
use Rattle.rx_journal.proofs.Holds.{held_short, if_true, if_false}
use Rattle.rx_journal.proofs.record.make_way.Goals as goal

pub returns-then-not-branch-clause-wide : goal.returns-then-not-branch-clause-wide
returns-then-not-branch-clause-wide g c = λ told.
    let w = c.args.window.now in
    let end = if_false c.in_ok-has_byte.field-0 _ _ c.if-not-branch.true
    (c.in_ok-has_byte.ensures.there told) in
    ahead_short (held w) c.args.place c.args.count (g.D.Disk.content c.args.disk.now)
    (omega (arith, held_short w, c.if-count-room.false, c.room.ensures))
    (omega (arith, end, c.requires.some))

pub returns-in_err-widen-clause-memory : goal.returns-in_err-widen-clause-memory
returns-in_err-widen-clause-memory g c = λ told is.
    let w = c.args.window.now in
    let there = if_true c.in_ok-has_byte.field-0 _ _ c.if-not-branch.false
    (c.in_ok-has_byte.ensures.there told) in
    omega (
      arith,
      there,
      c.if-count-room.false,
      c.room.ensures,
      c.requires.some,
      ahead_long (held w) c.args.place (g.D.Disk.content c.args.disk.now),
    )

pub returns-clause-room : goal.returns-clause-room
returns-clause-room g c = λ told.
    let w = c.args.window.now in
    let there = if_true c.in_ok-has_byte.field-0 _ _ c.if-not-branch.false
    (c.in_ok-has_byte.ensures.there told) in
    omega (
      arith,
      there,
      c.in_ok-widen.ensures.room,
      c.requires.some,
      ahead_long (held w) c.args.place (g.D.Disk.content c.args.disk.now),
    )
