use Rattle.std.proofs.Common.{ℕ, ◌+◌, List, ◌++◌, length, drop, ap, arith}
use Rattle.rx_journal.proofs.Holds.{ahead_now, if_either, if_true, then_ahead}
use Rattle.rx_journal.proofs.record.hold_whole.Goals as goal

pub hold-requires-clause-room : goal.hold-requires-clause-room
hold-requires-clause-room g c =
    if_true c.in_ok-make_way.field-0 _ _ c.if-not-branch.false c.in_ok-make_way.ensures.wide

pub returns-clause-ahead : goal.returns-clause-ahead
returns-clause-ahead g c = λ told.
    let place = c.args.place in
    let content = g.D.Disk.content c.args.disk.now in
    then_ahead c.args.window.now c.make_way.new.window c.hold.new.self place content
    (g.D.Disk.content c.make_way.new.disk) (c.make_way.ensures.same told)
    (ap (λ (l : List ℕ). l ++ drop (place + length l) content) c.make_way.ensures.held)
    (c.hold.ensures.ahead told)

pub returns-in_err-hold-clause-ahead : goal.returns-in_err-hold-clause-ahead
returns-in_err-hold-clause-ahead g c = λ told.
    let place = c.args.place in
    let content = g.D.Disk.content c.args.disk.now in
    then_ahead c.args.window.now c.make_way.new.window c.hold.new.self place content
    (g.D.Disk.content c.make_way.new.disk) (c.make_way.ensures.same told)
    (ap (λ (l : List ℕ). l ++ drop (place + length l) content) c.make_way.ensures.held)
    (c.hold.ensures.ahead told)

pub returns-clause-whole : goal.returns-clause-whole
returns-clause-whole g c =
    let first = c.args.window.now in
    let mid = c.make_way.new.window in
    let place = c.args.place in
    let content = g.D.Disk.content c.args.disk.now in
    if_either c.in_ok-hold.field-0 _ _ _
    (λ cut told.
    let none = cut told in
    let all = ahead_now first mid place content (g.D.Disk.content c.make_way.new.disk)
    (c.make_way.ensures.same told)
    (ap (λ (l : List ℕ). l ++ drop (place + length l) content) c.make_way.ensures.held) in
    omega (arith, none.1, ap length none.0, ap length all))
    c.in_ok-hold.ensures.whole
