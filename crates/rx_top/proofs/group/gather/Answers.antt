use Rattle.std.proofs.Common.{◌≡◌, ◌∙◌, ◌+◌, List, ℕ, [], ◌∷◌, length, true, refl, sym, ap, subst, length-append, rules, arith}
use Rattle.rx_engine.specs.Engine.{session_of}
use Rattle.rx_handler.specs.Shown.{kinds_of}
use Rattle.rx_store.proofs.Staged.{adds_none}
use Rattle.rx_top.specs.Group.{AddsOne, Gathers, StaysGroup}
use Rattle.rx_top.specs.Reader.{Reading, TakesRead}
use Rattle.rx_top.proofs.Gathering.{adds_left, adds_line, gathering_none, gathering_on, gathers_alone, gathers_none, gathers_whole}
use Rattle.rx_top.proofs.group.gather.Goals as goal

-- ---- no line that ended

pub returns-in_default-clause-gathers : goal.returns-in_default-clause-gathers
returns-in_default-clause-gathers g c old left takes =
    gathers_none (kinds_of c.args.handlers.now) c.args.number old left c.args.engine c.args.next
    c.args.reader.now _ takes refl refl refl (search rules)

pub returns-in_default-clause-adds : goal.returns-in_default-clause-adds
returns-in_default-clause-adds g c =
    ([], adds_none c.args.engine.journal (session_of c.args.engine).world)

pub returns-in_default-clause-leads : goal.returns-in_default-clause-leads
returns-in_default-clause-leads g c = record {
  bounded = omega arith;
  given = refl;
  shorter = omega arith;
  count = omega arith;
  count_alone = λ is. omega arith;
  ended = λ is. cc;
  last = λ some. refl;
}

pub lines-init : goal.lines-init
lines-init g c = record {
  gathers = λ old left takes.
      gathering_none (kinds_of c.args.handlers.now) c.args.number old left c.args.engine
      c.args.reader.now _ (rw c.in-Line.is at takes) refl refl refl (search rules);
  adds = ([], adds_none c.args.engine.journal (session_of c.args.engine).world);
  given = refl;
  shorter = omega arith;
  count = omega arith;
  first = omega arith;
  few = omega arith;
}

-- ---- a line that has to be played alone

pub returns-then-not-played-clause-gathers : goal.returns-then-not-played-clause-gathers
returns-then-not-played-clause-gathers g c old left takes =
    gathers_alone (kinds_of c.args.handlers.now) c.args.number old left c.args.engine
    c.lines.reader c.lines.group c.in_ok-added.added c.args.next c.in-Line.is
    (c.lines.invariant.gathers old left takes)
    (rw c.if-not-played.true at c.in_ok-added.ensures)

pub returns-then-not-played-clause-adds : goal.returns-then-not-played-clause-adds
returns-then-not-played-clause-adds g c =
    adds_left c.args.engine c.lines.group c.in_ok-added.added c.lines.invariant.adds
    (rw c.if-not-played.true at c.in_ok-added.ensures)

pub returns-then-not-played-clause-leads : goal.returns-then-not-played-clause-leads
returns-then-not-played-clause-leads g c =
    let inv = c.lines.invariant in
    let stays : StaysGroup c.lines.group c.in_ok-added.added =
    rw c.if-not-played.true at c.in_ok-added.ensures in
    record {
      bounded = omega (arith, stays.number, inv.few);
      given = inv.given;
      shorter = inv.shorter;
      count = omega (arith, stays.number, inv.count);
      count_alone = λ _. omega (arith, stays.number, inv.count);
      ended = λ is. c.in-Line.is;
      last = λ some. absurd (some c.in-Line.is);
    }

-- ---- the last line of a group that is full

pub returns-then-is_full-clause-gathers : goal.returns-then-is_full-clause-gathers
returns-then-is_full-clause-gathers g c old left takes =
    let kinds = kinds_of c.args.handlers.now in
    let adds : AddsOne kinds c.line.result.now c.lines.group c.in_ok-added.added =
    rw c.if-not-played.false at c.in_ok-added.ensures in
    gathers_whole kinds c.args.number old left c.args.engine c.lines.reader c.lines.group
    c.in_ok-added.added c.args.next c.in-Line.is (c.lines.invariant.gathers old left takes)
    (subst (λ (l : List ℕ). AddsOne kinds l c.lines.group c.in_ok-added.added) c.line.ensures adds)

pub returns-then-is_full-clause-adds : goal.returns-then-is_full-clause-adds
returns-then-is_full-clause-adds g c =
    let kinds = kinds_of c.args.handlers.now in
    adds_line c.args.engine c.lines.group c.in_ok-added.added c.lines.invariant.adds kinds
    c.line.result.now (rw c.if-not-played.false at c.in_ok-added.ensures)

pub returns-then-is_full-clause-leads : goal.returns-then-is_full-clause-leads
returns-then-is_full-clause-leads g c =
    let inv = c.lines.invariant in
    let adds : AddsOne (kinds_of c.args.handlers.now) c.line.result.now c.lines.group
    c.in_ok-added.added = rw c.if-not-played.false at c.in_ok-added.ensures in
    record {
      bounded = omega (arith, adds.number, inv.few);
      given = inv.given;
      shorter = inv.shorter;
      count = omega (arith, adds.number, inv.count);
      count_alone = λ is. cc;
      ended = λ is. c.in-Line.is;
      last = λ some. absurd (some c.in-Line.is);
    }

-- ---- the last line that was read whole

pub returns-then-not-branch-clause-gathers : goal.returns-then-not-branch-clause-gathers
returns-then-not-branch-clause-gathers g c old left takes =
    let kinds = kinds_of c.args.handlers.now in
    let adds : AddsOne kinds c.line.result.now c.lines.group c.in_ok-added.added =
    rw c.if-not-played.false at c.in_ok-added.ensures in
    let none = c.in_ok-take_read.ensures.none c.if-not-branch.true in
    subst (λ (r : Reading). Gathers kinds c.args.next c.args.number old left r c.args.engine
    c.in_ok-added.added true) (sym none)
    (gathers_whole kinds c.args.number old left c.args.engine c.lines.reader c.lines.group
    c.in_ok-added.added c.args.next c.in-Line.is (c.lines.invariant.gathers old left takes)
    (subst (λ (l : List ℕ). AddsOne kinds l c.lines.group c.in_ok-added.added) c.line.ensures
    adds))

pub returns-then-not-branch-clause-adds : goal.returns-then-not-branch-clause-adds
returns-then-not-branch-clause-adds g c =
    let kinds = kinds_of c.args.handlers.now in
    adds_line c.args.engine c.lines.group c.in_ok-added.added c.lines.invariant.adds kinds
    c.line.result.now (rw c.if-not-played.false at c.in_ok-added.ensures)

pub returns-then-not-branch-clause-leads : goal.returns-then-not-branch-clause-leads
returns-then-not-branch-clause-leads g c =
    let inv = c.lines.invariant in
    let adds : AddsOne (kinds_of c.args.handlers.now) c.line.result.now c.lines.group
    c.in_ok-added.added = rw c.if-not-played.false at c.in_ok-added.ensures in
    let same = ap (λ (r : Reading). length r.unread)
    (c.in_ok-take_read.ensures.none c.if-not-branch.true) in
    record {
      bounded = omega (arith, adds.number, inv.few);
      given = c.in_ok-take_read.ensures.given ∙ inv.given;
      shorter = omega (arith, same, inv.shorter);
      count = omega (arith, adds.number, same, inv.count);
      count_alone = λ is. cc;
      ended = λ is. c.in-Line.is;
      last = λ some. absurd (some c.in-Line.is);
    }

-- ---- there is another

pub lines-preserved : goal.lines-preserved
lines-preserved g c =
    let kinds = kinds_of c.args.handlers.now in
    let inv = c.lines.invariant in
    let adds : AddsOne kinds c.line.result.now c.lines.group c.in_ok-added.added =
    rw c.if-not-played.false at c.in_ok-added.ensures in
    let read : TakesRead c.lines.reader c.take_read.new.self =
    c.in_ok-take_read.ensures.taken c.if-not-branch.false in
    let shorter : length c.lines.reader.unread
    ≡ length read.0 + (1 + length c.take_read.new.self.unread) =
    omega (arith, ap length read.1, length-append read.0 (10 ∷ c.take_read.new.self.unread)) in
    record {
      gathers = λ old left takes.
          gathering_on kinds c.args.number old left c.args.engine c.lines.reader c.lines.group
          c.in_ok-added.added c.args.next c.in-Line.is (inv.gathers old left takes)
          (subst (λ (l : List ℕ). AddsOne kinds l c.lines.group c.in_ok-added.added)
          c.line.ensures adds) c.take_read.new.self read;
      adds = adds_line c.args.engine c.lines.group c.in_ok-added.added inv.adds kinds
          c.line.result.now adds;
      given = search rules;
      shorter = omega (arith, shorter, inv.shorter);
      count = omega (arith, shorter, adds.number, inv.count);
      first = omega (arith, adds.number, inv.first);
      few = search rules;
    }

pub lines-smaller : goal.lines-smaller
lines-smaller g c =
    let read : TakesRead c.lines.reader c.take_read.new.self =
    c.in_ok-take_read.ensures.taken c.if-not-branch.false in
    omega (arith, ap length read.1, length-append read.0 (10 ∷ c.take_read.new.self.unread))
