use Rattle.std.proofs.Common.{◌≡◌, ◌∙◌, ◌++◌, ◌∷◌, Err, sym, refl, ap, subst, arith, rules, [], length, length-append}
use Rattle.rx_top.specs.Reader.{StopsBy, TakesKept, rest_of, max_input_bytes}
use Rattle.rx_top.specs.declared.early_end.ReadFault.{ReadFault}
use Rattle.rx_top.specs.declared.early_end.ReadFault.TheVariants as fault
use Rattle.rx_top.proofs.Coming.{comes_line, comes_all, comes_on, comes_rest, fault_of, stops_by, took_more, took_long, same_err}
use Rattle.rx_top.proofs.reader.Reader.next.Goals as goal

pub returns-then-branch-clause-next : goal.returns-then-branch-clause-next
returns-then-branch-clause-next g c = λ told.
    comes_line c.pieces.self c.advance.new.self _ (g.S.Source.left c.pieces.source)
    (c.pieces.invariant.coming told)
    (rw c.if-branch.true at c.in_ok-advance.ensures.advances)

pub pieces-preserved : goal.pieces-preserved
pieces-preserved g c =
    let adv = rw c.if-branch.false at c.in_ok-advance.ensures.advances in
    record {
      coming = λ told. comes_on c.advance.new.self.line c.fill.new.self.line _
          (g.S.Source.left c.pieces.source) _
          c.in-Ok-true.ensures.line (c.in-Ok-true.ensures.more told)
          (comes_all c.pieces.self c.advance.new.self _ (g.S.Source.left c.pieces.source)
          (c.pieces.invariant.coming told) adv);
      took = λ told. took_more c.args.self.now.given c.pieces.self.given c.fill.new.self.given _
          (g.S.Source.left c.pieces.source) _
          c.fill.new.self.unread (c.pieces.invariant.took told) (c.in-Ok-true.ensures.more told)
          (search rules);
      count = search rules;
      given = omega (
        arith,
        c.in-Ok-true.ensures.given,
        c.in_ok-advance.ensures.given,
        c.pieces.invariant.given,
      );
      piece = search rules;
      within = search rules;
    }

pub returns-in-Ok-false-clause-next : goal.returns-in-Ok-false-clause-next
returns-in-Ok-false-clause-next g c = λ told.
    let adv = rw c.if-branch.false at c.in_ok-advance.ensures.advances in
    let come = comes_all c.pieces.self c.advance.new.self _ (g.S.Source.left c.pieces.source)
    (c.pieces.invariant.coming told) adv in
    let none : g.S.Source.left c.pieces.source ≡ [] = search rules in
    let found : TakesKept (rest_of c.fill.new.self.line) c.fill.new.self.line
    (c.args.self.now.unread ++ g.S.Source.left c.args.source.now) (c.fill.new.self.unread
    ++ g.S.Source.left c.fill.new.source) =
    comes_rest c.fill.new.self.line _ (g.S.Source.left c.pieces.source) _
    (comes_on _ _ _ _ _ c.in-Ok-false.ensures.line refl come) none
    (sym (c.in-Ok-false.ensures.more told) ∙ none) in
    rw c.rest.ensures found

pub returns-in-Ok-false-clause-took : goal.returns-in-Ok-false-clause-took
returns-in-Ok-false-clause-took g c = λ told.
    took_more c.args.self.now.given c.pieces.self.given c.fill.new.self.given _
    (g.S.Source.left c.pieces.source) _
    c.fill.new.self.unread (c.pieces.invariant.took told) (c.in-Ok-false.ensures.more told)
    (search rules)

pub returns-in-Err-clause-stops : goal.returns-in-Err-clause-stops
returns-in-Err-clause-stops g c told why is =
    let adv = rw c.if-branch.false at c.in_ok-advance.ensures.advances in
    let same : c.in-Err.fault ≡ why = cc in
    subst (λ (f : ReadFault).
    StopsBy f (c.args.self.now.unread ++ g.S.Source.left c.args.source.now)
    (g.S.Source.left c.fill.new.source)) same
    (stops_by c.advance.new.self.line _ (g.S.Source.left c.pieces.source) _
    (comes_all c.pieces.self c.advance.new.self _ (g.S.Source.left c.pieces.source)
    (c.pieces.invariant.coming told) adv) c.in-Err.fault
    (λ short. c.in-Err.ensures.keeps told
    (λ long. short (fault_of c.in-Err.fault fault.TooLong long)))
    (λ long. (c.in-Err.ensures.too_long (ap Err long)).1 told))

pub returns-in-Err-clause-too_long : goal.returns-in-Err-clause-too_long
returns-in-Err-clause-too_long g c = λ told is.
    took_long c.args.self.now.given c.pieces.self.given max_input_bytes _
    (g.S.Source.left c.pieces.source) _
    (c.pieces.invariant.took told) (sym c.in_ok-advance.ensures.given
    ∙ (c.in-Err.ensures.too_long (same_err c.in-Err.fault _ is)).0)
    ((c.in-Err.ensures.too_long (same_err c.in-Err.fault _ is)).1 told)

pub returns-then-branch-clause-piece : goal.returns-then-branch-clause-piece
returns-then-branch-clause-piece g c =
    let adv = rw c.if-branch.true at c.in_ok-advance.ensures.advances in
    omega (
      arith,
      c.pieces.invariant.piece,
      ap length adv.1,
      length-append adv.0 (10 ∷ c.advance.new.self.unread),
    )
