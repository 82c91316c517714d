use Rattle.std.proofs.Common.{◌++◌, [], ◌∷◌, length, length-take, length-append, sym, ap, ◌∙◌, subst, arith}
use Rattle.rx_observe.specs.Front.{AreFronts}
use Rattle.rx_observe.proofs.Beside.{fewer, one_empty}
use Rattle.rx_observe.proofs.front.align.Goals as goal

pub loop-i-init : goal.loop-i-init
loop-i-init c = record {
  many = search (arith, c.len-i.ensures);
  kept = λ d qs h.
      subst (AreFronts d qs) (sym c.truncate.ensures.items)
      (fewer d c.args.len qs c.args.fronts.now.items h);
}

pub loop-i-preserved : goal.loop-i-preserved
loop-i-preserved c =
    let before = c.loop-i.fronts.items in
    let items = c.in_ok-push.ensures.items ∙ ap (λ f. before ++ f ∷ []) c.none.ensures in
    let many = c.loop-i.invariant.many in
    record {
      many = ap length items ∙ simp length-append (omega arith);
      kept = λ d qs h.
          subst (AreFronts d qs) (sym items)
          (one_empty d qs before (c.loop-i.invariant.kept d qs h));
    }

pub returns-in_err-push-clause-kept : goal.returns-in_err-push-clause-kept
returns-in_err-push-clause-kept c = λ d qs h.
    subst (AreFronts d qs) (sym c.in_err-push.ensures.items) (c.loop-i.invariant.kept d qs h)

pub returns-clause-length : goal.returns-clause-length
returns-clause-length c =
    let many = c.loop-i.invariant.many in
    let few = ap length c.truncate.ensures.items
    ∙ length-take c.args.len c.args.fronts.now.items in
    omega arith

pub returns-clause-kept : goal.returns-clause-kept
returns-clause-kept c = c.loop-i.invariant.kept
