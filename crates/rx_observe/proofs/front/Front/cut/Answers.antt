use Rattle.std.proofs.Common.{◌-◌, false, sym, ◌∙◌, subst, arith}
use Rattle.rx_observe.specs.Front.{IsFrontOf}
use Rattle.rx_observe.proofs.FrontLists.{cut_front, remove_last_is}
use Rattle.rx_observe.proofs.front.Front.cut.Goals as goal

pub returns-clause-first : goal.returns-clause-first
returns-clause-first c = λ all f.
    let rows = c.args.self.now.rows in
    let n = c.len-len.result - 1 in
    subst (λ rs. IsFrontOf rs false all)
    (sym (c.remove.ensures.rest ∙ remove_last_is n rows (omega arith)))
    (cut_front rows c.args.self.now.whole all n f)
