use Rattle.std.proofs.Common.{◌∙◌, true, false, ap, sym, subst}
use Rattle.rx_value.specs.Named.{named, put_in_order}
use Rattle.rx_runs.specs.Marked.{Marked, sides, all_slots, with_mark, AreSides, IsSide}
use Rattle.rx_runs.proofs.Sides.{added_marked, added_plain, all_with, sides_marked, sides_plain}
use Rattle.rx_runs.proofs.marked.MarkedRun.add.Goals as goal

pub invariant_of-self : goal.invariant_of-self
invariant_of-self c =
    let m = sides c.self.inside.plain c.self.inside.marked in
    let name = c.args.name.now in
    let put = c.in_ok-put.ensures.ok in
    let none = ap (λ (n : Marked). named (all_slots n) name) c.self.view_is ∙ c.requires in
    subst AreSides
    (sym (ap (sides m.plain) put ∙ added_marked m c.self.invariant name c.args.slot none))
    (sides_marked m c.self.invariant name c.args.slot
    (subst IsSide put c.in_ok-put.ensures.lawful))

pub invariant_of-self-in-Continue-branch-2 : goal.invariant_of-self-in-Continue-branch-2
invariant_of-self-in-Continue-branch-2 c =
    let m = sides c.self.inside.plain c.self.inside.marked in
    let name = c.args.name.now in
    let put = c.in_ok-put-2.ensures.ok in
    let none = ap (λ (n : Marked). named (all_slots n) name) c.self.view_is ∙ c.requires in
    subst AreSides
    (sym (ap (λ es. sides es m.marked) put
    ∙ added_plain m c.self.invariant name c.args.slot none))
    (sides_plain m c.self.invariant name c.args.slot
    (subst IsSide put c.in_ok-put-2.ensures.lawful))

pub returns-in_ok-put-clause-ok : goal.returns-in_ok-put-clause-ok
returns-in_ok-put-clause-ok c =
    let m = sides c.self.inside.plain c.self.inside.marked in
    let name = c.args.name.now in
    let none = ap (λ (n : Marked). named (all_slots n) name) c.self.view_is ∙ c.requires in
    ap (sides m.plain) c.in_ok-put.ensures.ok
    ∙ added_marked m c.self.invariant name c.args.slot none
    ∙ (λ i. with_mark (c.self.view_is i) name c.args.slot (sym c.if-mark.true i))

pub returns-in_ok-put-clause-all : goal.returns-in_ok-put-clause-all
returns-in_ok-put-clause-all c =
    let m = sides c.self.inside.plain c.self.inside.marked in
    let name = c.args.name.now in
    let none = ap (λ (n : Marked). named (all_slots n) name) c.self.view_is ∙ c.requires in
    ap all_slots (ap (sides m.plain) c.in_ok-put.ensures.ok
    ∙ added_marked m c.self.invariant name c.args.slot none)
    ∙ all_with m c.self.invariant name c.args.slot true
    ∙ ap (λ (n : Marked). put_in_order (all_slots n) name c.args.slot) c.self.view_is

pub returns-in_ok-put-2-clause-ok : goal.returns-in_ok-put-2-clause-ok
returns-in_ok-put-2-clause-ok c =
    let m = sides c.self.inside.plain c.self.inside.marked in
    let name = c.args.name.now in
    let none = ap (λ (n : Marked). named (all_slots n) name) c.self.view_is ∙ c.requires in
    ap (λ es. sides es m.marked) c.in_ok-put-2.ensures.ok
    ∙ added_plain m c.self.invariant name c.args.slot none
    ∙ (λ i. with_mark (c.self.view_is i) name c.args.slot (sym c.if-mark.false i))

pub returns-in_ok-put-2-clause-all : goal.returns-in_ok-put-2-clause-all
returns-in_ok-put-2-clause-all c =
    let m = sides c.self.inside.plain c.self.inside.marked in
    let name = c.args.name.now in
    let none = ap (λ (n : Marked). named (all_slots n) name) c.self.view_is ∙ c.requires in
    ap all_slots (ap (λ es. sides es m.marked) c.in_ok-put-2.ensures.ok
    ∙ added_plain m c.self.invariant name c.args.slot none)
    ∙ all_with m c.self.invariant name c.args.slot false
    ∙ ap (λ (n : Marked). put_in_order (all_slots n) name c.args.slot) c.self.view_is
