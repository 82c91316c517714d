use Rattle.std.proofs.Common.{ap, sym, ◌∙◌, subst}
use Rattle.std.proofs.lemmas.Bool.{ne_eqb}
use Rattle.std.specs.Prelude.{◌==◌}
use Rattle.rx_tree.specs.Forest.{root_of, is_fork}
use Rattle.rx_tree.specs.Table.{IsTable}
use Rattle.rx_tree.proofs.Tables.{one_more}
use Rattle.rx_tree.proofs.tree.Tree.add.Goals as goal

pub invariant_of-self-2 : goal.invariant_of-self-2
invariant_of-self-2 c =
    let fork = c.args.fork in
    let master = c.args.master in
    let held = sym c.self.view_is in
    subst (IsTable c.join.new.roots) (sym c.in_ok-push.ensures.items)
    (one_more c.self.inside.roots c.join.new.roots c.self.inside.forks.items fork master
    c.root-under.result c.root-top.result c.self.invariant c.join.auto.roots c.join.ensures
    (c.root-under.ensures ∙ ap (λ es. root_of ◌==◌ es fork) held)
    (c.root-top.ensures ∙ ap (λ es. root_of ◌==◌ es master) held)
    (ap (λ es. is_fork ◌==◌ es fork) c.self.view_is ∙ sym c.if-is_fork.ensures)
    (ne_eqb c.root-top.result fork c.if-top-fork.false) c.requires.fork)
