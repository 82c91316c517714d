use Rattle.std.proofs.Common.{sym, add-one, arith, rules}
use Rattle.std.proofs.lemmas.Slice.Eq.{bytes_eq-Decides}
use Rattle.std.specs.Str.{bytes_eq}
use Rattle.rx_tree.proofs.Climbing.{climb_end}
use Rattle.rx_value.specs.Named.{by_bytes}
use Rattle.rx_world.specs.Chain.{forest_of}
use Rattle.rx_world.proofs.Trees.{forks_few, root_at, root_after}
use Rattle.rx_world.proofs.chain.tree_root.Goals as goal

pub loop-step-preserved : goal.loop-step-preserved
loop-step-preserved c = record {
  climbs =
      rw add-one (climb_end bytes_eq bytes_eq-Decides c.loop-step._step
      (forest_of (by_bytes c.args.replications.now.entries)) c.args.name.now c.loop-step.at.now
      c.in-Some.master.now c.loop-step.invariant.climbs (sym c.in-Some.ensures));
  text = search rules;
}

pub returns-in-None : goal.returns-in-None
returns-in-None c =
    sym (root_at (forest_of (by_bytes c.args.replications.now.entries)) c.requires c.loop-step._step
    c.args.name.now c.loop-step.at.now c.loop-step.invariant.climbs (sym c.in-None.ensures))

pub returns : goal.returns
returns c =
    sym (root_after (forest_of (by_bytes c.args.replications.now.entries)) c.requires
    c.loop-step._step c.args.name.now
    c.loop-step.at.now
    (omega (
      arith,
      forks_few c.args.replications.now.entries,
      c.loop-step-test.false,
      c.len-step-end.ensures,
    ))
    c.loop-step.invariant.climbs)
