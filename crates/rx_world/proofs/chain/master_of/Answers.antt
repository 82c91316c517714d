use Rattle.std.proofs.Common.{List, ap, sym, ◌∙◌}
use Rattle.std.specs.Str.{bytes_eq}
use Rattle.rx_tree.specs.Forest.{master_of}
use Rattle.rx_world.specs.Chain.{local_forks}
use Rattle.rx_world.specs.declared.replication.Replication.{Replication}
use Rattle.rx_world.proofs.Forks.{values_of-by_bytes}
use Rattle.rx_world.proofs.Trees.{found_here}
use Rattle.rx_world.proofs.chain.master_of.Goals as goal

pub returns-in-Some-followed_by : goal.returns-in-Some-followed_by
returns-in-Some-followed_by c =
    let fork = c.args.fork.now in
    let r = c.in-Some.replication.now in
    let told : List Replication → _ = λ rs. master_of bytes_eq (local_forks rs) fork in
    sym (ap told (sym (values_of-by_bytes c.args.replications.now.entries))
    ∙ c.loop-replication.invariant.0
    ∙ ap told c.in-Some.ensures.steps
    ∙ found_here r.fork r.master (local_forks c.next.new.self) fork c.in-Some-followed_by.master.now
    (sym c.in-Some-followed_by.ensures))

pub returns : goal.returns
returns c =
    let told : List Replication → _ = λ rs. master_of bytes_eq (local_forks rs) c.args.fork.now in
    sym (ap told (sym (values_of-by_bytes c.args.replications.now.entries))
    ∙ c.loop-replication.invariant.0
    ∙ ap told c.in-None.ensures.steps.0)
