use Rattle.std.proofs.Common.{List, ℕ, arith}
use Rattle.std.specs.List.{flat_map}
use Rattle.rx_world.specs.declared.replication.Replication.{Replication}
use Rattle.rx_value.proofs.Lists.{all_get}
use Rattle.rx_world.specs.Linked.{IsLinked}
use Rattle.rx_store.proofs.Stops.{handed_on}
use Rattle.rx_world.specs.Holders.{world_in}
use Rattle.rx_compact.specs.Plan.{known_records}
use Rattle.rx_compact.proofs.Left.{flat_end, flat_next}
use Rattle.rx_compact.proofs.Ongoing.{all_added, nothing_yet, some_more, still_going, stopped}
use Rattle.rx_compact.proofs.copying.add_known.Goals as goal

pub loop-at-init : goal.loop-at-init
loop-at-init g c =
    nothing_yet g.D.Disk c.args.disk.now c.args.copy
    (flat_map (λ (e : List ℕ × Replication). known_records e.1)
    (world_in g.H.Holder.held c.args.world.now).replications)

pub add_known_of-requires-clause-going : goal.add_known_of-requires-clause-going
add_known_of-requires-clause-going g c =
    still_going g.D.Disk c.args.disk.now c.args.copy _ c.loop-at.disk c.loop-at.copy _
    c.loop-at.invariant c.requires.going

pub add_known_of-requires-clause-timed : goal.add_known_of-requires-clause-timed
add_known_of-requires-clause-timed g c =
    let w = world_in g.H.Holder.held c.args.world.now in
    let linked = all_get (λ (e : List ℕ × Replication). IsLinked w.collections e.0 e.1)
    w.replications c.loop-at.at (c.replication_at.result.now.name, c.replication_at.result.now)
    c.requires.made.linked.each c.replication_at.ensures in
    record { up = linked.up_has_time; down = linked.down_has_time }

pub returns-in_err-copy : goal.returns-in_err-copy
returns-in_err-copy g c =
    stopped g.D.Disk c.args.disk.now c.args.copy _ c.loop-at.disk c.add_known_of.new.disk
    c.loop-at.copy _
    (known_records c.replication_at.result.now) _ c.from_residual.result c.in_err-copy.field-0.0
    (handed_on c.from_residual.result c.in_err-copy.field-0.0 c.from_residual.ensures.1)
    (flat_next (world_in g.H.Holder.held c.args.world.now).replications
    (λ (e : List ℕ × Replication). known_records e.1) c.loop-at.at
    (c.replication_at.result.now.name, c.replication_at.result.now)
    c.replication_at.ensures)
    c.loop-at.invariant c.in_err-copy.ensures

pub loop-at-preserved : goal.loop-at-preserved
loop-at-preserved g c =
    some_more g.D.Disk c.args.disk.now c.args.copy _ c.loop-at.disk c.add_known_of.new.disk
    c.loop-at.copy c.in_ok-copy.copy _ (known_records c.replication_at.result.now) _
    (flat_next (world_in g.H.Holder.held c.args.world.now).replications
    (λ (e : List ℕ × Replication). known_records e.1) c.loop-at.at
    (c.replication_at.result.now.name, c.replication_at.result.now)
    c.replication_at.ensures)
    c.loop-at.invariant c.in_ok-copy.ensures

pub returns : goal.returns
returns g c =
    all_added g.D.Disk c.args.disk.now c.args.copy _ c.loop-at.disk c.loop-at.copy _
    (flat_end (world_in g.H.Holder.held c.args.world.now).replications
    (λ (e : List ℕ × Replication). known_records e.1) c.loop-at.at
    (omega (arith, c.loop-at-test.false, c.replications-at-end.ensures)))
    c.loop-at.invariant
