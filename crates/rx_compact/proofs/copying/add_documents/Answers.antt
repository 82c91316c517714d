use Rattle.std.proofs.Common.{◌∙◌, ◌+◌, ◌++◌, ap, sym, drop, List, ℕ, arith}
use Rattle.std.specs.List.{flat_map}
use Rattle.rx_collection.specs.Held.{Held}
use Rattle.rx_store.proofs.Stops.{handed_on}
use Rattle.rx_world.specs.Holders.{world_in}
use Rattle.rx_compact.specs.Plan.{part_records}
use Rattle.rx_compact.proofs.Left.{flat_end, flat_next}
use Rattle.rx_compact.proofs.Ongoing.{all_added, nothing_yet, some_more, still_going, stopped}
use Rattle.rx_compact.proofs.copying.add_documents.Goals as goal

pub loop-at-init : goal.loop-at-init
loop-at-init g c =
    nothing_yet g.D.Disk c.args.disk.now c.args.copy
    (flat_map (λ (e : List ℕ × Held). part_records e.1)
    (world_in g.H.Holder.held c.args.world.now).collections)

pub add_documents_of-requires : goal.add_documents_of-requires
add_documents_of-requires g c = record {
  going =
      still_going g.D.Disk c.args.disk.now c.args.copy _ c.loop-at.disk c.loop-at.copy _
      c.loop-at.invariant c.requires.going;
}

pub returns-in_err-copy : goal.returns-in_err-copy
returns-in_err-copy g c =
    stopped g.D.Disk c.args.disk.now c.args.copy _ c.loop-at.disk c.add_documents_of.new.disk
    c.loop-at.copy _
    (part_records c.collection.result.now) _ c.from_residual.result c.in_err-copy.field-0.0
    (handed_on c.from_residual.result c.in_err-copy.field-0.0 c.from_residual.ensures.1)
    (flat_next (world_in g.H.Holder.held c.args.world.now).collections
    (λ (e : List ℕ × Held). part_records e.1) c.loop-at.at
    ((g.H.Holder.held c.holder_at.result.now).name, g.H.Holder.held c.holder_at.result.now)
    c.holder_at.ensures.found
    ∙ ap (λ (d : Held). part_records d ++ flat_map (λ (e : List ℕ × Held). part_records e.1)
    (drop (c.loop-at.at + 1) (world_in g.H.Holder.held c.args.world.now).collections))
    (sym c.collection.ensures))
    c.loop-at.invariant c.in_err-copy.ensures

pub loop-at-preserved : goal.loop-at-preserved
loop-at-preserved g c =
    some_more g.D.Disk c.args.disk.now c.args.copy _ c.loop-at.disk c.add_documents_of.new.disk
    c.loop-at.copy c.in_ok-copy.copy _ (part_records c.collection.result.now) _
    (flat_next (world_in g.H.Holder.held c.args.world.now).collections
    (λ (e : List ℕ × Held). part_records e.1) c.loop-at.at
    ((g.H.Holder.held c.holder_at.result.now).name, g.H.Holder.held c.holder_at.result.now)
    c.holder_at.ensures.found
    ∙ ap (λ (d : Held). part_records d ++ flat_map (λ (e : List ℕ × Held). part_records e.1)
    (drop (c.loop-at.at + 1) (world_in g.H.Holder.held c.args.world.now).collections))
    (sym c.collection.ensures))
    c.loop-at.invariant c.in_ok-copy.ensures

pub returns : goal.returns
returns g c =
    all_added g.D.Disk c.args.disk.now c.args.copy _ c.loop-at.disk c.loop-at.copy _
    (flat_end (world_in g.H.Holder.held c.args.world.now).collections
    (λ (e : List ℕ × Held). part_records e.1) c.loop-at.at
    (omega (arith, c.loop-at-test.false, c.len-at-end.ensures.count)))
    c.loop-at.invariant
