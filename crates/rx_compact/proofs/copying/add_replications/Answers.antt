use Rattle.std.proofs.Common.{◌∙◌, ◌+◌, ◌∷◌, ◌++◌, ap, sym, drop, List, [], ℕ, map, arith}
use Rattle.rx_world.specs.declared.replication.Replication.{Replication}
use Rattle.rx_record.specs.Content.{Content}
use Rattle.rx_record.specs.Shown.{content}
use Rattle.rx_store.proofs.Stops.{handed_on, memory_stop}
use Rattle.rx_world.specs.Holders.{world_in}
use Rattle.rx_compact.specs.Plan.{replication_record}
use Rattle.rx_compact.proofs.Left.{map_end, map_next}
use Rattle.rx_compact.proofs.Ongoing.{all_added, nothing_yet, some_more, starved, still_going, stopped}
use Rattle.rx_compact.proofs.copying.add_replications.Goals as goal

pub loop-at-init : goal.loop-at-init
loop-at-init g c =
    nothing_yet g.D.Disk c.args.disk.now c.args.copy
    (map (λ (e : List ℕ × Replication). replication_record e.1)
    (world_in g.H.Holder.held c.args.world.now).replications)

pub returns-in_err-entry : goal.returns-in_err-entry
returns-in_err-entry g c =
    starved g.D.Disk c.args.disk.now c.args.copy _ c.loop-at.disk c.loop-at.copy _
    c.from_residual.result
    (memory_stop c.from_residual.result c.from_residual.ensures.1)
    c.loop-at.invariant

pub add-requires-clause-going : goal.add-requires-clause-going
add-requires-clause-going g c =
    still_going g.D.Disk c.args.disk.now c.args.copy _ c.loop-at.disk c.loop-at.copy _
    c.loop-at.invariant c.requires.going

pub returns-in_err-copy : goal.returns-in_err-copy
returns-in_err-copy g c =
    stopped g.D.Disk c.args.disk.now c.args.copy _ c.loop-at.disk c.add.new.disk c.loop-at.copy _
    (content c.in_ok-entry.entry ∷ []) _ c.from_residual-in_err-copy.result c.in_err-copy.field-0.0
    (handed_on c.from_residual-in_err-copy.result c.in_err-copy.field-0.0
    c.from_residual-in_err-copy.ensures.1)
    (map_next (world_in g.H.Holder.held c.args.world.now).replications
    (λ (e : List ℕ × Replication). replication_record e.1) c.loop-at.at
    (c.replication_at.result.now.name, c.replication_at.result.now)
    c.replication_at.ensures
    ∙ ap (λ (x : Content). (x ∷ []) ++ map (λ (e : List ℕ × Replication). replication_record e.1)
    (drop (c.loop-at.at + 1) (world_in g.H.Holder.held c.args.world.now).replications))
    (sym (c.in_ok-entry.ensures)))
    c.loop-at.invariant c.in_err-copy.ensures

pub loop-at-preserved : goal.loop-at-preserved
loop-at-preserved g c =
    some_more g.D.Disk c.args.disk.now c.args.copy _ c.loop-at.disk c.add.new.disk c.loop-at.copy
    c.in_ok-copy.copy _ (content c.in_ok-entry.entry ∷ []) _
    (map_next (world_in g.H.Holder.held c.args.world.now).replications
    (λ (e : List ℕ × Replication). replication_record e.1) c.loop-at.at
    (c.replication_at.result.now.name, c.replication_at.result.now)
    c.replication_at.ensures
    ∙ ap (λ (x : Content). (x ∷ []) ++ map (λ (e : List ℕ × Replication). replication_record e.1)
    (drop (c.loop-at.at + 1) (world_in g.H.Holder.held c.args.world.now).replications))
    (sym (c.in_ok-entry.ensures)))
    c.loop-at.invariant c.in_ok-copy.ensures

pub returns : goal.returns
returns g c =
    all_added g.D.Disk c.args.disk.now c.args.copy _ c.loop-at.disk c.loop-at.copy _
    (map_end (world_in g.H.Holder.held c.args.world.now).replications
    (λ (e : List ℕ × Replication). replication_record e.1) c.loop-at.at
    (omega (arith, c.loop-at-test.false, c.replications-at-end.ensures)))
    c.loop-at.invariant
