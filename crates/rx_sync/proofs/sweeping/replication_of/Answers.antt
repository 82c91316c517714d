use Rattle.std.proofs.Common.{◌∙◌, ◌+◌, List, ℕ, Bool, Some, cond, drop, sym, ap}
use Rattle.std.specs.Str.{bytes_eq}
use Rattle.rx_world.specs.Chain.{has_fork}
use Rattle.rx_world.specs.Holders.{world_in}
use Rattle.rx_sync.specs.Sweep.{entry_of}
use Rattle.rx_sync.proofs.SweepOrders.{found_next}
use Rattle.rx_sync.proofs.sweeping.replication_of.Goals as goal

pub returns-then-eq : goal.returns-then-eq
returns-then-eq g c =
    let fork = c.args.fork.now in
    let rs = (world_in g.H.Holder.held c.args.world.now).replications in
    let r = c.replication_at-replication.result.now in
    ap (λ (b : Bool). cond b (Some (r.name, r)) (entry_of (drop (c.loop-at.at + 1) rs) fork))
    (sym c.if-eq.true ∙ c.eq.ensures ∙ ap (λ (k : List ℕ). bytes_eq k fork) c.as_str.ensures)
    ∙ sym (found_next (λ e. has_fork fork e.1) rs c.loop-at.at (r.name, r)
    c.replication_at-replication.ensures)
    ∙ c.loop-at.invariant

pub loop-at-preserved : goal.loop-at-preserved
loop-at-preserved g c =
    let fork = c.args.fork.now in
    let rs = (world_in g.H.Holder.held c.args.world.now).replications in
    let r = c.replication_at-replication.result.now in
    ap (λ (b : Bool). cond b (Some (r.name, r)) (entry_of (drop (c.loop-at.at + 1) rs) fork))
    (sym c.if-eq.false ∙ c.eq.ensures ∙ ap (λ (k : List ℕ). bytes_eq k fork) c.as_str.ensures)
    ∙ sym (found_next (λ e. has_fork fork e.1) rs c.loop-at.at (r.name, r)
    c.replication_at-replication.ensures)
    ∙ c.loop-at.invariant
