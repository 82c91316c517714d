-- A replication keeps its handler and its field.
use Rattle.std.proofs.Common.{◌≡◌, ◌∙◌, ℕ, Bool, true, false, true≢false, cond, List, [], ◌∷◌, Option, Some, option_map, unwrap_or, refl, sym, ap, subst, inl, inr}
use Rattle.rx_value.specs.Named.{change_named, named}
use Rattle.rx_value.proofs.Bytes.{bytes_cases}
use Rattle.rx_handler.specs.Handlers.{Kinds}
use Rattle.rx_handler.specs.Resolve.{resolve}
use Rattle.rx_migrate.specs.declared.step.Step.{Step}
use Rattle.rx_record.specs.Content.{Content, collection, rows, replication, exchange, epoch, migration}
use Rattle.rx_replication.specs.Taking.{Resolve}
use Rattle.rx_sync.specs.Exchange.{world_after}
use Rattle.rx_sync.specs.Laws.{MayComeInTurn}
use Rattle.rx_world.specs.Migrating.{is_in_group, migrated_replication}
use Rattle.rx_world.specs.Replicating.{new_replication, with_exchange}
use Rattle.rx_world.specs.Step.{legal, step}
use Rattle.rx_world.specs.World.{World, Replications}
use Rattle.rx_world.specs.declared.replication.Replication.{Replication}
use Rattle.rx_world.proofs.Beginning.{begins}
use Rattle.rx_world.proofs.Links.{held_other}
use Rattle.rx_world.proofs.Looked.{named-put_other, named-change_same, named-change_other}
use Rattle.rx_world.proofs.Settled.{replication_named}
use Rattle.rx_steps.specs.Shows.{Resolves}

-- it is there, with all that doesn't change
pub record IsThere (rs : Replications) (name : List ℕ) (r : Replication) : Type 0 where
  pub now : Replication
  pub held : named rs name ≡ Some now
  pub fork : now.fork ≡ r.fork
  pub master : now.master ≡ r.master
  pub handler : now.handler ≡ r.handler
  pub field : now.field ≡ r.field

there_same : (rs : Replications) (name : List ℕ) (r : Replication) → named rs name ≡ Some r
    → IsThere rs name r
there_same rs name r at =
    record { now = r; held = at; fork = refl; master = refl; handler = refl; field = refl }

-- migrated or not
there_migrated : (rs : Replications) (name : List ℕ) (steps : List Step)
    (r : Replication) (b : Bool)
    → named rs name ≡ Some (cond b (migrated_replication steps r) r) → IsThere rs name r
there_migrated rs name steps r true at = record {
  now = migrated_replication steps r;
  held = at;
  fork = refl;
  master = refl;
  handler = refl;
  field = refl;
}
there_migrated rs name steps r false at = there_same rs name r at

-- after a legal record
pub there_step : (c : Content) (w : World) (name : List ℕ) (r : Replication) → legal c w ≡ true
    → named w.replications name ≡ Some r → IsThere (step c w).replications name r
there_step (collection k schema) w name r is at = there_same w.replications name r at
there_step (rows k lwt written) w name r is at = there_same w.replications name r at
there_step (replication k fork m handler field) w name r is at =
    let free = (begins k fork m w is).free in
    let new = new_replication k fork m handler field in
    there_same (step (replication k fork m handler field) w).replications name r
    (named-put_other w.replications k name new (held_other w.replications name k r free at) ∙ at)
there_step (exchange k lwt written known up down) w name r is at =
    elim (bytes_cases name k) [
      | inl same ↦ record {
        now = with_exchange known up down r;
        held = subst (λ (k : List ℕ).
            named (change_named w.replications k (with_exchange known up down)) name
            ≡ Some (with_exchange known up down r)) same
            (named-change_same (with_exchange known up down) w.replications name
            ∙ ap (option_map (with_exchange known up down)) at);
        fork = refl;
        master = refl;
        handler = refl;
        field = refl;
      }
      | inr apart ↦ there_same (step (exchange k lwt written known up down) w).replications name r
          (named-change_other (with_exchange known up down) w.replications k name apart ∙ at)
    ]
there_step (epoch number) w name r is at = there_same w.replications name r at
there_step (migration k text steps) w name r is at =
    let G = is_in_group w.replications k in
    there_migrated (step (migration k text steps) w).replications name steps r (G r.fork)
    (replication_named steps G w.replications name
    ∙ ap (option_map (λ r. cond (G r.fork) (migrated_replication steps r) r)) at)
there_step other w name r is at = absurd (true≢false (sym is))

-- after several
pub there_after : (cs : List Content) (w : World) (name : List ℕ) (r : Replication)
    → MayComeInTurn w cs → named w.replications name ≡ Some r
    → IsThere (world_after cs w).replications name r
there_after [] w name r come at = there_same w.replications name r at
there_after (c ∷ cs) w name r come at =
    let first = there_step c w name r come.0.lawful at in
    let rest = there_after cs (step c w) name first.now come.1 first.held in
    record {
      now = rest.now;
      held = rest.held;
      fork = rest.fork ∙ first.fork;
      master = rest.master ∙ first.master;
      handler = rest.handler ∙ first.handler;
      field = rest.field ∙ first.field;
    }

-- so what resolves conflicts stays
pub resolves_there : (kinds : Kinds) (w v : World) (name : List ℕ) (by : Resolve)
    (so : Resolves kinds w name by) → IsThere v.replications name so.replication
    → Resolves kinds v name by
resolves_there kinds w v name by so there = record {
  replication = there.now;
  held = there.held;
  kind = so.kind;
  handler = ap (named kinds) there.handler ∙ so.handler;
  is = ap (λ (f : Option (List ℕ)). resolve so.kind (unwrap_or f [])) there.field ∙ so.is;
}

pub resolves_after : (kinds : Kinds) (w : World) (name : List ℕ) (by : Resolve)
    (cs : List Content) → MayComeInTurn w cs → Resolves kinds w name by
    → Resolves kinds (world_after cs w) name by
resolves_after kinds w name by cs come so =
    resolves_there kinds w (world_after cs w) name by so
    (there_after cs w name so.replication come so.held)
