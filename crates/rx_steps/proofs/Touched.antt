-- What a record touches is a step, or none.
use Rattle.std.proofs.Common.{◌≡◌, ◌≢◌, ◌∙◌, ℕ, Bool, true, false, cond, true≢false, List, [], ◌∷◌, Option, Some, option_map, refl, sym, ap, subst, arith}
use Rattle.std.proofs.lemmas.Slice.Eq.{bytes_eq-Decides}
use Rattle.std.specs.List.{AllByRecursion}
use Rattle.std.specs.Map.{values_of}
use Rattle.std.specs.Str.{bytes_eq}
use Rattle.rx_value.specs.Named.{named}
use Rattle.rx_value.proofs.Outcomes.{not_none, some_same}
use Rattle.rx_schema.specs.declared.shape.Shape.{Shape}
use Rattle.rx_collection.specs.Commit.{rows_of, with_rows}
use Rattle.rx_collection.specs.Held.{Held}
use Rattle.rx_collection.specs.Migrated.{migrated_collection, state_after}
use Rattle.rx_collection.specs.Time.{last_lwt}
use Rattle.rx_collection.proofs.Migrated.{key_after}
use Rattle.rx_meta.specs.Migrated.{known_after}
use Rattle.rx_migrate.specs.declared.step.Step as migrate
use Rattle.rx_record.specs.Writable.{KeysRise}
use Rattle.rx_record.specs.declared.record.RowOut.{RowOut}
use Rattle.rx_replication.specs.Steps.{Step, System, AreLawfulSteps, run, with_fork, with_master}
use Rattle.rx_replication.specs.Steps.Step.{CommitFork, CommitMaster, Migrate}
use Rattle.rx_replication.specs.Taking.{Resolve}
use Rattle.rx_replication.specs.Write.{write}
use Rattle.rx_world.specs.Migrating.{is_in_group, migrate_step, migrated_replication}
use Rattle.rx_world.specs.Step.{takes, written_to}
use Rattle.rx_world.specs.World.{World, Replications}
use Rattle.rx_world.specs.declared.replication.Replication.{Replication}
use Rattle.rx_world.proofs.Migrates.{AreAlike, splits}
use Rattle.rx_world.proofs.Settled.{group_named, replication_named}
use Rattle.rx_world.proofs.Sounds.{taken_committed}
use Rattle.rx_world.proofs.Turns.{takes_parts}
use Rattle.rx_steps.specs.Records.{commit_steps, states_of}
use Rattle.rx_steps.specs.Shows.{of_schema}
use Rattle.rx_steps.proofs.Standing.{IsShown}
use Rattle.rx_steps.proofs.Systems.{Wrote, stamp_is, wrote_of, write-of_schema}

-- ---- rows

-- rows that a collection takes are a write of their states at their time
write_taken : (c : Held) (lwt : ℕ) (written : List RowOut) → takes lwt written c ≡ true
    → KeysRise written → write c (states_of written) lwt ≡ Some (written_to lwt written c)
write_taken c lwt [] is rise = let some = (takes_parts lwt [] c is).some in absurd (omega arith)
write_taken c lwt (row ∷ written) is rise =
    let t = takes_parts lwt (row ∷ written) c is in
    ap (option_map (λ (time : ℕ). with_rows c (rows_of c (states_of (row ∷ written)) time)))
    (stamp_is (last_lwt c.documents) lwt t.later t.in_range)
    ∙ ap (λ rows. Some (with_rows c rows)) (taken_committed c lwt (row ∷ written) rise t.due)

-- the same requests may be handled
pub record KeepsRequests (s next : System) : Type 0 where
  pub requests : next.requests ≡ s.requests
  pub since : next.since ≡ s.since

keeps_same : (s : System) → KeepsRequests s s
keeps_same s = record { requests = refl; since = refl }

-- the replication is shown, and all else is as it was, but for the requests where they are
-- forgotten
pub record IsAfter (w : World) (name : List ℕ) (r : Replication) (m : List ℕ) (z : Shape)
    (forgets : Bool) (s next : System) : Type 0 where
  pub shown : IsShown w name r m z next
  pub epoch : next.epoch ≡ s.epoch
  pub n : next.n ≡ s.n
  pub keeps : forgets ≡ false → KeepsRequests s next

after_same : (w : World) (name : List ℕ) (r : Replication) (m : List ℕ) (z : Shape) (s : System)
    → IsShown w name r m z s → IsAfter w name r m z false s s
after_same w name r m z s x =
    record { shown = x; epoch = refl; n = refl; keeps = λ is. keeps_same s }

-- by lawful steps
pub record IsBySteps (w : World) (name : List ℕ) (r : Replication) (m : List ℕ) (z : Shape)
    (forgets : Bool) (by : Resolve) (s : System) (steps : List Step) : Type 0 where
  pub lawful : AreLawfulSteps steps
  pub after : IsAfter w name r m z forgets s (run by steps s)

module _ (w v : World) (name : List ℕ) (r : Replication) (m : List ℕ) (z : Shape) (by : Resolve)
    (s : System) (x : IsShown w name r m z s) (held : named v.replications name ≡ Some r)
    (other : m ≢ r.fork) where
  -- where neither collection is touched
  pub untouched : named v.collections r.fork ≡ named w.collections r.fork
      → named v.collections m ≡ named w.collections m → IsBySteps v name r m z false by s []
  untouched fork master = record {
    lawful = tt;
    after = after_same v name r m z s (record {
      held = held;
      local = x.local;
      fork = fork ∙ x.fork;
      master = master ∙ x.master;
      known = x.known;
      up = x.up;
      down = x.down;
    });
  }

  module _ (k : List ℕ) (lwt : ℕ) (written : List RowOut) (c : Held)
      (at : named w.collections k ≡ Some c)
      (now : named v.collections k ≡ Some (written_to lwt written c))
      (others : (l : List ℕ) → l ≢ k → named v.collections l ≡ named w.collections l)
      (taken : takes lwt written c ≡ true) (rise : KeysRise written) where
    -- of a collection of the system
    written_so : (old : Held) → c ≡ of_schema z old
        → Wrote z (write old (states_of written) lwt) (written_to lwt written c)
    written_so old same =
        wrote_of z (write old (states_of written) lwt)
        (write (of_schema z old) (states_of written) lwt) (written_to lwt written c)
        (write-of_schema z old (states_of written) lwt)
        (ap (λ (y : Held). write y (states_of written) lwt) (sym same)
        ∙ write_taken c lwt written taken rise)

    to_fork : k ≡ r.fork
        → IsBySteps v name r m z false by s (CommitFork (states_of written) lwt ∷ [])
    to_fork same =
        let wrote = written_so s.fork
        (some_same (sym at ∙ ap (named w.collections) same ∙ x.fork)) in
        record {
          lawful = (tt, tt);
          after = subst (λ (o : Option Held). IsAfter v name r m z false s (with_fork s o))
              (sym wrote.is)
              (record {
                shown = record {
                  held = held;
                  local = x.local;
                  fork =
                      ap (named v.collections) (sym same) ∙ now ∙ ap Some (sym wrote.shown);
                  master = others m (λ is. other (is ∙ same)) ∙ x.master;
                  known = x.known;
                  up = x.up;
                  down = x.down;
                };
                epoch = refl;
                n = refl;
                keeps = λ is. record { requests = refl; since = refl };
              });
        }

    to_master : k ≡ m
        → IsBySteps v name r m z false by s (CommitMaster (states_of written) lwt ∷ [])
    to_master same =
        let wrote = written_so s.master
        (some_same (sym at ∙ ap (named w.collections) same ∙ x.master)) in
        record {
          lawful = (tt, tt);
          after = subst (λ (o : Option Held). IsAfter v name r m z false s (with_master s o))
              (sym wrote.is)
              (record {
                shown = record {
                  held = held;
                  local = x.local;
                  fork = others r.fork (λ is. other (sym (is ∙ same))) ∙ x.fork;
                  master =
                      ap (named v.collections) (sym same) ∙ now ∙ ap Some (sym wrote.shown);
                  known = x.known;
                  up = x.up;
                  down = x.down;
                };
                epoch = refl;
                n = refl;
                keeps = λ is. record { requests = refl; since = refl };
              });
        }

    pub rows_by : IsBySteps v name r m z false by s (commit_steps r.fork m k lwt written)
    rows_by =
        elim (bytes_eq k r.fork) as (λ b. bytes_eq k r.fork ≡ b → IsBySteps v name r m z false by s
        (cond b (CommitFork (states_of written) lwt ∷ [])
        (cond (bytes_eq k m) (CommitMaster (states_of written) lwt ∷ []) []))) [
          | true ↦ (λ is. to_fork ((bytes_eq-Decides k r.fork).0 is))
          | false ↦ (λ isnt.
              elim (bytes_eq k m) as (λ b. bytes_eq k m ≡ b → IsBySteps v name r m z false by s
              (cond b (CommitMaster (states_of written) lwt ∷ []) [])) [
                | true ↦ (λ is. to_master ((bytes_eq-Decides k m).0 is))
                | false ↦ (λ neither.
                    untouched
                    (others r.fork
                    (λ same. true≢false (sym ((bytes_eq-Decides k r.fork).1 (sym same)) ∙ isnt)))
                    (others m
                    (λ same. true≢false (sym ((bytes_eq-Decides k m).1 (sym same)) ∙ neither))))
              ] refl)
        ] refl

-- ---- a migration

at_value : (P : Replication → Type 0) (rs : Replications) (name : List ℕ) (r : Replication)
    → AllByRecursion P (values_of rs) → named rs name ≡ Some r → P r
at_value P [] name r all at = not_none at
at_value P (e ∷ rs) name r all at =
    elim (bytes_eq name e.0) as (λ b. cond b (Some e.1) (named rs name) ≡ Some r → P r) [
      | true ↦ (λ is. subst P (some_same is) all.0)
      | false ↦ (λ is. at_value P rs name r all.1 is)
    ] at

module _ (w : World) (name : List ℕ) (r : Replication) (m : List ℕ) (z : Shape) (by : Resolve)
    (s : System) (x : IsShown w name r m z s) (k : List ℕ) (schema : Shape)
    (steps : List migrate.Step) where
  abbrev G : List ℕ → Bool
  G = is_in_group w.replications k

  abbrev v : World
  v = migrate_step k schema steps w

  -- the schema, the replication and the steps, where the fork is of the group or not
  abbrev schema_by : Bool → Shape
  schema_by b = cond b schema z

  abbrev replication_by : Bool → Replication
  replication_by b = cond b (migrated_replication steps r) r

  master_alike : G m ≡ G r.fork
  master_alike =
      subst (AreAlike G r.fork) x.local
      (at_value (λ r. AreAlike G r.fork r.master) w.replications name r (splits w.replications k)
      x.held)

  fork_then : named v.collections r.fork
      ≡ Some (cond (G r.fork) (migrated_collection schema steps (of_schema z s.fork))
      (of_schema z s.fork))
  fork_then =
      group_named steps schema G w.collections r.fork
      ∙ ap (option_map (λ (c : Held). cond (G r.fork) (migrated_collection schema steps c) c))
      x.fork

  master_then : named v.collections m
      ≡ Some (cond (G r.fork) (migrated_collection schema steps (of_schema z s.master))
      (of_schema z s.master))
  master_then =
      group_named steps schema G w.collections m
      ∙ ap (option_map (λ (c : Held). cond (G m) (migrated_collection schema steps c) c)) x.master
      ∙ ap (λ b. Some (cond b (migrated_collection schema steps (of_schema z s.master))
      (of_schema z s.master))) master_alike

  replication_then : named v.replications name ≡ Some (replication_by (G r.fork))
  replication_then =
      replication_named steps G w.replications name
      ∙ ap (option_map (λ (r : Replication). cond (G r.fork) (migrated_replication steps r) r))
      x.held

  pub migrated_by : (b : Bool) → G r.fork ≡ b
      → IsBySteps v name (replication_by b) m (schema_by b) b by s
      (cond b (Migrate (state_after steps) ∷ []) [])
  migrated_by true is = record {
    lawful = (key_after steps, tt);
    after = record {
      shown = record {
        held = replication_then ∙ ap (λ b. Some (replication_by b)) is;
        local = x.local;
        fork = fork_then
            ∙ ap (λ b. Some (cond b (migrated_collection schema steps (of_schema z s.fork))
            (of_schema z s.fork))) is;
        master = master_then
            ∙ ap (λ b. Some (cond b (migrated_collection schema steps (of_schema z s.master))
            (of_schema z s.master))) is;
        known = ap (known_after steps) x.known;
        up = x.up;
        down = x.down;
      };
      epoch = refl;
      n = refl;
      keeps = λ is. absurd (true≢false is);
    };
  }
  migrated_by false is = record {
    lawful = tt;
    after = after_same v name r m z s (record {
      held = replication_then ∙ ap (λ b. Some (replication_by b)) is;
      local = x.local;
      fork = fork_then
          ∙ ap (λ b. Some (cond b (migrated_collection schema steps (of_schema z s.fork))
          (of_schema z s.fork))) is;
      master = master_then
          ∙ ap (λ b. Some (cond b (migrated_collection schema steps (of_schema z s.master))
          (of_schema z s.master))) is;
      known = x.known;
      up = x.up;
      down = x.down;
    });
  }
