-- The names of a group, one after another, and queries that aren't observed in it.
use Rattle.std.proofs.Common.{◌≡◌, ◌∙◌, ◌⊎◌, inl, inr, ℕ, zero, suc, ◌<◌, ◌++◌, Bool, true, false, cond, List, [], ◌∷◌, map, length, take, Option, Some, None, option_map, Result, Ok, Err, refl, sym, ap, subst}
use Rattle.std.specs.Bool.{⊤}
use Rattle.std.specs.Prelude.{filter}
use Rattle.std.specs.List.{AllByRecursion, find, slice_get}
use Rattle.std.specs.Option.{ForSome}
use Rattle.rx_value.proofs.Outcomes.{not_none, some_same}
use Rattle.rx_value.specs.Due.{◌>>◌, unless}
use Rattle.rx_collection.specs.Held.{Held}
use Rattle.rx_migrate.specs.declared.step.Step.{Step}
use Rattle.rx_record.specs.Content.{Content, migration}
use Rattle.rx_reply.specs.Answer as answer
use Rattle.rx_schema.specs.Writing.{canonical_text}
use Rattle.rx_schema.specs.declared.shape.Shape.{Shape}
use Rattle.rx_session.specs.Doing.{migrate, IsUnobserved, MayDo}
use Rattle.rx_session.specs.Session.{Observed, Session, first_observed}
use Rattle.rx_world.specs.Migrating.{is_in_group}
use Rattle.rx_world.specs.Migration.{group_fits, migration_of}
use Rattle.rx_world.specs.Schema.{schema_in}
use Rattle.rx_world.specs.Step.{legal}
use Rattle.rx_world.specs.Touch.{IsMigration, remade_where, touch}
use Rattle.rx_world.specs.World.{Collections, World}
use Rattle.rx_world.specs.declared.fault.MigrateFault.{MigrateFault}
use Rattle.rx_writes.specs.declared.fault.Fault.{Fault}
use Rattle.rx_world.proofs.Regrouped.{entry_at}
use Rattle.rx_engine.specs.Migrate.{names_of_group, of_observed, unless_observed, Migrates}
use Rattle.rx_engine.specs.Outcome.{Outcome}

module _ (G : List ℕ → Bool) where
  -- with one behind them
  names_step : (cs : Collections) (i : ℕ) (e : List ℕ × Held) → slice_get cs i ≡ Some e
      → names_of_group G (take (suc i) cs)
      ≡ names_of_group G (take i cs) ++ names_of_group G (e ∷ [])
  names_step [] i e at = not_none at
  names_step (c ∷ cs) zero e at =
      ap (λ (x : List ℕ × Held). names_of_group G (x ∷ [])) (some_same at)
  names_step (c ∷ cs) (suc i) e at =
      elim (G c.0) as (λ b. map (λ (x : List ℕ × Held). x.0)
      (cond b (c ∷ filter (λ x. G x.0) (take (suc i) cs)) (filter (λ x. G x.0) (take (suc i) cs)))
      ≡ map (λ (x : List ℕ × Held). x.0) (cond b (c ∷ filter (λ x. G x.0) (take i cs))
      (filter (λ x. G x.0) (take i cs))) ++ names_of_group G (e ∷ [])) [
        | true ↦ ap (λ ns. c.0 ∷ ns) (names_step cs i e at)
        | false ↦ names_step cs i e at
      ]

  pub next_name : (cs : Collections) (i : ℕ) (old new : List (List ℕ)) → i < length cs
      → old ≡ names_of_group G (take i cs)
      → ForSome (slice_get cs i) (λ e. new ≡ old ++ names_of_group G (e ∷ []))
      → new ≡ names_of_group G (take (suc i) cs)
  next_name cs i old new within is added =
      let e = entry_at cs i within in
      added e.0 e.1 ∙ ap (λ ns. ns ++ names_of_group G (e.0 ∷ [])) is
      ∙ sym (names_step cs i e.0 e.1)

-- ---- queries

-- none of a group is found where none is in it
apart_all : (G : List ℕ → Bool) (qs : List Observed) → first_observed G qs ≡ None
    → AllByRecursion (λ o. G o.coll ≡ false) qs
apart_all G [] none = tt
apart_all G (q ∷ qs) none =
    elim (G q.coll) as (λ b. G q.coll ≡ b
    → option_map (λ (o : Observed). o.name) (cond b (Some q) (find (λ o. G o.coll) qs)) ≡ None
    → (G q.coll ≡ false) × AllByRecursion (λ o. G o.coll ≡ false) qs) [
      | true ↦ (λ is at. absurd (cc))
      | false ↦ (λ is at. (is, apart_all G qs at))
    ] refl none

-- so none is observed in what a migration of it makes anew
none_observed : (coll text : List ℕ) (steps : List Step) (s : Session)
    → first_observed (is_in_group s.world.replications coll) s.queries ≡ None
    → IsUnobserved (touch (migration coll text steps) s.world) s.queries
none_observed coll text steps s none =
    let G = is_in_group s.world.replications coll in
    elim (schema_in text) as (λ o. IsUnobserved (remade_where G steps o) s.queries)
    [ None ↦ tt | Some shape ↦ apart_all G s.queries none ]

-- and its record may be written
pub may_migrate_it : (coll : List ℕ) (c : Content) (s : Session) → legal c s.world ≡ true
    → Migrates coll c → first_observed (is_in_group s.world.replications coll) s.queries ≡ None
    → MayDo (migrate c) s
may_migrate_it coll c s may is none =
    subst (λ (x : Content).
    (legal x s.world ≡ true) × IsMigration x × IsUnobserved (touch x s.world) s.queries)
    (sym is.2) (
      subst (λ (x : Content). legal x s.world ≡ true) is.2 may,
      tt,
      none_observed coll is.0 is.1 s none,
    )

-- ---- what is planned

-- the record is that of its collection
pub migrates_it : (coll : List ℕ) (shape : Shape) (steps : List Step) (held : Held)
    (w : World) (c : Content)
    → migration_of coll shape steps held w ≡ Ok c → Migrates coll c
migrates_it coll shape steps held w c is =
    (elim (group_fits (is_in_group w.replications coll) shape steps held w)
    as (λ (r : Result ⊤ MigrateFault).
    (r >> λ _. Ok (migration coll (canonical_text shape) steps)) ≡ Ok c → Migrates coll c) [
      | Ok x ↦ (λ at. (canonical_text shape, steps, cc))
      | Err e ↦ (λ at. absurd (cc))
    ]) is

-- the outcome then
abbrev pub written : List ℕ → Content → Session → Outcome
written coll c s = record {
  doing = migrate c;
  answer = answer.migrate
      (names_of_group (is_in_group s.world.replications coll) s.world.collections);
}

-- a query is observed
pub observed_is : (coll : List ℕ) (c : Content) (s : Session) (name : List ℕ) (e : Fault)
    → Some name ≡ first_observed (is_in_group s.world.replications coll) s.queries
    → e ≡ of_observed name
    → unless_observed coll c s ≡ Err e
observed_is coll c s name e at is =
    ap (λ (o : Option (List ℕ)). unless of_observed o (Ok (written coll c s))) (sym at)
    ∙ ap (λ x. Err x) (sym is)

-- none is
pub unobserved_is : (coll : List ℕ) (c : Content) (s : Session)
    → None ≡ first_observed (is_in_group s.world.replications coll) s.queries
    → unless_observed coll c s ≡ Ok (written coll c s)
unobserved_is coll c s at =
    ap (λ (o : Option (List ℕ)). unless of_observed o (Ok (written coll c s))) (sym at)

-- one refusal after another
pub refused_then : (r : Result Content Fault) (f : Content → Result Outcome Fault) (m e : Fault)
    → (e ≡ m) ⊎ (r ≡ Err e) → (e ≡ m) ⊎ ((r >> f) ≡ Err e)
refused_then r f m e why =
    elim why [ inl is ↦ inl is | inr is ↦ inr (ap (λ (x : Result Content Fault). x >> f) is) ]
