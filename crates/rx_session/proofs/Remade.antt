-- Collections after a record: made in one way they are so in another, and what a migration makes
-- anew has no queries.
use Rattle.std.proofs.Common.{◌≡◌, ℕ, Bool, true, false, cond, List, [], ◌∷◌, Some, Result, Ok, Err, IfOk, refl, sym, ap, ◌∙◌}
use Rattle.std.proofs.lemmas.Slice.Eq.{bytes_eq-Decides}
use Rattle.std.specs.Str.{bytes_eq}
use Rattle.rx_value.specs.Named.{named}
use Rattle.rx_collection.specs.Held.{Held}
use Rattle.rx_migrate.specs.declared.step.Step.{Step}
use Rattle.rx_observe.specs.Observing.{Observing, put_all}
use Rattle.rx_schema.specs.declared.shape.Shape.{Shape}
use Rattle.rx_world.specs.Holders.{After, AreRemade}
use Rattle.rx_world.specs.Touch.{Touch, no_collection, new_collection, new_rows, remade}
use Rattle.rx_session.specs.Applied.{IsAfter, IsMadeFor}
use Rattle.rx_session.specs.Placed.{Lives, queries_at}

-- those of a group
remade_so : (M : Held → Observing → Type 0) → ((c : Held) (l : Observing) → M c l → IsMadeFor c l)
    → (in_group : List ℕ → Bool) (schema : Shape) (steps : List Step) (old new : Lives)
    → AreRemade (λ (l : Observing). l.collection) M in_group schema steps old new
    → AreRemade (λ (l : Observing). l.collection) IsMadeFor in_group schema steps old new
remade_so M made in_group schema steps [] [] after = tt
remade_so M made in_group schema steps (e ∷ es) (f ∷ fs) after = (
  record {
    called = after.0.called;
    made = λ is. made _ _ (after.0.made is);
    stays = after.0.stays;
  },
  remade_so M made in_group schema steps es fs after.1,
)
remade_so M made in_group schema steps [] (f ∷ fs) after = absurd after
remade_so M made in_group schema steps (e ∷ es) [] after = absurd after

module _ (in_group : List ℕ → Bool) (schema : Shape) (steps : List Step) where
  abbrev Remade : Lives → Lives → Type 0
  Remade old new =
      AreRemade (λ (l : Observing). l.collection) IsMadeFor in_group schema steps old new

  -- one outside of the group stays
  pub remade_stays : (old new : Lives) (k : List ℕ) → in_group k ≡ false → Remade old new
      → named new k ≡ named old k
  remade_stays [] [] k out after = refl
  remade_stays (e ∷ es) (f ∷ fs) k out after =
      ap (λ n. cond (bytes_eq k n) (Some f.1) (named fs k)) after.0.called
      ∙ ap (cond (bytes_eq k e.0) (Some f.1)) (remade_stays es fs k out after.1)
      ∙ elim (bytes_eq k e.0) as (λ b. bytes_eq k e.0 ≡ b
      → cond b (Some f.1) (named es k) ≡ cond b (Some e.1) (named es k)) [
        | true ↦ (λ is. ap (λ x. Some x)
            (after.0.stays (ap in_group (sym ((bytes_eq-Decides k e.0).0 is)) ∙ out)))
        | false ↦ (λ is. refl)
      ] refl
  remade_stays [] (f ∷ fs) k out after = absurd after
  remade_stays (e ∷ es) [] k out after = absurd after

  -- one of it has no queries
  pub remade_bare : (old new : Lives) (k : List ℕ) → in_group k ≡ true → Remade old new
      → queries_at (named new k) ≡ []
  remade_bare [] [] k is after = refl
  remade_bare (e ∷ es) (f ∷ fs) k is after =
      elim (bytes_eq k f.0) as (λ b. bytes_eq k f.0 ≡ b
      → queries_at (cond b (Some f.1) (named fs k)) ≡ []) [
        | true ↦ (λ here. ap (λ (l : Observing). l.queries) (after.0.made
            (ap in_group (sym after.0.called ∙ sym ((bytes_eq-Decides k f.0).0 here)) ∙ is)))
        | false ↦ (λ other. remade_bare es fs k is after.1)
      ] refl
  remade_bare [] (f ∷ fs) k is after = absurd after
  remade_bare (e ∷ es) [] k is after = absurd after

-- after any record
pub after_so : (M : Held → Observing → Type 0)
    → ((c : Held) (l : Observing) → M c l → IsMadeFor c l)
    → (t : Touch) (old new : Lives)
    → After (λ (l : Observing). l.collection) put_all M t old new → IsAfter t old new
after_so M made no_collection old new after = after
after_so M made (new_collection name schema) old new after =
    (after.0, made _ _ after.1, after.2)
after_so M made (new_rows name lwt written) old new after = after
after_so M made (remade in_group schema steps) old new after =
    remade_so M made in_group schema steps old new after

-- what was made without queries is whole
pub made_whole : {E : Type 0} (c : Held) (r : Result Observing E) → IfOk r (IsMadeFor c)
    → IfOk r (λ (l : Observing). (l.collection ≡ c) × (l.broken ≡ false))
made_whole c (Ok l) made =
    (ap (λ (l : Observing). l.collection) made, ap (λ (l : Observing). l.broken) made)
made_whole c (Err e) made = tt
