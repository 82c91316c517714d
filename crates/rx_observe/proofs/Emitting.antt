-- Queries after an emission, made cold, and without one of them.
use Rattle.std.proofs.Common.{◌≡◌, ℕ, true, false, not, cond, option_map, IfSome, Option, Some, None, List, [], ◌∷◌, bytes_eq, map, refl, sym, ap, ◌∙◌, subst}
use Rattle.std.proofs.lemmas.Option.{same_Some}
use Rattle.std.specs.List.{AllByRecursion, IsDistinct}
use Rattle.rx_value.specs.Named.{named}
use Rattle.rx_value.proofs.Bytes.{bytes_apart_turned}
use Rattle.rx_query.specs.declared.results.Row.{Row}
use Rattle.rx_collection.specs.Held.{Held}
use Rattle.rx_query.specs.Result.{fresh_rows}
use Rattle.rx_index.specs.Index.{Indexed}
use Rattle.rx_observe.specs.Indexes.{AreIndexesOf}
use Rattle.rx_observe.specs.Lived.{IsWhole}
use Rattle.rx_observe.specs.Observing.{Queries, AllRight, AllCold, HaveDistinctNames, each, and_query, without, settled, cooled}
use Rattle.rx_observe.specs.Rows.{unseen, emitted, with_emission, emissions_of, emissions_due}
use Rattle.rx_observe.specs.Watched.{Watched, kept, IsRight}
use Rattle.rx_observe.specs.declared.emission.Emission.{Emission}
use Rattle.rx_observe.proofs.Unseen.{unseen_none, settled_none, seen_last}

module _ (c : Held) where
  -- what is emitted of queries that are right are the rows from scratch
  pub emitted_settled : (qs : Queries) → AllRight c qs → each emitted qs ≡ each (settled c) qs
  emitted_settled [] all = refl
  emitted_settled (q ∷ qs) all = λ i. (
    q.0,
    record {
      query = q.1.query;
      rows = q.1.rows;
      emitted = all.0.from_scratch i;
      counts = q.1.counts;
    },
  )
      ∷ emitted_settled qs all.1 i

  -- such queries are right
  kept_settled : (rows last : Option (List Row)) (r : List Row) → kept rows last ≡ Some r
      → kept rows (Some r) ≡ Some r
  kept_settled None last r is = refl
  kept_settled (Some s) last r is = is

  right_settled : (qs : Queries) → AllRight c qs → AllRight c (each (settled c) qs)
  right_settled [] all = tt
  right_settled (q ∷ qs) all = (
    record {
      limited = all.0.limited;
      keyed = all.0.keyed;
      from_scratch = kept_settled q.1.rows q.1.emitted (fresh_rows q.1.query c.documents)
          all.0.from_scratch;
    },
    right_settled qs all.1,
  )

  pub all_right_settled : (qs now : Queries) → now ≡ each (settled c) qs → AllRight c qs
      → AllRight c now
  all_right_settled qs now is all = subst (AllRight c) (sym is) (right_settled qs all)

  -- and nothing is left to be shown
  pub none_left : (qs : Queries) → emissions_due c (each (settled c) qs) ≡ []
  none_left [] = refl
  none_left (q ∷ qs) =
      ap (λ o. with_emission q.0 o (emissions_due c (each (settled c) qs)))
      (settled_none (fresh_rows q.1.query c.documents))
      ∙ none_left qs

  -- with one more
  pub right_more : (qs : Queries) (name : List ℕ) (w : Watched) → AllRight c qs → IsRight c w
      → AllRight c (and_query qs name w)
  right_more [] name w all right = (right, tt)
  right_more (q ∷ qs) name w all right = (all.0, right_more qs name w all.1 right)

  -- without some
  pub right_without : (name : List ℕ) (qs : Queries) → AllRight c qs → AllRight c (without name qs)
  right_without name [] all = tt
  right_without name (q ∷ qs) all =
      let rest = right_without name qs all.1 in
      elim (not (bytes_eq name q.0)) as (λ b. AllRight c
      (cond b (q ∷ without name qs) (without name qs)))
      [ true ↦ (all.0, rest) | false ↦ rest ]

  -- ---- what is due

  -- rows from scratch are due where they are unseen, kept or not
  due_at : (rows last : Option (List Row)) (due : List Row) → kept rows last ≡ Some due
      → unseen rows last ≡ unseen (Some due) last
  due_at None last due right =
      sym (unseen_none (Some due) last (λ r is. right ∙ is))
  due_at (Some rows) last due right = ap (λ o. unseen o last) right

  pub emissions_are_due : (qs : Queries) → AllRight c qs → emissions_of qs ≡ emissions_due c qs
  emissions_are_due [] all = refl
  emissions_are_due (q ∷ qs) all =
      ap (λ o. with_emission q.0 o (emissions_of qs))
      (due_at q.1.rows q.1.emitted (fresh_rows q.1.query c.documents) all.0.from_scratch)
      ∙ ap (with_emission q.0 (unseen (Some (fresh_rows q.1.query c.documents)) q.1.emitted))
      (emissions_are_due qs all.1)

  -- the query of a name is right
  pub named_right : (name : List ℕ) (qs : Queries) (w : Watched) → AllRight c qs
      → named qs name ≡ Some w → IsRight c w
  named_right name [] w all at = absurd (cc)
  named_right name (q ∷ qs) w all at =
      elim (bytes_eq name q.0) as (λ b. cond b (Some q.1) (named qs name) ≡ Some w → IsRight c w) [
        | true ↦ (λ at. subst (IsRight c) (same_Some q.1 w at) all.0)
        | false ↦ (λ at. named_right name qs w all.1 at)
      ] at

  -- also as it is lent
  pub lent_right : {Y : Type 0} (name : List ℕ) (qs : Queries) (shown : Y → Watched)
      (lent : Option Y) → AllRight c qs → option_map shown lent ≡ named qs name
      → IfSome lent (λ y. IsRight c (shown y))
  lent_right name qs shown None all at = tt
  lent_right name qs shown (Some y) all at = named_right name qs (shown y) all (sym at)

  -- ---- made cold

  -- none to be shown, each was emitted
  all_emitted : (name : List ℕ) (o : Option (List Row)) (es : List Emission)
      → with_emission name o es ≡ [] → (o ≡ None) × (es ≡ [])
  all_emitted name None es none = (refl, none)
  all_emitted name (Some rows) es none = cc

  right_cooled : (qs : Queries) → emissions_due c qs ≡ [] → AllRight c qs
      → AllRight c (each cooled qs)
  right_cooled [] none all = tt
  right_cooled (q ∷ qs) none all =
      let rows = fresh_rows q.1.query c.documents in
      let seen = all_emitted q.0 (unseen (Some rows) q.1.emitted) (emissions_due c qs) none in (
        record {
          limited = all.0.limited;
          keyed = all.0.keyed;
          from_scratch = seen_last rows q.1.emitted seen.0;
        },
        right_cooled qs seen.1 all.1,
      )

  pub all_right_cooled : (qs now : Queries) → now ≡ each cooled qs → AllRight c qs
      → emissions_due c qs ≡ [] → AllRight c now
  all_right_cooled qs now is all none = subst (AllRight c) (sym is) (right_cooled qs none all)

-- none of that name is left
pub none_named : (name : List ℕ) (qs : Queries) → named (without name qs) name ≡ None
none_named name [] = refl
none_named name (q ∷ qs) =
    elim (bytes_eq name q.0) as (λ b. bytes_eq name q.0 ≡ b
    → named (cond (not b) (q ∷ without name qs) (without name qs)) name ≡ None) [
      | true ↦ (λ same. none_named name qs)
      | false ↦ (λ other.
          ap (λ b. cond b (Some q.1) (named (without name qs) name)) other ∙ none_named name qs)
    ] refl

-- ---- names

-- what is done to each leaves the names
names_each : (f : Watched → Watched) (qs : Queries) → map (λ q. q.0) (each f qs) ≡ map (λ q. q.0) qs
names_each f [] = refl
names_each f (q ∷ qs) = ap (λ ns. q.0 ∷ ns) (names_each f qs)

-- so they stay distinct
pub distinct_each : (f : Watched → Watched) (qs now : Queries) → now ≡ each f qs
    → HaveDistinctNames qs → HaveDistinctNames now
distinct_each f qs now is h =
    subst (IsDistinct bytes_eq) (sym (ap (map (λ (q : List ℕ × Watched). q.0)) is
    ∙ names_each f qs)) h

-- one that isn't named is none of them
named_apart : (q : List ℕ × Watched) (qs : Queries) (name : List ℕ) → named (q ∷ qs) name ≡ None
    → (bytes_eq name q.0 ≡ false) × (named qs name ≡ None)
named_apart q qs name none =
    (elim (bytes_eq name q.0) as (λ b. bytes_eq name q.0 ≡ b
    → cond b (Some q.1) (named qs name) ≡ None
    → (bytes_eq name q.0 ≡ false) × (named qs name ≡ None)) [
      | true ↦ (λ e h. cc)
      | false ↦ (λ e h. (e, h))
    ]) refl none

-- with one more
all_more : (P : List ℕ → Type 0) (qs : Queries) (name : List ℕ) (w : Watched)
    → AllByRecursion P (map (λ q. q.0) qs) → P name
    → AllByRecursion P (map (λ q. q.0) (and_query qs name w))
all_more P [] name w all h = (h, tt)
all_more P (q ∷ qs) name w all h = (all.0, all_more P qs name w all.1 h)

pub distinct_more : (qs : Queries) (name : List ℕ) (w : Watched) → HaveDistinctNames qs
    → named qs name ≡ None → HaveDistinctNames (and_query qs name w)
unfolding IsDistinct
distinct_more [] name w h none = (tt, tt)
distinct_more (q ∷ qs) name w h none =
    let apart = named_apart q qs name none in (
      all_more (λ n. bytes_eq q.0 n ≡ false) qs name w h.0 (bytes_apart_turned name q.0 apart.0),
      distinct_more qs name w h.1 apart.1,
    )

-- without some
all_without : (P : List ℕ → Type 0) (qs : Queries) (name : List ℕ)
    → AllByRecursion P (map (λ q. q.0) qs) → AllByRecursion P (map (λ q. q.0) (without name qs))
all_without P [] name all = tt
all_without P (q ∷ qs) name all =
    let rest = all_without P qs name all.1 in
    elim (not (bytes_eq name q.0)) as (λ b. AllByRecursion P (map (λ (x : List ℕ × Watched). x.0)
    (cond b (q ∷ without name qs) (without name qs))))
    [ true ↦ (all.0, rest) | false ↦ rest ]

pub distinct_without : (qs : Queries) (name : List ℕ) → HaveDistinctNames qs
    → HaveDistinctNames (without name qs)
unfolding IsDistinct
distinct_without [] name h = tt
distinct_without (q ∷ qs) name h =
    let rest = distinct_without qs name h.1 in
    elim (not (bytes_eq name q.0)) as (λ b. HaveDistinctNames
    (cond b (q ∷ without name qs) (without name qs)))
    [ true ↦ (all_without (λ n. bytes_eq q.0 n ≡ false) qs name h.0, rest) | false ↦ rest ]

-- queries made cold are cold
cold_cooled : (qs : Queries) → AllCold (each cooled qs)
cold_cooled [] = tt
cold_cooled (q ∷ qs) = (refl, cold_cooled qs)

pub all_cold : (qs now : Queries) → now ≡ each cooled qs → AllCold now
all_cold qs now is = subst AllCold (sym is) (cold_cooled qs)

-- where no query is observed all is well
pub none_observed : (c : Held) (indexes : List Indexed) → AreIndexesOf c indexes
    → IsWhole c [] [] indexes
unfolding IsDistinct
none_observed c indexes indexed =
    record { names = tt; right = tt; fronts = tt; indexed = indexed }
