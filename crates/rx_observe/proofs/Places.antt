-- Queries that are emitted one after another, by the places of those whose rows are unseen.
use Rattle.std.proofs.Common.{◌≡◌, ℕ, zero, suc, ◌+◌, ◌<◌, Some, None, List, [], ◌∷◌, length, drop, map, get_or, refl, sym, ap, ◌∙◌, subst, arith, add-one}
use Rattle.std.proofs.Math.ListN.{set}
use Rattle.rx_value.proofs.Lists.{cons_parts}
use Rattle.rx_query.specs.declared.results.Row.{Row}
use Rattle.rx_observe.specs.Observing.{Queries, each}
use Rattle.rx_observe.specs.Rows.{emitted, with_place, places_of, unseen_of}
use Rattle.rx_observe.specs.Watched.{Watched}
use Rattle.rx_observe.proofs.Done.{done, read-done, length-done, step-done}
use Rattle.rx_observe.proofs.Unseen.{kept_seen}

-- a query with its rows emitted
abbrev pub emit : List ℕ × Watched → List ℕ × Watched
emit q = (q.0, emitted q.1)

-- where none are unseen it is as before
emit_same : (q : List ℕ × Watched) → unseen_of q ≡ None → emit q ≡ q
emit_same q none =
    let same = kept_seen q.1.rows q.1.emitted none in
    λ i. (
      q.0,
      record {
        query = q.1.query;
        rows = q.1.rows;
        emitted = sym same i;
        counts = q.1.counts;
      },
    )

-- the next query whose rows are unseen stands at i, where the first that is left stands at n, and
-- its place is counted from m there
record IsNextAt (m n : ℕ) (qs : Queries) (place : ℕ) (rows : List Row)
    (more : List (ℕ × List Row)) : Type 0 where
  i : ℕ
  at : place + n ≡ m + i
  within : i < length qs
  rest : more ≡ places_of (place + 1) (drop (suc i) qs)
  here : (d : List ℕ × Watched) → unseen_of (get_or qs i d) ≡ Some rows
  passed : done emit n qs ≡ done emit i qs

next_at : (m n : ℕ) (qs : Queries) (place : ℕ) (rows : List Row) (more : List (ℕ × List Row))
    → (place, rows) ∷ more ≡ places_of m (drop n qs) → IsNextAt m n qs place rows more
next_at m zero [] place rows more left = cc
next_at m (suc n) [] place rows more left = cc
next_at m (suc n) (q ∷ qs) place rows more left =
    let h = next_at m n qs place rows more left in
    let at = h.at in
    let within = h.within in
    record {
      i = suc h.i;
      at = omega arith;
      within = omega arith;
      rest = h.rest;
      here = h.here;
      passed = ap (λ rs. emit q ∷ rs) h.passed;
    }
next_at m zero (q ∷ qs) place rows more left =
    elim (unseen_of q) as (λ o. unseen_of q ≡ o
    → (place, rows) ∷ more ≡ with_place m o (places_of (m + 1) qs)
    → IsNextAt m zero (q ∷ qs) place rows more) [
      | None ↦ (λ none left.
          let h = next_at (m + 1) zero qs place rows more left in
          let at = h.at in
          let within = h.within in
          record {
            i = suc h.i;
            at = omega arith;
            within = omega arith;
            rest = h.rest;
            here = h.here;
            passed = λ k. sym (emit_same q none) k ∷ h.passed k;
          })
      | Some unseen_rows ↦ (λ some left.
          let parts = cons_parts (place, rows) (m, unseen_rows) more (places_of (m + 1) qs) left in
          let same : place ≡ m = ap (λ (p : ℕ × List Row). p.0) parts.0 in
          record {
            i = zero;
            at = omega (arith, same);
            within = omega arith;
            rest = parts.1 ∙ ap (λ k. places_of (k + 1) qs) (sym same);
            here = λ d. some ∙ ap (λ (p : ℕ × List Row). Some p.1) (sym parts.0);
            passed = refl;
          })
    ] refl left

-- nothing is left: all are emitted
none_at : (m n : ℕ) (qs : Queries) → [] ≡ places_of m (drop n qs) → done emit n qs ≡ map emit qs
none_at m zero [] none = refl
none_at m (suc n) [] none = refl
none_at m (suc n) (q ∷ qs) none = ap (λ rs. emit q ∷ rs) (none_at m n qs none)
none_at m zero (q ∷ qs) none =
    elim (unseen_of q) as (λ o. unseen_of q ≡ o → [] ≡ with_place m o (places_of (m + 1) qs)
    → q ∷ qs ≡ map emit (q ∷ qs)) [
      | None ↦ (λ seen none. λ k. sym (emit_same q seen) k ∷ none_at (m + 1) zero qs none k)
      | Some rows ↦ (λ some none. cc)
    ] refl none

-- the queries now: those before one of them are emitted, and of the others those whose rows are
-- unseen are left
pub record AreEmitted (before now : Queries) (left : List (ℕ × List Row)) : Type 0 where
  pub n : ℕ
  pub now_are : now ≡ done emit n before
  pub left_are : left ≡ places_of n (drop n before)

module _ (before now : Queries) (place : ℕ) (rows : List Row) (more : List (ℕ × List Row))
    (so : AreEmitted before now ((place, rows) ∷ more)) where
  next : IsNextAt so.n so.n before place rows more
  next = next_at so.n so.n before place rows more so.left_are

  stands : next.i ≡ place
  stands = let at = next.at in omega arith

  now_to : now ≡ done emit place before
  now_to = so.now_are ∙ next.passed ∙ ap (λ i. done emit i before) stands

  within : place < length before
  within = subst (λ i. i < length before) stands next.within

  -- the next one is among them
  pub place_within : place < length now
  place_within =
      subst (λ n. place < n) (sym (ap length now_to ∙ length-done emit place before)) within

  module _ (x : List ℕ × Watched) (at : x ≡ get_or now place x) where
    -- its rows are unseen
    pub unseen_at : unseen_of x ≡ Some rows
    unseen_at =
        ap unseen_of (read-done emit place before now now_to x at)
        ∙ subst (λ i. unseen_of (get_or before i x) ≡ Some rows) stands (next.here x)

    -- emitted, it is one of those that are
    pub emitted_at : AreEmitted before (set now place (emit x)) more
    emitted_at = record {
      n = place + 1;
      now_are = step-done emit place before now now_to x at within;
      left_are = next.rest
          ∙ ap (λ i. places_of (place + 1) (drop i before)) (ap suc stands ∙ sym (add-one place));
    }

-- where none are left all are emitted
pub all_emitted : (before now : Queries) → AreEmitted before now [] → now ≡ each emitted before
all_emitted before now so = so.now_are ∙ none_at so.n so.n before so.left_are
