-- The best of the indexes so far.
use Rattle.std.proofs.Common.{◌≡◌, slice_get, Some, ℕ, ◌+◌, ◌<◌, ◌≤◌, List, [], map, length, get_or, inl, inr, sym, ap, ◌∙◌, arith, subst}
use Rattle.std.proofs.Math.ListN.{get_or-map}
use Rattle.std.proofs.lemmas.Option.{get_or_from_slice_get}
use Rattle.std.proofs.lemmas.Bool.{cases_lt}
use Rattle.std.proofs.lemmas.List.{get_or_default, length-map}
use Rattle.rx_index.specs.Index.{Indexed}
use Rattle.rx_query.specs.QuerySpec.{QuerySpec}
use Rattle.rx_planner.specs.Choice.{IsBest}
use Rattle.rx_planner.specs.Plan.{Names, score, path_of, path_at}

-- what the index at a place orders by
pub read_at : (indexes : List Indexed) (i : ℕ) (x : Indexed) → slice_get indexes i ≡ Some x
    → x ≡ get_or indexes i x
read_at indexes i x at = sym (get_or_from_slice_get indexes i x x at)

pub path_read : (q : QuerySpec) (indexes : List Indexed) (i : ℕ) (x : Indexed) → x
    ≡ get_or indexes i x
    → i < length indexes
    → path_at q (map (λ k. k.fields) indexes) i ≡ path_of q x.fields
path_read q indexes i x is h =
    ap (path_of q)
    (get_or_default (map (λ k. k.fields) indexes) i [] x.fields
    (let long = length-map indexes (λ (k : Indexed). k.fields) in omega (arith, h, long))
    ∙ get_or-map (λ (k : Indexed). k.fields) indexes i x ∙ ap (λ (k : Indexed). k.fields) (sym is))

module _ (q : QuerySpec) (indexes : List Names) where
  abbrev scored : ℕ → ℕ
  scored k = score q (path_at q indexes k)

  -- the next one isn't better
  pub stays : (n best : ℕ) → IsBest q indexes n best → scored n ≤ scored best
      → IsBest q indexes (n + 1) best
  stays n best wins h = record {
    within = let w = wins.within in omega arith;
    greatest = λ k l. elim (cases_lt k n) [
      | inl below ↦ wins.greatest k below
      | inr up ↦ let here : n ≡ k = omega arith in subst (λ m. scored m ≤ scored best) here h
    ];
    first = wins.first;
  }

  -- the next one is better
  pub moves : (n best : ℕ) → IsBest q indexes n best → scored best < scored n
      → IsBest q indexes (n + 1) n
  moves n best wins h = record {
    within = omega arith;
    greatest = λ k l. elim (cases_lt k n) [
      | inl below ↦ let g = wins.greatest k below in omega (arith, g, h)
      | inr up ↦ let here : n
          ≡ k = omega arith in subst (λ m. scored m ≤ scored n) here (omega arith)
    ];
    first = λ k l. let g = wins.greatest k l in omega (arith, g, h);
  }
