-- Rows are the same exactly where the test says so.
use Rattle.std.proofs.Common.{◌≡◌, ℕ, ◌+◌, drop, slice_get, bytes_eq, true, false, cond, is_none, Option, Some, None, List, refl, sym, ap, ◌∙◌}
use Rattle.std.proofs.lemmas.Bool.Decides.{Decides-and}
use Rattle.std.proofs.lemmas.Slice.Eq.{bytes_eq-Decides, slice_eq-Decides}
use Rattle.std.specs.Bool.{Decides}
use Rattle.rx_value.specs.Equal.{fields_eq}
use Rattle.rx_value.specs.Equality.{decides_as, fields_eq-Decides}
use Rattle.rx_value.proofs.Lists.{drop_at}
use Rattle.rx_query.specs.declared.results.Row.{Row}
use Rattle.rx_observe.specs.Rows.{same_row, same_rows, unseen}
use Rattle.rx_observe.specs.Watched.{kept}

same_row-Decides : (x y : Row) → Decides (same_row x y) (x ≡ y)
same_row-Decides x y =
    decides_as _
    (Decides-and (bytes_eq x.id y.id) (fields_eq x.fields y.fields)
    (bytes_eq-Decides x.id y.id) (fields_eq-Decides x.fields y.fields))
    (λ h i. record { id = h.0 i; fields = h.1 i })
    (λ h. (ap (λ r. r.id) h, ap (λ r. r.fields) h))

pub same_rows-Decides : (xs ys : List Row) → Decides (same_rows xs ys) (xs ≡ ys)
same_rows-Decides xs ys = slice_eq-Decides same_row-Decides xs ys (same_rows xs ys) refl

module _ (xs ys : List Row) (i : ℕ) (x y : Row) (at : slice_get xs i ≡ Some x)
    (at' : slice_get ys i ≡ Some y) where
  -- rows that are the same leave it to those after them
  pub rows_agree : same_row x y ≡ true
      → same_rows (drop i xs) (drop i ys) ≡ same_rows (drop (i + 1) xs) (drop (i + 1) ys)
  rows_agree same = rw (drop_at xs i x at, drop_at ys i y at', same) refl

  -- others tell
  pub rows_differ : same_row x y ≡ false → same_rows (drop i xs) (drop i ys) ≡ false
  rows_differ other = rw (drop_at xs i x at, drop_at ys i y at', other) refl

-- rows that were emitted last aren't unseen
pub unseen_none : (rows emitted : Option (List Row))
    → ((r : List Row) → rows ≡ Some r → emitted ≡ Some r) → unseen rows emitted ≡ None
unseen_none None emitted h = refl
unseen_none (Some r) emitted h =
    ap (unseen (Some r)) (h r refl)
    ∙ ap (λ b. cond b None (Some r)) ((same_rows-Decides r r).1 refl)

-- unseen rows are those that are kept
pub rows_unseen : (rows emitted : Option (List Row)) (r : List Row) → unseen rows emitted ≡ Some r
    → rows ≡ Some r
rows_unseen None emitted r h = cc
rows_unseen (Some s) None r h = h
rows_unseen (Some s) (Some last) r h =
    elim (same_rows s last) as (λ b. cond b None (Some s) ≡ Some r → Some s ≡ Some r)
    [ true ↦ (λ h. cc) | false ↦ (λ h. h) ] h

-- where none are unseen, those emitted last are kept
pub kept_seen : (rows emitted : Option (List Row)) → unseen rows emitted ≡ None
    → emitted ≡ kept rows emitted
kept_seen None emitted h = refl
kept_seen (Some r) None h = cc
kept_seen (Some r) (Some last) h =
    elim (same_rows r last) as (λ b. same_rows r last ≡ b → cond b None (Some r) ≡ None
    → Some last ≡ Some r) [
      | true ↦ (λ same h. ap (λ (z : List Row). Some z) (sym ((same_rows-Decides r last).0 same)))
      | false ↦ (λ differ h. cc)
    ] refl h

-- what was emitted last isn't to be emitted again
pub settled_none : (r : List Row) → unseen (Some r) (Some r) ≡ None
settled_none r = unseen_none (Some r) (Some r) (λ s is. is)

-- where no rows are unseen, they are those emitted last
pub seen_last : (r : List Row) (last : Option (List Row)) → unseen (Some r) last ≡ None
    → last ≡ Some r
seen_last r last h = kept_seen (Some r) last h

-- and so where that is known by a test
none_is : (o : Option (List Row)) → true ≡ is_none o → o ≡ None
none_is None h = refl
none_is (Some r) h = cc

pub emitted_last : (r : List Row) (last : Option (List Row))
    → true ≡ is_none (unseen (Some r) last) → last ≡ Some r
emitted_last r last h = seen_last r last (none_is (unseen (Some r) last) h)
