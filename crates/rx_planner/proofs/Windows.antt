-- The rows of a walk are the query's result.
use Rattle.std.proofs.Common.{◌≡◌, ℕ, ◌<◌, ◌≤◌, true, List, Bor, map, take, drop, length, get_or, Option, Some, None, IfSome, IsSome, refl, sym, ap, ◌∙◌, subst, arith}
use Rattle.std.proofs.lemmas.Bool.{false≢true}
use Rattle.std.proofs.lemmas.List.{length-map, take-append-le, take-map}
use Rattle.std.proofs.lemmas.Option.{slice_get_read}
use Rattle.std.specs.List.Sorted.{IsStrictlySortedBy}
use Rattle.std.specs.Map.{values_of}
use Rattle.rx_document.specs.Documents.{Documents}
use Rattle.rx_document.specs.declared.stored.Stored.{Stored}
use Rattle.rx_query.specs.QuerySpec.{QuerySpec}
use Rattle.rx_query.specs.Result.{at_most, result_of}
use Rattle.rx_index.specs.Index.{Indexed}
use Rattle.rx_index.specs.Position.{Position, position_cmp}
use Rattle.rx_planner.specs.Plan.{Names, path_of}
use Rattle.rx_planner.specs.Rows.{most_rows}
use Rattle.rx_planner.specs.Way.{front, fits, all_rows, rows_between, IsWayBy, IsUnderWay}
use Rattle.rx_planner.proofs.Runs.{window}

-- as many first rows as are wanted, without those that are skipped
module _ (q : QuerySpec) (documents : Documents) (most : ℕ) (is : Some most ≡ most_rows q) where
  shown : (rows : List Stored) → rows ≡ take most (all_rows q documents)
      → drop q.skip rows ≡ result_of q (values_of documents)
  shown rows first =
      ap (drop q.skip) first
      ∙ ap (λ o. drop q.skip (at_most o (all_rows q documents))) is
      ∙ window q (all_rows q documents)

  pub are_shown : {X : Type 0} (o : Option X) (rows : X → List Stored)
      → IfSome o (λ x. rows x ≡ take most (all_rows q documents))
      → IfSome o (λ x. drop q.skip (rows x) ≡ result_of q (values_of documents))
  are_shown None rows h = tt
  are_shown (Some x) rows h = shown (rows x) h

-- by an index whose path fits a walk can go
pub way_at : (q : QuerySpec) (indexes : List Indexed) (n : ℕ) (index : Indexed) (names : Names)
    → index ≡ get_or indexes n index → n < length indexes → fits q (path_of q index.fields) ≡ true
    → names ≡ front q (path_of q index.fields) → IsStrictlySortedBy position_cmp index.keys
    → IsWayBy q indexes n names
way_at q indexes n index names is within fit first up =
    let at = slice_get_read indexes (length indexes) n index refl within is in
    record {
      within = within;
      fits = subst (λ o. IfSome o (λ i. fits q (path_of q i.fields) ≡ true)) (sym at) fit;
      front = subst (λ o. IfSome o (λ i. names ≡ front q (path_of q i.fields))) (sym at) first;
      rising = subst (λ o. IfSome o (λ i. IsStrictlySortedBy position_cmp i.keys)) (sym at) up;
    }

-- ---- the rows that a walk hands out

module _ (q : QuerySpec) (documents : Documents) (most : ℕ) where
  -- all of them, or as many as are wanted
  pub of_whole : (items : List (Bor Stored)) → map (λ r. r.now) items ≡ all_rows q documents
      → take most (map (λ r. r.now) items) ≡ take most (all_rows q documents)
  of_whole items is = ap (take most) is

  pub of_enough : (items : List (Bor Stored)) (index : Indexed) (looked : ℕ) (low high : Position)
      → IsUnderWay q documents index (map (λ r. r.now) items) looked low high → most ≤ length items
      → take most (map (λ r. r.now) items) ≡ take most (all_rows q documents)
  of_enough items index looked low high under many =
      let now : Bor Stored → Stored = λ r. r.now in
      let as_many = length-map items now in
      sym (take-append-le most (map now items) (rows_between q documents index.keys low high)
      (omega (arith, as_many, many)))
      ∙ ap (take most) under.parted

  pub first_ones : {X : Type 0} (items : List (Bor Stored)) (o : Option X)
      (rows : X → List (Bor Stored)) → IfSome o (λ x. rows x ≡ take most items)
      → take most (map (λ r. r.now) items) ≡ take most (all_rows q documents)
      → IfSome o (λ x. map (λ r. r.now) (rows x) ≡ take most (all_rows q documents))
  first_ones items None rows h first = tt
  first_ones items (Some x) rows h first =
      let now : Bor Stored → Stored = λ r. r.now in
      ap (map now) h ∙ sym (take-map now most items) ∙ first

-- there are rows
pub some_rows : {X : Type 0} (o : Option X) → IsSome o → o ≡ None → ⊥
some_rows o some none = false≢true (subst IsSome none some)
