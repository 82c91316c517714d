-- The record of a commit is legal, and its rows are in order.
use Rattle.std.proofs.Common.{◌≡◌, ℕ, suc, ◌<◌, true, false, List, [], ◌∷◌, map, length, Some, Less, Equal, Greater, refl, sym, ap, ◌∙◌, subst, arith, lt-ltb, le-leb, eq-eqb}
use Rattle.std.specs.Cmp.Derive.{both_true}
use Rattle.std.specs.List.{AllByRecursion, list_all}
use Rattle.std.specs.List.Sorted.{IsStrictlySortedBy}
use Rattle.std.specs.Map.{keys_of, values_of}
use Rattle.std.specs.Option.{option_map_or}
use Rattle.std.specs.Ordering.{match_ordering}
use Rattle.rx_value.specs.Named.{named, put_in_order}
use Rattle.rx_value.specs.Order.{text_cmp}
use Rattle.rx_value.specs.declared.state.State.{State}
use Rattle.rx_schema.specs.declared.shape.Shape.{Shape}
use Rattle.rx_collection.specs.Commit.{by_key, row_of, rows_of, next_height}
use Rattle.rx_collection.specs.Held.{Held}
use Rattle.rx_collection.specs.Time.{last_lwt, most_lwt}
use Rattle.rx_collection.proofs.Commits.{IsLater}
use Rattle.rx_collection.proofs.Named.{all_put}
use Rattle.rx_collection.proofs.Rows.{by_key-rising}
use Rattle.rx_record.specs.Content.{Content, rows}
use Rattle.rx_record.specs.Rows.{key_of}
use Rattle.rx_record.specs.Writable.{IsOrdered}
use Rattle.rx_record.specs.declared.record.RowOut.{RowOut}
use Rattle.rx_world.specs.Commit.{out_of}
use Rattle.rx_world.specs.Step.{IsValidState, is_next_row, takes, legal}
use Rattle.rx_world.specs.World.{World}

-- ---- states by key

-- states that stand under their keys, each valid
abbrev AllStand : Shape → List (List ℕ × State) → Type 0
AllStand s es = AllByRecursion (λ e. (e.1.key ≡ e.0) × IsValidState s e.1) es

by_key-all : (s : Shape) (states : List State) → AllByRecursion (IsValidState s) states
    → AllStand s (by_key states)
by_key-all s [] all = tt
by_key-all s (t ∷ ts) all =
    all_put (λ k u. (u.key ≡ k) × IsValidState s u) (by_key ts) t.key t (refl, all.0)
    (by_key-all s ts all.1)

-- one that was put is there
put_in_order-some : {X : Type 0} (es : List (List ℕ × X)) (k : List ℕ) (x : X)
    → 0 < length (put_in_order es k x)
put_in_order-some [] k x = omega arith
put_in_order-some (e ∷ es) k x =
    elim (text_cmp k e.0) as (λ o. 0 < length
    (match_ordering o ((k, x) ∷ e ∷ es) ((e.0, x) ∷ es) (e ∷ put_in_order es k x)))
    [ Less ↦ omega arith | Equal ↦ omega arith | Greater ↦ omega arith ]

by_key-some : (states : List State) → 0 < length states → 0 < length (by_key states)
by_key-some [] some = some
by_key-some (t ∷ ts) some = put_in_order-some (by_key ts) t.key t

-- ---- their rows

module _ (c : Held) (lwt : ℕ) where
  -- the rows of a record
  abbrev outs : List (List ℕ × State) → List RowOut
  outs es = map out_of (map (row_of c lwt) (values_of es))

  length-outs : (es : List (List ℕ × State)) → length (outs es) ≡ length es
  length-outs [] = refl
  length-outs (e ∷ es) = ap suc (length-outs es)

  keys-outs : (es : List (List ℕ × State)) → AllStand c.schema es
      → map key_of (outs es) ≡ keys_of es
  keys-outs [] all = refl
  keys-outs (e ∷ es) all = rw all.0.0 (ap (λ ks. e.0 ∷ ks) (keys-outs es all.1))

  due-outs : (es : List (List ℕ × State)) → AllStand c.schema es
      → list_all (is_next_row c) (outs es) ≡ true
  due-outs [] all = refl
  due-outs (e ∷ es) all =
      let next = next_height (named c.documents e.1.key) in
      both_true (both_true all.0.1 (eq-eqb next next refl))
      (due-outs es all.1)

-- a collection takes the rows of valid states at a later time
takes_rows : (c : Held) (states : List State) (lwt : ℕ) → IsLater (last_lwt c.documents) lwt
    → 0 < length states → AllByRecursion (IsValidState c.schema) states
    → takes lwt (map out_of (rows_of c states lwt)) c ≡ true
takes_rows c states lwt later some valid =
    let es = by_key states in
    let more : 0 < length (outs c lwt es) =
    subst (λ n. 0 < n) (sym (length-outs c lwt es)) (by_key-some states some) in
    both_true (both_true (both_true (lt-ltb 0 (length (outs c lwt es)) more)
    (lt-ltb (last_lwt c.documents) lwt later.above)) (le-leb lwt most_lwt later.in_range))
    (due-outs c lwt es (by_key-all c.schema states valid))

-- their keys rise
rows_rise : (c : Held) (states : List State) (lwt : ℕ)
    → AllByRecursion (IsValidState c.schema) states
    → IsStrictlySortedBy text_cmp (map key_of (map out_of (rows_of c states lwt)))
rows_rise c states lwt valid =
    subst (IsStrictlySortedBy text_cmp)
    (sym (keys-outs c lwt (by_key states) (by_key-all c.schema states valid)))
    (by_key-rising states)

-- ---- the record

-- legal on each world that holds the collection, and in order
pub record IsFit (c : Held) (entry : Content) : Type 0 where
  pub legal : (w : World) → named w.collections c.name ≡ Some c → legal entry w ≡ true
  pub ordered : IsOrdered entry

pub fit_at : (c : Held) (states : List State) (lwt : ℕ) → IsLater (last_lwt c.documents) lwt
    → 0 < length states → AllByRecursion (IsValidState c.schema) states
    → IsFit c (rows c.name lwt (map out_of (rows_of c states lwt)))
fit_at c states lwt later some valid = record {
  legal = λ w held.
      ap (λ o. option_map_or (takes lwt (map out_of (rows_of c states lwt))) o false) held
      ∙ takes_rows c states lwt later some valid;
  ordered = rows_rise c states lwt valid;
}
