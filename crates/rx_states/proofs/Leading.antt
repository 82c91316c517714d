-- What the answers of a change beside a query go by.
use Rattle.std.proofs.Common.{◌≡◌, ℕ, zero, suc, Bool, true, false, not, cond, ◌||◌, List, [], ◌∷◌, Option, Some, None, IfSome, Bor, option_map, slice_get, is_some, refl, sym, ap, ◌∙◌, subst}
use Rattle.std.proofs.lemmas.Bool.{false≢true}
use Rattle.std.specs.List.{list_any}
use Rattle.std.specs.Ordering.{ordering_then, ordering_reverse, is_eq, is_ne, is_lt, is_gt}
use Rattle.std.specs.declared.cmp.Ordering.{Ordering}
use Rattle.std.specs.declared.cmp.Ordering.TheVariants.{Less, Equal, Greater}
use Rattle.rx_value.specs.Fields.{Pairs}
use Rattle.rx_value.specs.Named.{named}
use Rattle.rx_value.specs.Order.{order_of}
use Rattle.rx_value.specs.declared.value.Value.{Value}
use Rattle.rx_document.specs.declared.change.Change.{Change}
use Rattle.rx_query.specs.Lists.{some_passes, first_passes}
use Rattle.rx_query.specs.Order.{field_cmp, sort_cmp, sorts_cmp}
use Rattle.rx_query.specs.QuerySpec.{QuerySpec, Sorts}
use Rattle.rx_query.specs.States.{is_changed, precedes, ties}
use Rattle.rx_query.specs.declared.results.Row.{Row}
use Rattle.rx_states.specs.Forms.{leading, leading_in, fields_in, IsForm, IsFormOf}
use Rattle.rx_states.specs.declared.forms.Form.{Form}
use Rattle.rx_states.proofs.Steps.{ties_not}

-- ---- rows of which none is the document's

-- where none passes the one at a place doesn't
pub none_at : {X : Type 0} (p : X → Bool) (xs : List X) (i : ℕ) → list_any p xs ≡ false
    → some_passes p (slice_get xs i) ≡ false
none_at p [] zero h = refl
none_at p [] (suc i) h = refl
none_at p (x ∷ xs) zero h = neither (p x) (list_any p xs) h
  where
    neither : (a b : Bool) → (a || b) ≡ false → a ≡ false
    neither true b h = h
    neither false b h = refl
none_at p (x ∷ xs) (suc i) h = none_at p xs i (other (p x) (list_any p xs) h)
  where
    other : (a b : Bool) → (a || b) ≡ false → b ≡ false
    other true b h = absurd (false≢true (sym h))
    other false b h = h

-- then its fields alone tell
pub by_fields : (c : Change) (p : Pairs → Bool) (o : Option Row)
    → some_passes (is_changed c) o ≡ false
    → some_passes p (option_map (λ r. r.fields) o)
    ≡ some_passes (λ row. is_changed c row || p row.fields) o
by_fields c p None h = refl
by_fields c p (Some row) h = ap (λ b. b || p row.fields) (sym h)

-- two tests in the other order
pub turned : {X Y : Type 0} (p : X → Y → Bool) (a : Option X) (b : Option Y)
    → some_passes (λ x. some_passes (p x) b) a ≡ some_passes (λ y. some_passes (λ x. p x y) a) b
turned p None None = refl
turned p None (Some y) = refl
turned p (Some x) None = refl
turned p (Some x) (Some y) = refl

-- ---- by the field that the sort begins with

-- an order that tells, perhaps reversed, and then another
first_tells : (desc : Bool) (o r : Ordering) → is_eq o ≡ false
    → is_lt (ordering_then (cond desc (ordering_reverse o) o) r)
    ≡ cond desc (is_gt o) (is_lt o)
first_tells desc Equal r h = absurd (false≢true (sym h))
first_tells true Less r h = refl
first_tells true Greater r h = refl
first_tells false Less r h = refl
first_tells false Greater r h = refl

-- the same with a third behind
third : (o r s : Ordering) → ordering_then (ordering_then o r) s
    ≡ ordering_then o (ordering_then r s)
third Less r s = refl
third Equal r s = refl
third Greater r s = refl

module _ (x y : Pairs) where
  -- where the values of that field differ they tell which one precedes
  by_sorts : (ss : Sorts) (primary : List ℕ) (o : Ordering)
      → o ≡ order_of (leading ss x) (leading ss y) → is_eq o ≡ false
      → is_lt (cond (is_some (named ss primary)) (sorts_cmp ss x y)
      (ordering_then (sorts_cmp ss x y) (field_cmp primary x y)))
      ≡ cond (first_passes (λ s. s.1) ss) (is_gt o) (is_lt o)
  by_sorts [] primary o is apart = absurd (false≢true (sym apart ∙ ap is_eq is))
  by_sorts (s ∷ ss) primary o is apart =
      let r = sorts_cmp ss x y in
      let f = field_cmp primary x y in
      let here : (t : Ordering) → is_lt (ordering_then (sort_cmp s.0 s.1 x y) t)
      ≡ cond s.1 (is_gt o) (is_lt o) =
      λ t. ap (λ p. is_lt (ordering_then (cond s.1 (ordering_reverse p) p) t)) (sym is)
      ∙ first_tells s.1 o t apart in
      elim (is_some (named (s ∷ ss) primary)) as (λ b. is_lt (cond b (sorts_cmp (s ∷ ss) x y)
      (ordering_then (sorts_cmp (s ∷ ss) x y) f)) ≡ cond s.1 (is_gt o) (is_lt o)) [
        | true ↦ here r
        | false ↦ ap is_lt (third (sort_cmp s.0 s.1 x y) r f) ∙ here (ordering_then r f)
      ]

  module _ (q : QuerySpec) (a b : Option Value) (is_a : a ≡ leading q.sorts x)
      (is_b : b ≡ leading q.sorts y) where
    order_is : order_of a b ≡ order_of (leading q.sorts x) (leading q.sorts y)
    order_is = ap (λ v. order_of v b) is_a ∙ ap (order_of (leading q.sorts x)) is_b

    -- where the sort falls
    pub tells_falling : first_passes (λ s. s.1) q.sorts ≡ true → is_eq (order_of a b) ≡ false
        → is_gt (order_of a b) ≡ precedes q x y
    tells_falling falls apart =
        let o = order_of a b in
        sym (by_sorts q.sorts q.primary o order_is apart
        ∙ ap (λ d. cond d (is_gt o) (is_lt o)) falls)

    -- and where it rises
    pub tells_rising : first_passes (λ s. s.1) q.sorts ≡ false → is_eq (order_of a b) ≡ false
        → is_lt (order_of a b) ≡ precedes q x y
    tells_rising rises apart =
        let o = order_of a b in
        sym (by_sorts q.sorts q.primary o order_is apart
        ∙ ap (λ d. cond d (is_gt o) (is_lt o)) rises)

    -- they don't tie then
    pub apart_by : is_ne (order_of a b) ≡ true → true ≡ not (ties q x y)
    apart_by differ = ap not (sym (by_ties q.sorts (ap is_ne (sym order_is) ∙ differ)))
      where
        by_ties : (ss : Sorts) → is_ne (order_of (leading ss x) (leading ss y)) ≡ true
            → is_eq (sorts_cmp ss x y) ≡ false
        by_ties [] h = absurd (false≢true h)
        by_ties (s ∷ ss) h = ties_not (s ∷ ss) 0 s refl x y h

-- ---- the forms that are compared

module _ (sorts : Sorts) (fields : Option Pairs) (v : Option (Bor Value))
    (tells : option_map (λ v. v.now) v ≡ leading_in sorts fields) where
  -- fields with what they hold there
  pub form_tells : (form : Option Form) → fields_in form ≡ fields
      → IfSome form (λ f. f.leading ≡ v) → IsFormOf sorts fields form
  form_tells None is same = record { fields = is; leading = λ f at. absurd (cc) }
  form_tells (Some g) is same = record {
    fields = is;
    leading = λ f at.
        let one : g ≡ f = cc in
        subst (IsForm sorts) one
        (ap (option_map (λ v. v.now)) same ∙ tells ∙ ap (leading_in sorts) (sym is));
  }
