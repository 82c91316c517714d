-- What a binary search finds among pairs of rising names.
use Rattle.std.proofs.Common.{◌≡◌, ℕ, zero, suc, ◌<◌, ◌≤◌, true, false, List, [], ◌∷◌, length, get_or, None, Result, Ok, Err, IfOk, IfErr, refl, sym, ap, ◌∙◌, arith, inl, inr}
use Rattle.std.proofs.lemmas.Bool.{cases_lt}
use Rattle.std.proofs.lemmas.Cmp.{tied_back, alike_right}
use Rattle.std.proofs.lemmas.Map.Text.{is_eq-slice_cmp}
use Rattle.std.specs.List.{AllByRecursion}
use Rattle.std.specs.List.Sorted.{IsStrictlySortedBy, IsBinarySearchResult, IsSearchInRange, IsNonDecreasingBy}
use Rattle.std.specs.Map.{keys_of}
use Rattle.std.specs.Ordering.{is_eq, ordering_index, ordering_reverse}
use Rattle.std.specs.Str.{bytes_eq}
use Rattle.std.specs.declared.cmp.Ordering.{Ordering}
use Rattle.std.specs.declared.cmp.Ordering.TheVariants.{Less, Equal, Greater}
use Rattle.rx_value.specs.Named.{named, AreRising}
use Rattle.rx_value.specs.Order.{text_cmp}
use Rattle.rx_value.specs.Place.{StandsAt, BelongsAt}
use Rattle.rx_value.proofs.Ordered.{text_total, text_ties}

-- the order, the other way round
pub turned : (a b : List ℕ) (o : Ordering) → text_cmp a b ≡ o → text_cmp b a ≡ ordering_reverse o
turned a b o is = text_total.antisymm b a ∙ ap ordering_reverse is

-- a name that comes before or after another isn't it
pub other : (a b : List ℕ) (o : Ordering) → text_cmp a b ≡ o → is_eq o ≡ false
    → bytes_eq a b ≡ false
other a b o is differs = sym (is_eq-slice_cmp a b) ∙ ap is_eq is ∙ differs

-- there are three answers
at_most_two : (o : Ordering) → ordering_index o ≤ 2
at_most_two Less = omega arith
at_most_two Equal = omega arith
at_most_two Greater = omega arith

-- the least of them
less_first : (a b : List ℕ) (o : Ordering) → text_cmp a b ≡ Less
    → ordering_index (text_cmp a b) ≤ ordering_index o
less_first a b o is = rw is (omega arith)

-- a lower name compares lower
rank : (a b name : List ℕ) (o : Ordering) → text_cmp a b ≡ Less → text_cmp b name ≡ o
    → ordering_index (text_cmp a name) ≤ ordering_index o
rank a b name Less below is = less_first a name Less (text_total.trans a b name below is)
rank a b name Equal below is =
    less_first a name Equal (sym (alike_right text_total b name a is) ∙ below)
rank a b name Greater below is = at_most_two (text_cmp a name)

module _ {X : Type 0} where
  -- what holds of all names holds of the i-th
  pub name_at : (P : List ℕ → Type 0) (es : List (List ℕ × X)) (i : ℕ) (d : List ℕ × X)
      → i < length es
      → AllByRecursion P (keys_of es) → P (get_or es i d).0
  name_at P [] i d lt all = absurd (omega arith)
  name_at P (e ∷ es) zero d lt all = all.0
  name_at P (e ∷ es) (suc i) d lt all = name_at P es i d (omega arith) all.1

  -- an earlier name is below a later one
  far : (es : List (List ℕ × X)) (i j : ℕ) (d : List ℕ × X) → AreRising es → i < j → j < length es
      → text_cmp (get_or es i d).0 (get_or es j d).0 ≡ Less
  unfolding IsStrictlySortedBy
  far [] i j d rising lt within = absurd (omega arith)
  far (e ∷ es) i zero d rising lt within = absurd (omega arith)
  far (e ∷ es) zero (suc j) d rising lt within =
      name_at (λ k. text_cmp e.0 k ≡ Less) es j d (omega arith) rising.0
  far (e ∷ es) (suc i) (suc j) d rising lt within =
      far es i j d rising.1 (omega arith) (omega arith)

  -- the comparisons with a name rise along the list
  rises : (es : List (List ℕ × X)) (name : List ℕ) → AreRising es
      → IsNonDecreasingBy (λ e. ordering_index (text_cmp e.0 name)) es
  rises es name rising i j d le within = elim (cases_lt i j) [
    | inl lt ↦ rank (get_or es i d).0 (get_or es j d).0 name _ (far es i j d rising lt within) refl
    | inr ge ↦ let same : i ≡ j = omega arith in rw same (omega arith)
  ]

  -- a name that ties with the i-th stands there
  stands : (es : List (List ℕ × X)) (name : List ℕ) (i : ℕ) → i < length es → AreRising es
      → ((d : List ℕ × X) → text_cmp (get_or es i d).0 name ≡ Equal) → StandsAt es name i
  unfolding IsStrictlySortedBy
  stands [] name i lt rising tie = absurd (omega arith)
  stands (e ∷ es) name zero lt rising tie =
      let is = tied_back text_total e.0 name (tie e) in
      let same : bytes_eq name e.0 ≡ true = sym (is_eq-slice_cmp name e.0) ∙ ap is_eq is in
      record {
        within = omega arith;
        is_there = λ d. text_ties e.0 name (tie d);
        is_named = λ d. rw same refl;
        puts = λ d x. rw is refl;
      }
  stands (e ∷ es) name (suc i) lt rising tie =
      let at = name_at (λ k. text_cmp e.0 k ≡ Less) es i e (omega arith) rising.0 in
      let below : text_cmp e.0 name ≡ Less =
      sym (alike_right text_total (get_or es i e).0 name e.0 (tie e)) ∙ at in
      let above : text_cmp name e.0 ≡ Greater = turned e.0 name Less below in
      let not_here = other name e.0 Greater above refl in
      let rest = stands es name i (omega arith) rising.1 tie in
      record {
        within = omega (arith, rest.within);
        is_there = rest.is_there;
        is_named = λ d. rw not_here (rest.is_named d);
        puts = λ d x. rw above (ap (λ l. e ∷ l) (rest.puts d x));
      }

  -- a name below all names isn't there
  none_after : (es : List (List ℕ × X)) (name : List ℕ)
      → ((j : ℕ) (d : List ℕ × X) → j < length es → text_cmp (get_or es j d).0 name ≡ Greater)
      → named es name ≡ None
  none_after [] name after = refl
  none_after (e ∷ es) name after =
      let not_here = other name e.0 Less (turned e.0 name Greater (after 0 e (omega arith))) refl in
      rw not_here (none_after es name (λ j d lt. after (suc j) d (omega arith)))

  -- a name between those before i and those from i on belongs at i
  belongs : (es : List (List ℕ × X)) (name : List ℕ) (i : ℕ) → i ≤ length es
      → ((j : ℕ) (d : List ℕ × X) → j < i → text_cmp (get_or es j d).0 name ≡ Less)
      → ((j : ℕ) (d : List ℕ × X) → i ≤ j → j < length es
      → text_cmp (get_or es j d).0 name ≡ Greater)
      → BelongsAt es name i
  belongs [] name zero le before after = record { within = le; unnamed = refl; puts = λ x. refl }
  belongs [] name (suc i) le before after = absurd (omega arith)
  belongs (e ∷ es) name zero le before after =
      let below = turned e.0 name Greater (after 0 e (omega arith) (omega arith)) in
      record {
        within = le;
        unnamed = none_after (e ∷ es) name (λ j d lt. after j d (omega arith) lt);
        puts = λ x. rw below refl;
      }
  belongs (e ∷ es) name (suc i) le before after =
      let above = turned e.0 name Less (before 0 e (omega arith)) in
      let not_here = other name e.0 Greater above refl in
      let rest = belongs es name i (omega arith) (λ j d lt. before (suc j) d (omega arith))
      (λ j d ge lt. after (suc j) d (omega arith) (omega arith)) in
      record {
        within = omega (arith, rest.within);
        unnamed = rw not_here rest.unnamed;
        puts = λ x. rw above (ap (λ l. e ∷ l) (rest.puts x));
      }

  -- so a binary search finds where the name stands or belongs
  pub searched : (es : List (List ℕ × X)) (name : List ℕ) (r : Result ℕ ℕ) → AreRising es
      → IsSearchInRange r (length es) → IsBinarySearchResult (λ e. text_cmp e.0 name) es r
      → IfOk r (StandsAt es name) × IfErr r (BelongsAt es name)
  searched es name (Ok i) rising within tie = (stands es name i within rising tie, tt)
  searched es name (Err i) rising within parted =
      let parts = parted (rises es name rising) in
      let there = belongs es name i within (λ j d lt. parts.0 j d (omega arith) lt) parts.1 in
      (tt, there)
