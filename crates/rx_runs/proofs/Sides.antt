-- Names on two sides, and all of them by rising name.
use Rattle.std.proofs.Common.{◌≡◌, ℕ, ◌+◌, ◌<◌, ◌^◌, Bool, true, false, cond, List, [], ◌∷◌, length, Option, Some, None, slice_get, true≢false, refl, sym, ap, ◌∙◌, subst, arith}
use Rattle.std.proofs.lemmas.Slice.Eq.{bytes_eq-Decides}
use Rattle.std.specs.Iterator.{MakesProgress, at_most}
use Rattle.std.specs.List.{AllByRecursion}
use Rattle.std.specs.List.Sorted.{IsStrictlySortedBy}
use Rattle.std.specs.Map.{keys_of}
use Rattle.std.specs.Map.Iter.{TakesFirst}
use Rattle.std.specs.Option.{option_or}
use Rattle.std.specs.Ordering.{is_lt, match_ordering}
use Rattle.std.specs.Str.{bytes_eq, is_utf8}
use Rattle.std.specs.declared.cmp.Ordering.TheVariants.{Less, Equal, Greater}
use Rattle.rx_value.proofs.Bytes.{bytes_itself}
use Rattle.rx_value.proofs.Named.{named-put_in_order, put_in_order-rising}
use Rattle.rx_value.proofs.Ordered.{text_ties}
use Rattle.rx_value.proofs.Outcomes.{not_none, some_same}
use Rattle.rx_value.proofs.Removed.{all_without, without_none, without_rising}
use Rattle.rx_value.specs.Named.{named, put_in_order, without, AreRising}
use Rattle.rx_value.specs.Order.{text_cmp}
use Rattle.rx_runs.specs.Marked.{Marked, sides, merged, all_slots, with_mark, NoneTwice, GoesFirst, IsSide, AreSides}
use Rattle.rx_runs.specs.Run.{AllAbove}
use Rattle.rx_runs.proofs.Joined.{turned, above_lower, named-above, put-above, all_put, put_long, without_long}

module _ {X : Type 0} where
  -- ---- what is named

  -- in both
  pub named-merged : (es fs : List (List ℕ × X)) (k : List ℕ)
      → named (merged es fs) k ≡ option_or (named es k) (named fs k)
  named-merged [] fs k = refl
  named-merged (e ∷ es) fs k =
      named-put_in_order (merged es fs) e.0 k e.1
      ∙ ap (cond (bytes_eq k e.0) (Some e.1)) (named-merged es fs k)
      ∙ elim (bytes_eq k e.0)
      as (λ b. cond b (Some e.1) (option_or (named es k) (named fs k))
      ≡ option_or (cond b (Some e.1) (named es k)) (named fs k))
      [ true ↦ refl | false ↦ refl ]

  -- the first of rising names is none of the others
  first_alone : (e : List ℕ × X) (es : List (List ℕ × X)) → AreRising (e ∷ es)
      → named es e.0 ≡ None
  unfolding IsStrictlySortedBy
  first_alone e es rising = named-above e.0 es rising.0

  -- so what is named behind it is another
  other_behind : (e : List ℕ × X) (es : List (List ℕ × X)) (k : List ℕ) (x : X)
      → AreRising (e ∷ es) → named es k ≡ Some x → bytes_eq k e.0 ≡ false
  other_behind e es k x rising at =
      elim (bytes_eq k e.0) as (λ b. bytes_eq k e.0 ≡ b → b ≡ false) [
        | true ↦ (λ is. not_none
            (sym (first_alone e es rising) ∙ ap (named es) (sym ((bytes_eq-Decides k e.0).0 is))
            ∙ at))
        | false ↦ (λ is. refl)
      ] refl

  named_behind : (e : List ℕ × X) (es : List (List ℕ × X)) (k : List ℕ) (x : X)
      → AreRising (e ∷ es) → named es k ≡ Some x → named (e ∷ es) k ≡ Some x
  named_behind e es k x rising at =
      ap (λ b. cond b (Some e.1) (named es k)) (other_behind e es k x rising at) ∙ at

  -- without a name
  gone : (es : List (List ℕ × X)) (k : List ℕ) → AreRising es → named (without es k) k ≡ None
  unfolding IsStrictlySortedBy
  gone [] k rising = refl
  gone (e ∷ es) k rising =
      elim (bytes_eq k e.0)
      as (λ b. bytes_eq k e.0 ≡ b → named (cond b es (e ∷ without es k)) k ≡ None) [
        | true ↦ (λ is. ap (named es) ((bytes_eq-Decides k e.0).0 is) ∙ first_alone e es rising)
        | false ↦ (λ is. ap (λ b. cond b (Some e.1) (named (without es k) k)) is
            ∙ gone es k rising.1)
      ] refl

  left : (es : List (List ℕ × X)) (k q : List ℕ) → bytes_eq q k ≡ false
      → named (without es k) q ≡ named es q
  left [] k q differs = refl
  left (e ∷ es) k q differs =
      elim (bytes_eq k e.0)
      as (λ b. bytes_eq k e.0 ≡ b
      → named (cond b es (e ∷ without es k)) q ≡ cond (bytes_eq q e.0) (Some e.1) (named es q)) [
        | true ↦ (λ is. sym (ap (λ b. cond b (Some e.1) (named es q))
            (ap (bytes_eq q) (sym ((bytes_eq-Decides k e.0).0 is)) ∙ differs)))
        | false ↦ (λ is. ap (cond (bytes_eq q e.0) (Some e.1)) (left es k q differs))
      ] refl

  pub named-without : (es : List (List ℕ × X)) (k q : List ℕ) → AreRising es
      → named (without es k) q ≡ cond (bytes_eq q k) None (named es q)
  named-without es k q rising =
      elim (bytes_eq q k)
      as (λ b. bytes_eq q k ≡ b → named (without es k) q ≡ cond b None (named es q)) [
        | true ↦ (λ is. ap (named (without es k)) ((bytes_eq-Decides q k).0 is)
            ∙ gone es k rising)
        | false ↦ (λ is. left es k q is)
      ] refl

  -- ---- lists that name the same

  -- what names nothing is empty
  none_named : (es : List (List ℕ × X)) → ((k : List ℕ) → named es k ≡ None) → es ≡ []
  none_named [] none = refl
  none_named (e ∷ es) none =
      not_none (sym (none e.0) ∙ ap (λ b. cond b (Some e.1) (named es e.0)) (bytes_itself e.0))

  named_first : (e : List ℕ × X) (es : List (List ℕ × X)) → named (e ∷ es) e.0 ≡ Some e.1
  named_first e es = ap (λ b. cond b (Some e.1) (named es e.0)) (bytes_itself e.0)

  -- the lower of two first names is named in one alone
  lower_first : (e f : List ℕ × X) (es fs : List (List ℕ × X)) → AreRising (f ∷ fs)
      → text_cmp e.0 f.0 ≡ Less → named (e ∷ es) e.0 ≡ named (f ∷ fs) e.0 → ⊥
  unfolding IsStrictlySortedBy
  lower_first e f es fs rising less same =
      not_none
      (sym (named-above e.0 (f ∷ fs) (less, above_lower e.0 f.0 fs less rising.0)) ∙ sym same
      ∙ named_first e es)

  -- behind one first pair
  same_behind : (e : List ℕ × X) (es fs : List (List ℕ × X)) → AreRising (e ∷ es)
      → AreRising (e ∷ fs) → ((k : List ℕ) → named (e ∷ es) k ≡ named (e ∷ fs) k)
      → (k : List ℕ) → named es k ≡ named fs k
  same_behind e es fs rising rising' same k =
      elim (bytes_eq k e.0)
      as (λ b. bytes_eq k e.0 ≡ b
      → cond b (Some e.1) (named es k) ≡ cond b (Some e.1) (named fs k)
      → named es k ≡ named fs k) [
        | true ↦ (λ is h.
            let at = (bytes_eq-Decides k e.0).0 is in
            ap (named es) at ∙ first_alone e es rising ∙ sym (first_alone e fs rising')
            ∙ sym (ap (named fs) at))
        | false ↦ (λ is h. h)
      ] refl (same k)

  pub one_list : (es fs : List (List ℕ × X)) → AreRising es → AreRising fs
      → ((k : List ℕ) → named es k ≡ named fs k) → es ≡ fs
  unfolding IsStrictlySortedBy
  one_list [] fs rising rising' same = sym (none_named fs (λ k. sym (same k)))
  one_list (e ∷ es) [] rising rising' same = none_named (e ∷ es) same
  one_list (e ∷ es) (f ∷ fs) rising rising' same =
      elim (text_cmp e.0 f.0) as (λ o. text_cmp e.0 f.0 ≡ o → e ∷ es ≡ f ∷ fs) [
        | Less ↦ (λ is. absurd (lower_first e f es fs rising' is (same e.0)))
        | Equal ↦ (λ is.
            let name : e.0 ≡ f.0 = text_ties e.0 f.0 is in
            let thing : e.1 ≡ f.1 =
            some_same (sym (named_first e es) ∙ same e.0 ∙ ap (named (f ∷ fs)) name
            ∙ named_first f fs) in
            let pair : e ≡ f = λ i. (name i, thing i) in
            let there : AreRising (e ∷ fs) = subst (λ p. AreRising (p ∷ fs)) (sym pair) rising' in
            let rest = one_list es fs rising.1 rising'.1
            (same_behind e es fs rising there
            (λ k. same k ∙ ap (λ p. named (p ∷ fs) k) (sym pair))) in
            λ i. pair i ∷ rest i)
        | Greater ↦ (λ is. absurd (lower_first f e fs es rising
            (turned e.0 f.0 Greater is) (sym (same f.0))))
      ] refl

  -- ---- the pairs of both

  pub merged_rising : (es fs : List (List ℕ × X)) → AreRising fs → AreRising (merged es fs)
  merged_rising [] fs rising = rising
  merged_rising (e ∷ es) fs rising =
      put_in_order-rising (merged es fs) e.0 e.1 (merged_rising es fs rising)

  all_merged : (P : List ℕ → Type 0) (es fs : List (List ℕ × X)) → AllByRecursion P (keys_of es)
      → AllByRecursion P (keys_of fs) → AllByRecursion P (keys_of (merged es fs))
  all_merged P [] fs first second = second
  all_merged P (e ∷ es) fs first second =
      all_put P (merged es fs) e.0 e.1 first.0 (all_merged P es fs first.1 second)

  -- the first one, where it is of the first list
  pub merged_first : (e : List ℕ × X) (es fs : List (List ℕ × X)) → AreRising (e ∷ es)
      → AllAbove e.0 fs → merged (e ∷ es) fs ≡ e ∷ merged es fs
  unfolding IsStrictlySortedBy
  merged_first e es fs rising above =
      put-above e.0 e.1 (merged es fs)
      (all_merged (λ q. text_cmp e.0 q ≡ Less) es fs rising.0 above)

  -- where it is of the second
  pub merged_second : (es : List (List ℕ × X)) (f : List ℕ × X) (fs : List (List ℕ × X))
      → AllAbove f.0 es → merged es (f ∷ fs) ≡ f ∷ merged es fs
  merged_second [] f fs all = refl
  merged_second (e ∷ es) f fs all =
      ap (λ r. put_in_order r e.0 e.1) (merged_second es f fs all.1)
      ∙ ap (λ o. match_ordering o ((e.0, e.1) ∷ f ∷ merged es fs) ((f.0, e.1) ∷ merged es fs)
      (f ∷ put_in_order (merged es fs) e.0 e.1)) (turned f.0 e.0 Less all.0)

  -- a thing put where it is changes nothing
  pub put_again : (es : List (List ℕ × X)) (k : List ℕ) (x : X) → AreRising es
      → named es k ≡ Some x → put_in_order es k x ≡ es
  put_again es k x rising at =
      one_list (put_in_order es k x) es (put_in_order-rising es k x rising) rising
      (λ q. named-put_in_order es k q x
      ∙ elim (bytes_eq q k)
      as (λ b. bytes_eq q k ≡ b → cond b (Some x) (named es q) ≡ named es q) [
        | true ↦ (λ is. sym (ap (named es) ((bytes_eq-Decides q k).0 is) ∙ at))
        | false ↦ (λ is. refl)
      ] refl)

-- ---- a name that gets the mark, or loses it

-- of some things the first
or_first : {X : Type 0} (b : Bool) (x : X) (o p : Option X)
    → option_or (cond b (Some x) o) (cond b None p) ≡ cond b (Some x) (option_or o p)
or_first true x o p = refl
or_first false x o p = refl

or_second : {X : Type 0} (b : Bool) (x : X) (o p : Option X)
    → option_or (cond b None o) (cond b (Some x) p) ≡ cond b (Some x) (option_or o p)
or_second true x o p = refl
or_second false x o p = refl

neither : {X : Type 0} (o p : Option X) → option_or o p ≡ None → (o ≡ None) × (p ≡ None)
neither None p none = (refl, none)
neither (Some x) p none = not_none (sym none)

module _ (m : Marked) (lawful : AreSides m) (name : List ℕ) (slot : ℕ) where
  -- all names have it then
  pub all_with : (mark : Bool)
      → all_slots (with_mark m name slot mark) ≡ put_in_order (all_slots m) name slot
  all_with true =
      one_list (merged (without m.plain name) (put_in_order m.marked name slot))
      (put_in_order (all_slots m) name slot)
      (merged_rising (without m.plain name) (put_in_order m.marked name slot)
      (put_in_order-rising m.marked name slot lawful.marked.rising))
      (put_in_order-rising (all_slots m) name slot
      (merged_rising m.plain m.marked lawful.marked.rising))
      (λ q. named-merged (without m.plain name) (put_in_order m.marked name slot) q
      ∙ (λ i. option_or (named-without m.plain name q lawful.plain.rising i)
      (named-put_in_order m.marked name q slot i))
      ∙ or_second (bytes_eq q name) slot (named m.plain q) (named m.marked q)
      ∙ ap (cond (bytes_eq q name) (Some slot)) (sym (named-merged m.plain m.marked q))
      ∙ sym (named-put_in_order (all_slots m) name q slot))
  all_with false =
      one_list (merged (put_in_order m.plain name slot) (without m.marked name))
      (put_in_order (all_slots m) name slot)
      (merged_rising (put_in_order m.plain name slot) (without m.marked name)
      (without_rising m.marked name lawful.marked.rising))
      (put_in_order-rising (all_slots m) name slot
      (merged_rising m.plain m.marked lawful.marked.rising))
      (λ q. named-merged (put_in_order m.plain name slot) (without m.marked name) q
      ∙ (λ i. option_or (named-put_in_order m.plain name q slot i)
      (named-without m.marked name q lawful.marked.rising i))
      ∙ or_first (bytes_eq q name) slot (named m.plain q) (named m.marked q)
      ∙ ap (cond (bytes_eq q name) (Some slot)) (sym (named-merged m.plain m.marked q))
      ∙ sym (named-put_in_order (all_slots m) name q slot))

  -- no others where it had that slot
  pub all_turned : (mark : Bool) → named (all_slots m) name ≡ Some slot
      → all_slots (with_mark m name slot mark) ≡ all_slots m
  all_turned mark at =
      all_with mark
      ∙ put_again (all_slots m) name slot (merged_rising m.plain m.marked lawful.marked.rising) at

  -- a new name is on neither side
  pub absent : named (all_slots m) name ≡ None
      → (without m.plain name ≡ m.plain) × (without m.marked name ≡ m.marked)
  absent none =
      let both = neither (named m.plain name) (named m.marked name)
      (sym (named-merged m.plain m.marked name) ∙ none) in
      (without_none name m.plain both.0, without_none name m.marked both.1)

-- no name is on both sides then
pub apart_with : {X : Type 0} (es fs : List (List ℕ × X)) (k : List ℕ) (x : X) → AreRising es
    → NoneTwice es fs → NoneTwice (without es k) (put_in_order fs k x)
apart_with es fs k x rising apart q y at =
    named-put_in_order fs k q x
    ∙ elim (bytes_eq q k)
    as (λ b. cond b None (named es q) ≡ Some y → cond b (Some x) (named fs q) ≡ None) [
      | true ↦ (λ h. not_none h)
      | false ↦ (λ h. apart q y h)
    ] (sym (named-without es k q rising) ∙ at)

pub apart_turned : {X : Type 0} (es fs : List (List ℕ × X)) (k : List ℕ) (x : X) → AreRising fs
    → NoneTwice es fs → NoneTwice (put_in_order es k x) (without fs k)
apart_turned es fs k x rising apart q y at =
    named-without fs k q rising
    ∙ elim (bytes_eq q k)
    as (λ b. cond b (Some x) (named es q) ≡ Some y → cond b None (named fs q) ≡ None) [
      | true ↦ (λ h. refl)
      | false ↦ (λ h. apart q y h)
    ] (sym (named-put_in_order es k q x) ∙ at)

-- ---- one side

pub side_none : IsSide []
unfolding IsStrictlySortedBy
side_none = record { rising = tt; texts = tt; few = omega arith }

pub side_put : (es : List (List ℕ × ℕ)) (k : List ℕ) (s : ℕ) → is_utf8 k ≡ true → IsSide es
    → length es + 1 < 2 ^ 62 → IsSide (put_in_order es k s)
side_put es k s text side few =
    let long = put_long es k s in
    record {
      rising = put_in_order-rising es k s side.rising;
      texts = all_put (λ q. is_utf8 q ≡ true) es k s text side.texts;
      few = omega arith;
    }

pub side_without : (es : List (List ℕ × ℕ)) (k : List ℕ) → IsSide es → IsSide (without es k)
side_without es k side =
    let long = without_long es k in
    let few = side.few in
    record {
      rising = without_rising es k side.rising;
      texts = all_without (λ q. is_utf8 q ≡ true) es k side.texts;
      few = omega arith;
    }

-- ---- from the first on

-- behind the first of one list no name is on both still
pub apart_first : {X : Type 0} (e : List ℕ × X) (es fs : List (List ℕ × X)) → AreRising (e ∷ es)
    → NoneTwice (e ∷ es) fs → NoneTwice es fs
apart_first e es fs rising apart k x at = apart k x (named_behind e es k x rising at)

pub apart_second : {X : Type 0} (es : List (List ℕ × X)) (f : List ℕ × X)
    (fs : List (List ℕ × X)) → NoneTwice es (f ∷ fs) → NoneTwice es fs
apart_second es f fs apart k x at =
    elim (bytes_eq k f.0)
    as (λ b. cond b (Some f.1) (named fs k) ≡ None → named fs k ≡ None) [
      | true ↦ (λ h. not_none (sym h))
      | false ↦ (λ h. h)
    ] (apart k x at)

-- ---- which comes next

no_first : {A : Type 0} (xs : List A) → None ≡ slice_get xs 0 → xs ≡ []
no_first [] at = refl
no_first (x ∷ xs) at = not_none at

module _ {X : Type 0} where
  pub first_alone_there : (es fs : List (List ℕ × X)) → None ≡ slice_get fs 0 → GoesFirst es fs
  first_alone_there es fs at = record {
    none = λ _. no_first fs at;
    below = λ e rest is. subst (AllAbove e.0) (sym (no_first fs at)) tt;
  }

  lower_goes : (e : List ℕ × X) (es : List (List ℕ × X)) (f : List ℕ × X)
      (fs : List (List ℕ × X)) → AreRising (f ∷ fs) → text_cmp e.0 f.0 ≡ Less
      → GoesFirst (e ∷ es) (f ∷ fs)
  unfolding IsStrictlySortedBy
  lower_goes e es f fs rising less = record {
    none = λ is. absurd (cc);
    below = λ x rest is.
        let same : e ≡ x = cc in
        subst (λ p. AllAbove p.0 (f ∷ fs)) same (less, above_lower e.0 f.0 fs less rising.0);
  }

  -- the one of the lower first name goes first
  lower_first_goes : (e : List ℕ × X) (es : List (List ℕ × X)) (f : List ℕ × X)
      (fs : List (List ℕ × X)) → AreRising (e ∷ es) → AreRising (f ∷ fs)
      → NoneTwice (e ∷ es) (f ∷ fs)
      → (is_lt (text_cmp e.0 f.0) ≡ true → GoesFirst (e ∷ es) (f ∷ fs))
      × (is_lt (text_cmp e.0 f.0) ≡ false → GoesFirst (f ∷ fs) (e ∷ es))
  lower_first_goes e es f fs rising rising' apart =
      elim (text_cmp e.0 f.0)
      as (λ o. text_cmp e.0 f.0 ≡ o → (is_lt o ≡ true → GoesFirst (e ∷ es) (f ∷ fs))
      × (is_lt o ≡ false → GoesFirst (f ∷ fs) (e ∷ es))) [
        | Less ↦ (λ is. (
          λ yes. lower_goes e es f fs rising' is,
          λ no. absurd (true≢false no),
        ))
        | Equal ↦ (λ is.
            let name : e.0 ≡ f.0 = text_ties e.0 f.0 is in
            not_none (sym (apart e.0 e.1 (named_first e es)) ∙ ap (named (f ∷ fs)) name
            ∙ named_first f fs))
        | Greater ↦ (λ is. (
          λ yes. absurd (true≢false (sym yes)),
          λ no. lower_goes f fs e es rising (turned e.0 f.0 Greater is),
        ))
      ] refl

  pub decided : (es fs : List (List ℕ × X)) (e f : List ℕ × X) → AreRising es → AreRising fs
      → NoneTwice es fs → Some e ≡ slice_get es 0 → Some f ≡ slice_get fs 0
      → (is_lt (text_cmp e.0 f.0) ≡ true → GoesFirst es fs)
      × (is_lt (text_cmp e.0 f.0) ≡ false → GoesFirst fs es)
  decided [] fs e f rising rising' apart at at' = not_none (sym at)
  decided (x ∷ xs) [] e f rising rising' apart at at' = not_none (sym at')
  decided (x ∷ xs) (y ∷ ys) e f rising rising' apart at at' =
      let same : x ≡ e = some_same (sym at) in
      let same' : y ≡ f = some_same (sym at') in
      subst (λ p. (is_lt (text_cmp p.0 f.0) ≡ true → GoesFirst (x ∷ xs) (y ∷ ys))
      × (is_lt (text_cmp p.0 f.0) ≡ false → GoesFirst (y ∷ ys) (x ∷ xs))) same
      (subst (λ p. (is_lt (text_cmp x.0 p.0) ≡ true → GoesFirst (x ∷ xs) (y ∷ ys))
      × (is_lt (text_cmp x.0 p.0) ≡ false → GoesFirst (y ∷ ys) (x ∷ xs))) same'
      (lower_first_goes x xs y ys rising rising' apart))

-- the next pair of the one list that goes first is the next of both
pub step_first : {A X : Type 0} (shows : A → List ℕ × X) (es fs : List (List ℕ × X))
    (r : Option A) (rest : List (List ℕ × X)) → AreRising es → GoesFirst es fs
    → TakesFirst shows es r rest → TakesFirst shows (merged es fs) r (merged rest fs)
step_first shows es fs None rest rising goes (is, end) = (
  (λ i. merged (is i) (goes.none is i)),
  (λ i. merged (end i) (goes.none is i)),
)
step_first shows es fs (Some a) rest rising goes is =
    ap (λ xs. merged xs fs) is
    ∙ merged_first (shows a) rest fs (subst AreRising is rising) (goes.below (shows a) rest is)

pub step_second : {A X : Type 0} (shows : A → List ℕ × X) (es fs : List (List ℕ × X))
    (r : Option A) (rest : List (List ℕ × X)) → GoesFirst fs es
    → TakesFirst shows fs r rest → TakesFirst shows (merged es fs) r (merged es rest)
step_second shows es fs None rest goes (is, end) = (
  (λ i. merged (goes.none is i) (is i)),
  (λ i. merged (goes.none is i) (end i)),
)
step_second shows es fs (Some a) rest goes is =
    ap (merged es) is
    ∙ merged_second es (shows a) rest (goes.below (shows a) rest is)

-- what is left of both lists is as they were
pub rest_first : {A X : Type 0} (shows : A → List ℕ × X) (es fs : List (List ℕ × X))
    (r : Option A) (rest : List (List ℕ × X)) → AreRising es → NoneTwice es fs
    → TakesFirst shows es r rest → AreRising rest × NoneTwice rest fs
unfolding IsStrictlySortedBy
rest_first shows es fs None rest rising apart (is, end) =
    subst (λ xs. AreRising xs × NoneTwice xs fs) (is ∙ sym end) (rising, apart)
rest_first shows es fs (Some a) rest rising apart is =
    let there = subst AreRising is rising in (
      there.1,
      apart_first (shows a) rest fs there (subst (λ xs. NoneTwice xs fs) is apart),
    )

pub rest_second : {A X : Type 0} (shows : A → List ℕ × X) (es fs : List (List ℕ × X))
    (r : Option A) (rest : List (List ℕ × X)) → AreRising fs → NoneTwice es fs
    → TakesFirst shows fs r rest → AreRising rest × NoneTwice es rest
unfolding IsStrictlySortedBy
rest_second shows es fs None rest rising apart (is, end) =
    subst (λ xs. AreRising xs × NoneTwice es xs) (is ∙ sym end) (rising, apart)
rest_second shows es fs (Some a) rest rising apart is =
    let there = subst AreRising is rising in (
      there.1,
      apart_second es (shows a) rest (subst (λ xs. NoneTwice es xs) is apart),
    )

-- a call of `next` that takes the first goes on
pub goes_on : {A X : Type 0} (shows : A → X) (can : List X → Type 0) → ((xs : List X) → can xs)
    → (xs : List X) (r : Option A) (rest : List X) → TakesFirst shows xs r rest
    → MakesProgress can (λ ys. at_most (length ys)) xs r rest
goes_on shows can always xs None rest is =
    record { on = λ _. tt; keeps = tt; rests = λ _. tt }
goes_on shows can always xs (Some a) rest is =
    let less : length rest < length xs = omega (arith, ap length is) in
    record { on = λ _. (always rest, tt, less); keeps = always rest; rests = λ _. tt }

-- ---- both sides

module _ (m : Marked) (lawful : AreSides m) (name : List ℕ) (slot : ℕ) where
  -- a name that went to one side and left the other
  pub sides_marked : IsSide (put_in_order m.marked name slot)
      → AreSides (with_mark m name slot true)
  sides_marked side = record {
    plain = side_without m.plain name lawful.plain;
    marked = side;
    apart = apart_with m.plain m.marked name slot lawful.plain.rising lawful.apart;
  }

  pub sides_plain : IsSide (put_in_order m.plain name slot)
      → AreSides (with_mark m name slot false)
  sides_plain side = record {
    plain = side;
    marked = side_without m.marked name lawful.marked;
    apart = apart_turned m.plain m.marked name slot lawful.marked.rising lawful.apart;
  }

  -- one that was on neither side only goes to one
  pub added_marked : named (all_slots m) name ≡ None
      → sides m.plain (put_in_order m.marked name slot) ≡ with_mark m name slot true
  added_marked none =
      ap (λ es. sides es (put_in_order m.marked name slot)) (sym (absent m lawful name slot none).0)

  pub added_plain : named (all_slots m) name ≡ None
      → sides (put_in_order m.plain name slot) m.marked ≡ with_mark m name slot false
  added_plain none =
      ap (sides (put_in_order m.plain name slot)) (sym (absent m lawful name slot none).1)
