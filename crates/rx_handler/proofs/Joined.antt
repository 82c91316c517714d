-- Joined fields have the greater of two values at each name.
use Rattle.std.proofs.Common.{◌≡◌, ℕ, zero, suc, ◌+◌, Bool, true, false, cond, ◌||◌, List, [], ◌∷◌, drop, add-one, Option, Some, None, refl, sym, ap, ◌∙◌, subst, slice_get}
use Rattle.std.proofs.lemmas.Map.Text.{is_eq-slice_cmp}
use Rattle.std.proofs.lemmas.Slice.Eq.{bytes_eq-Decides}
use Rattle.std.specs.List.{AllByRecursion, list_any}
use Rattle.std.specs.List.Sorted.{IsStrictlySortedBy}
use Rattle.std.specs.Map.{keys_of}
use Rattle.std.specs.Ordering.{is_eq, is_lt, ordering_reverse}
use Rattle.std.specs.Str.{bytes_eq}
use Rattle.std.specs.declared.cmp.Ordering.TheVariants.{Less}
use Rattle.rx_value.specs.Fields.{Pair, Pairs, AreFields}
use Rattle.rx_value.specs.Named.{named, put_in_order, AreRising}
use Rattle.rx_value.specs.Order.{order_of, text_cmp}
use Rattle.rx_value.specs.Value.{is_value}
use Rattle.rx_value.specs.declared.value.Value.{Value}
use Rattle.rx_value.proofs.Named.{named-put_in_order}
use Rattle.rx_value.proofs.Ordered.{text_total}
use Rattle.rx_value.proofs.Setting.{put_fields, value_in}
use Rattle.rx_value.proofs.Outcomes.{some_same}
use Rattle.rx_handler.specs.Resolve.{greater_of, raised_to, joined_at, JoinsFieldByField, JoinsToFields}

-- ---- names and values by index

-- the names from a place on
pub keys_from : (ps : Pairs) (i : ℕ) (p : Pair) → slice_get ps i ≡ Some p
    → drop i (keys_of ps) ≡ p.0 ∷ drop (i + 1) (keys_of ps)
keys_from [] i p at = absurd (cc)
keys_from (q ∷ ps) zero p at =
    let same : q ≡ p = some_same at in
    ap (λ (r : Pair). r.0 ∷ keys_of ps) same
keys_from (q ∷ ps) (suc i) p at =
    keys_from ps i p at ∙ ap (λ j. p.0 ∷ drop j (keys_of ps)) (add-one i)
    ∙ ap (λ j. p.0 ∷ drop j (keys_of (q ∷ ps))) (sym (add-one (suc i)))

-- what stands at a later place has a name above the first
above_first : (k : List ℕ) (ps : Pairs) (i : ℕ) (p : Pair)
    → AllByRecursion (λ l. text_cmp k l ≡ Less) (keys_of ps) → slice_get ps i ≡ Some p
    → text_cmp k p.0 ≡ Less
above_first k [] i p above at = absurd (cc)
above_first k (q ∷ ps) zero p above at =
    let same : q ≡ p = some_same at in
    subst (λ (r : Pair). text_cmp k r.0 ≡ Less) same above.0
above_first k (q ∷ ps) (suc i) p above at = above_first k ps i p above.1 at

-- what stands at a place among rising names is found by its name
pub at_index : (ps : Pairs) (i : ℕ) (p : Pair) → AreRising ps → slice_get ps i ≡ Some p
    → named ps p.0 ≡ Some p.1
unfolding IsStrictlySortedBy
at_index [] i p rising at = absurd (cc)
at_index (q ∷ ps) zero p rising at =
    let same : q ≡ p = some_same at in
    subst (λ (r : Pair). cond (bytes_eq r.0 q.0) (Some q.1) (named ps r.0) ≡ Some r.1) same
    (ap (λ b. cond b (Some q.1) (named ps q.0)) ((bytes_eq-Decides q.0 q.0).1 refl))
at_index (q ∷ ps) (suc i) p rising at =
    let less = above_first q.0 ps i p rising.0 at in
    let other : bytes_eq p.0 q.0 ≡ false =
    sym (is_eq-slice_cmp p.0 q.0)
    ∙ ap is_eq (text_total.antisymm p.0 q.0 ∙ ap ordering_reverse less) in
    ap (λ b. cond b (Some q.1) (named ps p.0)) other ∙ at_index ps i p rising.1 at

-- ---- one name

-- a name that is the other, or not
at_name : (same : Bool) (ps : Pairs) (name other : List ℕ) → bytes_eq name other ≡ same
    → named ps name ≡ cond same (named ps other) (named ps name)
at_name true ps name other is = ap (named ps) ((bytes_eq-Decides name other).0 is)
at_name false ps name other is = refl

-- a missing value is never the greater
pub greater_of-none : (a : Option Value) → greater_of a None ≡ a
greater_of-none None = refl
greater_of-none (Some v) = refl

-- what is found after one value
named-raised_to : (ps : Pairs) (other : List ℕ) (w : Option Value) (name : List ℕ)
    → named (raised_to ps other w) name
    ≡ cond (bytes_eq name other) (greater_of (named ps other) w) (named ps name)
named-raised_to ps other None name =
    at_name (bytes_eq name other) ps name other refl
    ∙ ap (λ v. cond (bytes_eq name other) v (named ps name))
    (sym (greater_of-none (named ps other)))
named-raised_to ps other (Some v) name =
    elim (is_lt (order_of (named ps other) (Some v)))
    as (λ b. named (cond b (put_in_order ps other v) ps) name
    ≡ cond (bytes_eq name other) (cond b (Some v) (named ps other)) (named ps name)) [
      | true ↦ named-put_in_order ps other name v
      | false ↦ at_name (bytes_eq name other) ps name other refl
    ]

-- fields stay fields
raised_to-fields : (ps : Pairs) (name : List ℕ) (v : Value) → AreFields ps → is_value v ≡ true
    → AreFields (raised_to ps name (Some v))
raised_to-fields ps name v fields is =
    elim (is_lt (order_of (named ps name) (Some v)))
    as (λ b. AreFields (cond b (put_in_order ps name v) ps))
    [ true ↦ put_fields ps name v fields is | false ↦ fields ]

-- ---- all names

-- the greater one stays the greater
twice : (b c : Bool) (x y : Option Value) → (b ≡ false → c ≡ false)
    → cond c y (cond b y x) ≡ cond b y x
twice true true x y low = refl
twice true false x y low = refl
twice false c x y low = ap (λ d. cond d y x) (low refl)

greater_of-twice : (a b : Option Value) → greater_of (greater_of a b) b ≡ greater_of a b
greater_of-twice a b =
    elim (is_lt (order_of a b)) as (λ t. is_lt (order_of a b) ≡ t
    → cond (is_lt (order_of (cond t b a) b)) b (cond t b a) ≡ cond t b a) [
      | true ↦ (λ is. elim (is_lt (order_of b b)) as (λ c. cond c b b ≡ b)
          [ true ↦ refl | false ↦ refl ])
      | false ↦ (λ is. ap (λ c. cond c b a) is)
    ] refl

-- one of the names, and then the rest
names_step : (same later : Bool) (a w : Option Value)
    → cond later (greater_of (cond same (greater_of a w) a) w) (cond same (greater_of a w) a)
    ≡ cond (same || later) (greater_of a w) a
names_step true true a w = greater_of-twice a w
names_step true false a w = refl
names_step false true a w = refl
names_step false false a w = refl

same_value : (same : Bool) (ps qs : Pairs) (name other : List ℕ) → bytes_eq name other ≡ same
    → cond same (greater_of (named ps other) (named qs other)) (named ps name)
    ≡ cond same (greater_of (named ps name) (named qs name)) (named ps name)
same_value true ps qs name other is =
    ap (λ n. greater_of (named ps n) (named qs n)) (sym ((bytes_eq-Decides name other).0 is))
same_value false ps qs name other is = refl

-- at the names that are gone through the greater value, at any other the first
named-joined_at : (qs : Pairs) (names : List (List ℕ)) (ps : Pairs) (name : List ℕ)
    → named (joined_at qs names ps) name
    ≡ cond (list_any (bytes_eq name) names) (greater_of (named ps name) (named qs name))
    (named ps name)
named-joined_at qs [] ps name = refl
named-joined_at qs (n ∷ names) ps name =
    named-joined_at qs names (raised_to ps n (named qs n)) name
    ∙ ap (λ v. cond (list_any (bytes_eq name) names) (greater_of v (named qs name)) v)
    (named-raised_to ps n (named qs n) name ∙ same_value (bytes_eq name n) ps qs name n refl)
    ∙ names_step (bytes_eq name n) (list_any (bytes_eq name) names) (named ps name) (named qs name)

-- a name that is none of the names is not found
not_among : (b c : Bool) (v : Value) (rest : Option Value) → (b || c) ≡ false
    → (c ≡ false → rest ≡ None) → cond b (Some v) rest ≡ None
not_among true c v rest none later = absurd (cc)
not_among false c v rest none later = later none

named-absent : (qs : Pairs) (name : List ℕ) → list_any (bytes_eq name) (keys_of qs) ≡ false
    → named qs name ≡ None
named-absent [] name none = refl
named-absent (q ∷ qs) name none =
    not_among (bytes_eq name q.0) (list_any (bytes_eq name) (keys_of qs)) q.1 (named qs name) none
    (named-absent qs name)

-- at each name the greater value
pub joins : JoinsFieldByField
joins ps qs name =
    named-joined_at qs (keys_of qs) ps name
    ∙ elim (list_any (bytes_eq name) (keys_of qs))
    as (λ b. list_any (bytes_eq name) (keys_of qs) ≡ b
    → cond b (greater_of (named ps name) (named qs name)) (named ps name)
    ≡ greater_of (named ps name) (named qs name)) [
      | true ↦ (λ is. refl)
      | false ↦ (λ is. sym (ap (greater_of (named ps name)) (named-absent qs name is)
          ∙ greater_of-none (named ps name)))
    ] refl

joined_at-fields : (qs : Pairs) (names : List (List ℕ)) (ps : Pairs) → AreFields ps
    → AllByRecursion (λ q. is_value q.1 ≡ true) qs → AreFields (joined_at qs names ps)
joined_at-fields qs [] ps fields all = fields
joined_at-fields qs (n ∷ names) ps fields all =
    joined_at-fields qs names (raised_to ps n (named qs n))
    (elim (named qs n) as (λ o. named qs n ≡ o → AreFields (raised_to ps n o)) [
      | None ↦ (λ is. fields)
      | Some v ↦ (λ is. raised_to-fields ps n v fields (value_in qs n all v is))
    ] refl)
    all

-- and they are fields
pub joins_fields : JoinsToFields
joins_fields ps qs these those = joined_at-fields qs (keys_of qs) ps these those.in_range
