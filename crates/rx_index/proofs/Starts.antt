-- Where positions stand among primary keys.
use Rattle.std.proofs.Common.{◌≡◌, ℕ, zero, suc, ◌≤◌, Bool, true, false, not, cond, ◌&&◌, List, [], ◌∷◌, ◌++◌, map, filter, length, Option, Some, None, Less, Equal, Greater, refl, sym, ap, ◌∙◌, subst, arith}
use Rattle.std.proofs.lemmas.List.{map-append}
use Rattle.std.specs.Cmp.{nat_cmp_is}
use Rattle.std.specs.List.{AllByRecursion}
use Rattle.std.specs.List.Sorted.{IsStrictlySortedBy}
use Rattle.std.specs.Map.{keys_of}
use Rattle.std.specs.Ordering.{is_le, is_lt, nat_cmp, ordering_then, match_ordering}
use Rattle.std.specs.Str.{is_utf8}
use Rattle.std.specs.declared.cmp.Ordering.{Ordering}
use Rattle.rx_value.proofs.Ordered.{text_total}
use Rattle.rx_value.specs.Named.{AreRising}
use Rattle.rx_value.specs.Order.{order_of, text_cmp}
use Rattle.rx_value.specs.declared.value.Value.{Value}
use Rattle.rx_value.specs.declared.value.Value.TheVariants.{Flag, Int, Text}
use Rattle.rx_index.specs.ByKey.{mark_key, mark_keys, behind_values, start_by, start_of, is_from, names_between, IsNameOf}
use Rattle.rx_index.specs.Index.{is_between, ids_between}
use Rattle.rx_index.specs.Position.{Position, position_cmp, precedes, values_cmp, id_of}
use Rattle.rx_index.proofs.Keys.{below_is, filter_long}

-- ---- texts

-- no text is below the empty one
from_least : (k : List ℕ) → is_le (text_cmp [] k) ≡ true
from_least [] = refl
from_least (c ∷ cs) = refl

from_zero : (c : ℕ) (cs : List ℕ) → true ≡ is_le (ordering_then (nat_cmp 0 c) (text_cmp [] cs))
from_zero zero cs = sym (from_least cs)
from_zero (suc c) cs =
    ap (λ o. is_le (ordering_then o (text_cmp [] cs))) (nat_cmp_is 0 (suc c) Less (omega arith))

-- the next text behind one is that with a zero
next_text : (t k : List ℕ) → is_lt (text_cmp t k) ≡ is_le (text_cmp (t ++ 0 ∷ []) k)
next_text [] [] = refl
next_text [] (c ∷ cs) = from_zero c cs
next_text (a ∷ t) [] = refl
next_text (a ∷ t) (c ∷ cs) =
    elim (nat_cmp a c)
    as (λ o. is_lt (ordering_then o (text_cmp t cs))
    ≡ is_le (ordering_then o (text_cmp (t ++ 0 ∷ []) cs)))
    [ Less ↦ refl | Equal ↦ next_text t cs | Greater ↦ refl ]

-- ---- positions before a key

-- an equal text, and then nothing or more
with_none : (o : Ordering) → is_le (ordering_then o Equal) ≡ is_le o
with_none Less = refl
with_none Equal = refl
with_none Greater = refl

with_more : (o : Ordering) → is_le (ordering_then o Greater) ≡ is_lt o
with_more Less = refl
with_more Equal = refl
with_more Greater = refl

behind_is : (xs : List (Option Value)) (after : Bool) (k : List ℕ)
    → is_le (values_cmp xs after (Some (Text k) ∷ []) false) ≡ is_from (behind_values xs after) k
behind_is [] true k = refl
behind_is [] false k = sym (from_least k)
behind_is (None ∷ xs) after k = sym (from_least k)
behind_is (Some (Flag b) ∷ xs) after k = sym (from_least k)
behind_is (Some (Int n) ∷ xs) after k = sym (from_least k)
behind_is (Some (Text t) ∷ []) true k = with_more (text_cmp t k) ∙ next_text t k
behind_is (Some (Text t) ∷ []) false k = with_none (text_cmp t k)
behind_is (Some (Text t) ∷ x ∷ xs) after k = with_more (text_cmp t k) ∙ next_text t k

-- a position is before a document's key from its start on
start_is : (deleted : Bool) (p : Position) (k : List ℕ)
    → precedes p (mark_key deleted k) ≡ is_from (start_of deleted p) k
start_is deleted p k = by p.values p.after
  where
    by : (xs : List (Option Value)) (after : Bool)
        → is_le (values_cmp xs after (Some (Flag deleted) ∷ Some (Text k) ∷ []) false)
        ≡ is_from (start_by deleted xs after) k
    by [] true = refl
    by [] false = sym (from_least k)
    by (x ∷ xs) after =
        elim (order_of x (Some (Flag deleted)))
        as (λ o. is_le (ordering_then o (values_cmp xs after (Some (Text k) ∷ []) false))
        ≡ is_from (match_ordering o (Some []) (behind_values xs after) None) k)
        [ Less ↦ sym (from_least k) | Equal ↦ behind_is xs after k | Greater ↦ refl ]

-- ---- names between two starts

abbrev Entry : Type 0
Entry = List ℕ × ℕ

filter_same : (f g : Entry → Bool) → ((e : Entry) → f e ≡ g e) → (es : List Entry)
    → filter f es ≡ filter g es
filter_same f g same [] = refl
filter_same f g same (e ∷ es) =
    let rest = filter_same f g same es in
    λ i. cond (same e i) (e ∷ rest i) (rest i)

filter_twice : (f g : Entry → Bool) (es : List Entry)
    → filter g (filter f es) ≡ filter (λ e. f e && g e) es
filter_twice f g [] = refl
filter_twice f g (e ∷ es) =
    let rest = filter_twice f g es in
    elim (f e) as (λ b. filter g (cond b (e ∷ filter f es) (filter f es))
    ≡ cond (b && g e) (e ∷ filter (λ e. f e && g e) es) (filter (λ e. f e && g e) es))
    [ true ↦ (λ i. cond (g e) (e ∷ rest i) (rest i)) | false ↦ rest ]

filter_none : (f : Entry → Bool) → ((e : Entry) → f e ≡ false) → (es : List Entry)
    → [] ≡ filter f es
filter_none f none [] = refl
filter_none f none (e ∷ es) =
    filter_none f none es ∙ ap (λ b. cond b (e ∷ filter f es) (filter f es)) (sym (none e))

and_true : (b : Bool) → b ≡ (b && true)
and_true true = refl
and_true false = refl

between_is : (o p : Option (List ℕ)) (es : List Entry)
    → names_between es o p ≡ filter (λ e. is_from o e.0 && not (is_from p e.0)) es
between_is None p es = filter_none (λ e. false) (λ e. refl) es
between_is (Some low) None es =
    filter_same (λ e. is_le (text_cmp low e.0)) (λ e. is_le (text_cmp low e.0) && true)
    (λ e. and_true (is_le (text_cmp low e.0))) es
between_is (Some low) (Some high) es =
    filter_twice (λ e. is_le (text_cmp low e.0)) (λ e. is_lt (text_cmp e.0 high)) es
    ∙ filter_same (λ e. is_le (text_cmp low e.0) && is_lt (text_cmp e.0 high))
    (λ e. is_le (text_cmp low e.0) && not (is_le (text_cmp high e.0)))
    (λ e. ap (λ b. is_le (text_cmp low e.0) && b)
    (ap is_lt (text_total.antisymm e.0 high) ∙ below_is (text_cmp high e.0))) es

-- the names that pass are the primary keys of the keys that do
passed_ids : (deleted : Bool) (f : Entry → Bool) (g : Position → Bool)
    → ((e : Entry) → f e ≡ g (mark_key deleted e.0)) → (es : List Entry)
    → map (λ e. e.0) (filter f es) ≡ map id_of (filter g (mark_keys deleted es))
passed_ids deleted f g same [] = refl
passed_ids deleted f g same (e ∷ es) =
    let rest = passed_ids deleted f g same es in
    ap (λ b. map (λ e. e.0) (cond b (e ∷ filter f es) (filter f es))) (same e)
    ∙ elim (g (mark_key deleted e.0))
    as (λ b. map (λ e. e.0) (cond b (e ∷ filter f es) (filter f es))
    ≡ map id_of (cond b (mark_key deleted e.0 ∷ filter g (mark_keys deleted es))
    (filter g (mark_keys deleted es))))
    [ true ↦ ap (λ ids. e.0 ∷ ids) rest | false ↦ rest ]

-- the names between the starts of two bounds are the primary keys between the bounds
ids_side : (deleted : Bool) (low high : Position) (es : List Entry)
    → map (λ e. e.0) (names_between es (start_of deleted low) (start_of deleted high))
    ≡ ids_between low high (mark_keys deleted es)
ids_side deleted low high es =
    ap (map (λ e. e.0)) (between_is (start_of deleted low) (start_of deleted high) es)
    ∙ passed_ids deleted
    (λ e. is_from (start_of deleted low) e.0 && not (is_from (start_of deleted high) e.0))
    (is_between low high)
    (λ e i. sym (start_is deleted low e.0) i && not (sym (start_is deleted high e.0) i)) es

filter_append : (f : Position → Bool) (ps qs : List Position)
    → filter f (ps ++ qs) ≡ filter f ps ++ filter f qs
filter_append f [] qs = refl
filter_append f (p ∷ ps) qs =
    let rest = filter_append f ps qs in
    elim (f p) as (λ b. cond b (p ∷ filter f (ps ++ qs)) (filter f (ps ++ qs))
    ≡ cond b (p ∷ filter f ps) (filter f ps) ++ filter f qs)
    [ true ↦ ap (λ ps. p ∷ ps) rest | false ↦ rest ]

-- of both kinds of documents
pub ids_of_names : (low high : Position) (live gone : List Entry)
    → map (λ e. e.0) (names_between live (start_of false low) (start_of false high)
    ++ names_between gone (start_of true low) (start_of true high))
    ≡ ids_between low high (mark_keys false live ++ mark_keys true gone)
ids_of_names low high live gone =
    map-append (λ (e : Entry). e.0) (names_between live (start_of false low) (start_of false high))
    (names_between gone (start_of true low) (start_of true high))
    ∙ (λ i. ids_side false low high live i ++ ids_side true low high gone i)
    ∙ sym (map-append id_of (filter (is_between low high) (mark_keys false live))
    (filter (is_between low high) (mark_keys true gone)))
    ∙ ap (map id_of) (sym (filter_append (is_between low high) (mark_keys false live)
    (mark_keys true gone)))

-- ---- their order

-- keys of one mark compare as their names do
one_mark : (deleted : Bool) (k l : List ℕ) → text_cmp k l ≡ Less
    → position_cmp (mark_key deleted k) (mark_key deleted l) ≡ Less
one_mark true k l less = ap (λ o. ordering_then o Equal) less
one_mark false k l less = ap (λ o. ordering_then o Equal) less

below_marks : (deleted : Bool) (k : List ℕ) (es : List Entry)
    → AllByRecursion (λ q. text_cmp k q ≡ Less) (keys_of es)
    → AllByRecursion (λ q. position_cmp (mark_key deleted k) q ≡ Less) (mark_keys deleted es)
below_marks deleted k [] all = tt
below_marks deleted k (e ∷ es) all =
    (one_mark deleted k e.0 all.0, below_marks deleted k es all.1)

below_gone : (k : List ℕ) (es : List Entry)
    → AllByRecursion (λ q. position_cmp (mark_key false k) q ≡ Less) (mark_keys true es)
below_gone k [] = tt
below_gone k (e ∷ es) = (refl, below_gone k es)

all_joined : (P : Position → Type 0) (ps qs : List Position) → AllByRecursion P ps
    → AllByRecursion P qs → AllByRecursion P (ps ++ qs)
all_joined P [] qs first second = second
all_joined P (p ∷ ps) qs first second = (first.0, all_joined P ps qs first.1 second)

gone_rise : (es : List Entry) → AreRising es → IsStrictlySortedBy position_cmp (mark_keys true es)
unfolding IsStrictlySortedBy
gone_rise [] rising = tt
gone_rise (e ∷ es) rising = (below_marks true e.0 es rising.0, gone_rise es rising.1)

pub keys_rise : (live gone : List Entry) → AreRising live → AreRising gone
    → IsStrictlySortedBy position_cmp (mark_keys false live ++ mark_keys true gone)
unfolding IsStrictlySortedBy
keys_rise [] gone rising rising' = gone_rise gone rising'
keys_rise (e ∷ live) gone rising rising' = (
  all_joined (λ q. position_cmp (mark_key false e.0) q ≡ Less) (mark_keys false live)
      (mark_keys true gone) (below_marks false e.0 live rising.0) (below_gone e.0 gone),
  keys_rise live gone rising.1 rising',
)

-- ---- they are texts, and no more than there are

texts_passed : (f : Entry → Bool) (es : List Entry)
    → AllByRecursion (λ k. is_utf8 k ≡ true) (keys_of es)
    → AllByRecursion (λ e. IsNameOf false e.0) (filter f es)
texts_passed f [] all = tt
texts_passed f (e ∷ es) all =
    elim (f e)
    as (λ b. AllByRecursion (λ e. IsNameOf false e.0) (cond b (e ∷ filter f es) (filter f es)))
    [ true ↦ (all.0, texts_passed f es all.1) | false ↦ texts_passed f es all.1 ]

all_entries : (P : Entry → Type 0) (es fs : List Entry) → AllByRecursion P es
    → AllByRecursion P fs → AllByRecursion P (es ++ fs)
all_entries P [] fs first second = second
all_entries P (e ∷ es) fs first second = (first.0, all_entries P es fs first.1 second)

pub texts_between : (o p o' p' : Option (List ℕ)) (live gone : List Entry)
    → AllByRecursion (λ k. is_utf8 k ≡ true) (keys_of live)
    → AllByRecursion (λ k. is_utf8 k ≡ true) (keys_of gone)
    → AllByRecursion (λ e. IsNameOf false e.0)
    (names_between live o p ++ names_between gone o' p')
texts_between o p o' p' live gone texts texts' =
    all_entries (λ e. IsNameOf false e.0) (names_between live o p) (names_between gone o' p')
    (subst (AllByRecursion (λ e. IsNameOf false e.0)) (sym (between_is o p live))
    (texts_passed (λ e. is_from o e.0 && not (is_from p e.0)) live texts))
    (subst (AllByRecursion (λ e. IsNameOf false e.0)) (sym (between_is o' p' gone))
    (texts_passed (λ e. is_from o' e.0 && not (is_from p' e.0)) gone texts'))

pub between_few : (o p : Option (List ℕ)) (es : List Entry)
    → length (names_between es o p) ≤ length es
between_few o p es =
    subst (λ fs. length fs ≤ length es) (sym (between_is o p es))
    (filter_long (λ e. is_from o e.0 && not (is_from p e.0)) es)
