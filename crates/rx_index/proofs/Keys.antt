-- The keys of an index in a run of names.
use Rattle.std.proofs.Common.{◌≡◌, ℕ, ◌≤◌, Bool, true, false, not, cond, ◌&&◌, ◌||◌, List, [], ◌∷◌, ◌++◌, map, filter, length, Option, Some, Less, Equal, Greater, refl, sym, ap, subst, ◌∙◌, arith}
use Rattle.std.proofs.lemmas.Bool.{false≢true}
use Rattle.std.proofs.lemmas.Slice.Eq.{bytes_eq-Decides}
use Rattle.std.specs.List.{AllByRecursion}
use Rattle.std.specs.List.Sorted.{IsStrictlySortedBy}
use Rattle.std.specs.Map.{keys_of}
use Rattle.std.specs.Ordering.{is_eq, is_le, is_lt, ordering_reverse, match_ordering}
use Rattle.std.specs.Str.{bytes_eq}
use Rattle.std.specs.declared.cmp.Ordering.{Ordering}
use Rattle.rx_document.specs.declared.stored.Stored.{Stored}
use Rattle.rx_runs.specs.Run.{from_name, between}
use Rattle.rx_value.proofs.Ordered.{text_ties}
use Rattle.rx_value.specs.Named.{named, put_in_order, without, AreRising}
use Rattle.rx_value.specs.Order.{text_cmp}
use Rattle.rx_value.specs.declared.value.Value.{Value}
use Rattle.rx_value.specs.declared.value.Value.TheVariants.{Flag, Text}
use Rattle.rx_index.specs.Index.{has_key, is_between, ids_between}
use Rattle.rx_index.specs.Ordered.{position_total}
use Rattle.rx_index.specs.Packed.{packed, AreLawful, ends_in_text, unpacked, IsKeyOf, IsKey, AreKeys, positions, ids_in}
use Rattle.rx_index.specs.Position.{Position, position_cmp, precedes, key_values, key_of, id_of}
use Rattle.rx_index.proofs.Packing.{packed_alike, unpacked-packed}
use Rattle.rx_index.proofs.Positions.{position_eq-Decides}

-- ---- one key

-- a text at the end
ends-append : (xs : List (Option Value)) (t : List ℕ)
    → ends_in_text (xs ++ Some (Text t) ∷ []) ≡ true
ends-append [] t = refl
ends-append (x ∷ []) t = refl
ends-append (x ∷ y ∷ ys) t = ends-append (y ∷ ys) t

-- what stands before the primary key
abbrev key_front : List (List ℕ) → Stored → List (Option Value)
key_front fields d =
    Some (Flag d.state.deleted) ∷ map (λ field. named d.state.fields field) fields

-- a document's key tells its position
pub unpacked-key : (fields : List (List ℕ)) (d : Stored) (bs : List ℕ) → IsKeyOf fields d bs
    → unpacked bs ≡ key_of fields d
unpacked-key fields d bs k = ap unpacked k.is ∙ unpacked-packed (key_values fields d) k.lawful

-- and is one
pub key_is : (fields : List (List ℕ)) (d : Stored) (bs : List ℕ) → IsKeyOf fields d bs → IsKey bs
key_is fields d bs k =
    let back = unpacked-key fields d bs k in
    record {
      lawful = subst (λ p. AreLawful p.values) (sym back) k.lawful;
      exact = ap packed back ∙ sym k.is;
      ended = ap (λ p. ends_in_text p.values) back ∙ ends-append (key_front fields d) d.state.key;
    }

-- keys compare as their positions do, and as a bound does with one
pub keys_alike : (bs cs : List ℕ) → IsKey bs → IsKey cs
    → text_cmp bs cs ≡ position_cmp (unpacked bs) (unpacked cs)
keys_alike bs cs k l =
    (λ i. text_cmp (sym k.exact i) (sym l.exact i))
    ∙ packed_alike (unpacked bs) (unpacked cs) k.lawful l.lawful

low_alike : (p : Position) (bs : List ℕ) → AreLawful p.values → IsKey bs
    → text_cmp (packed p) bs ≡ position_cmp p (unpacked bs)
low_alike p bs h k =
    ap (text_cmp (packed p)) (sym k.exact) ∙ packed_alike p (unpacked bs) h k.lawful

high_alike : (p : Position) (bs : List ℕ) → AreLawful p.values → IsKey bs
    → text_cmp bs (packed p) ≡ position_cmp (unpacked bs) p
high_alike p bs h k =
    ap (λ cs. text_cmp cs (packed p)) (sym k.exact) ∙ packed_alike (unpacked bs) p k.lawful h

-- keys of one position are one
one_name : (bs cs : List ℕ) → IsKey bs → IsKey cs → unpacked bs ≡ unpacked cs → bs ≡ cs
one_name bs cs k l same = sym k.exact ∙ ap packed same ∙ l.exact

-- ---- their order

rise_above : (name : List ℕ) (es : List (List ℕ × ℕ)) → IsKey name → AreKeys es
    → AllByRecursion (λ q. text_cmp name q ≡ Less) (keys_of es)
    → AllByRecursion (λ q. position_cmp (unpacked name) q ≡ Less) (positions es)
rise_above name [] k ks h = tt
rise_above name (e ∷ es) k ks h =
    (sym (keys_alike name e.0 k ks.0) ∙ h.0, rise_above name es k ks.1 h.1)

-- they rise as their names do
pub rising : (es : List (List ℕ × ℕ)) → AreKeys es → AreRising es
    → IsStrictlySortedBy position_cmp (positions es)
unfolding IsStrictlySortedBy
rising [] ks h = tt
rising (e ∷ es) ks h = (rise_above e.0 es ks.0 ks.1 h.0, rising es ks.1 h.1)

-- ---- which there are

flipped : (p q : Position) → is_eq (position_cmp p q) ≡ is_eq (position_cmp q p)
flipped p q = ap is_eq (position_total.antisymm p q) ∙ same (position_cmp q p)
  where
    same : (o : Ordering) → is_eq (ordering_reverse o) ≡ is_eq o
    same Less = refl
    same Equal = refl
    same Greater = refl

-- one more test among some
or_if : (b c : Bool) → (b || c) ≡ cond b true c
or_if true c = refl
or_if false c = refl

-- the same test again
or_twice : (b c : Bool) → (b || c) ≡ cond b true (b || c)
or_twice true c = refl
or_twice false c = refl

or_behind : (b c d : Bool) → (c || cond b true d) ≡ cond b true (c || d)
or_behind true true d = refl
or_behind true false d = refl
or_behind false c d = refl

put_key : (es : List (List ℕ × ℕ)) (name : List ℕ) (slot : ℕ) (k : Position)
    → has_key (positions (put_in_order es name slot)) k
    ≡ cond (is_eq (position_cmp k (unpacked name))) true (has_key (positions es) k)
put_key [] name slot k = or_if (is_eq (position_cmp k (unpacked name))) false
put_key (e ∷ es) name slot k =
    (elim (text_cmp name e.0) as (λ o. text_cmp name e.0 ≡ o
    → has_key (positions (match_ordering o ((name, slot) ∷ e ∷ es) ((e.0, slot) ∷ es)
    (e ∷ put_in_order es name slot))) k
    ≡ cond (is_eq (position_cmp k (unpacked name))) true (has_key (positions (e ∷ es)) k)) [
      | Less ↦ (λ h. or_if (is_eq (position_cmp k (unpacked name))) _)
      | Equal ↦ (λ h. subst (λ n. has_key (positions (e ∷ es)) k
          ≡ cond (is_eq (position_cmp k (unpacked n))) true (has_key (positions (e ∷ es)) k))
          (sym (text_ties name e.0 h)) (or_twice (is_eq (position_cmp k (unpacked e.0))) _))
      | Greater ↦ (λ h. ap (λ b. is_eq (position_cmp k (unpacked e.0)) || b)
          (put_key es name slot k)
          ∙ or_behind (is_eq (position_cmp k (unpacked name)))
          (is_eq (position_cmp k (unpacked e.0))) (has_key (positions es) k))
    ]) refl

-- a key that goes in
pub added : (es : List (List ℕ × ℕ)) (name : List ℕ) (slot : ℕ) (k : Position)
    → has_key (positions (put_in_order es name slot)) k
    ≡ cond (is_eq (position_cmp (unpacked name) k)) true (has_key (positions es) k)
added es name slot k =
    put_key es name slot k
    ∙ ap (λ b. cond b true (has_key (positions es) k)) (flipped k (unpacked name))

-- a key more at the end
pub added_last : (es : List (List ℕ × ℕ)) (name : List ℕ) (slot : ℕ) (k : Position)
    → has_key (positions (es ++ (name, slot) ∷ [])) k
    ≡ cond (is_eq (position_cmp (unpacked name) k)) true (has_key (positions es) k)
added_last [] name slot k =
    or_if (is_eq (position_cmp k (unpacked name))) false
    ∙ ap (λ b. cond b true false) (flipped k (unpacked name))
added_last (e ∷ es) name slot k =
    ap (λ b. is_eq (position_cmp k (unpacked e.0)) || b) (added_last es name slot k)
    ∙ or_behind (is_eq (position_cmp (unpacked name) k)) (is_eq (position_cmp k (unpacked e.0)))
    (has_key (positions es) k)

-- a key that goes from those to come to those that are there
or_over : (b c d : Bool) → (cond b true c || d) ≡ (c || (b || d))
or_over true true d = refl
or_over true false d = refl
or_over false c d = refl

pub added_over : (keys : List Position) (name : List ℕ) (slot : ℕ) (es : List (List ℕ × ℕ))
    (k : Position)
    → (cond (is_eq (position_cmp (unpacked name) k)) true (has_key keys k)
    || has_key (positions es) k)
    ≡ (has_key keys k || has_key (positions ((name, slot) ∷ es)) k)
added_over keys name slot es k =
    ap (λ b. cond b true (has_key keys k) || has_key (positions es) k) (flipped (unpacked name) k)
    ∙ or_over (is_eq (position_cmp k (unpacked name))) (has_key keys k) (has_key (positions es) k)

-- no key ties with one below them all
none_above : (p : Position) (ps : List Position) → AllByRecursion (λ q. position_cmp p q ≡ Less) ps
    → has_key ps p ≡ false
none_above p [] h = refl
none_above p (q ∷ qs) h = ap (λ o. is_eq o || has_key qs p) h.0 ∙ none_above p qs h.1

-- where the key of that name stands first
first_out : (b c : Bool) → (b ≡ true → c ≡ false) → c ≡ cond b false (b || c)
first_out true c h = h refl
first_out false c h = refl

-- where it may stand behind another one
later_out : (b c d : Bool) → (b ≡ true → c ≡ false)
    → (c || cond b false d) ≡ cond b false (c || d)
later_out true true d h = absurd (false≢true (sym (h refl)))
later_out true false d h = refl
later_out false c d h = refl

take_key : (es : List (List ℕ × ℕ)) (name : List ℕ) (k : Position) → IsKey name → AreKeys es
    → AreRising es
    → has_key (positions (without es name)) k
    ≡ cond (is_eq (position_cmp k (unpacked name))) false (has_key (positions es) k)
unfolding IsStrictlySortedBy
take_key [] name k key ks h = elim (is_eq (position_cmp k (unpacked name)))
    as (λ b. false ≡ cond b false false) [ true ↦ refl | false ↦ refl ]
take_key (e ∷ es) name k key ks h =
    (elim (bytes_eq name e.0) as (λ b. bytes_eq name e.0 ≡ b
    → has_key (positions (cond b es (e ∷ without es name))) k
    ≡ cond (is_eq (position_cmp k (unpacked name))) false (has_key (positions (e ∷ es)) k)) [
      | true ↦ (λ is. subst (λ n. has_key (positions es) k
          ≡ cond (is_eq (position_cmp k (unpacked n))) false (has_key (positions (e ∷ es)) k))
          (sym ((bytes_eq-Decides name e.0).0 is))
          (first_out (is_eq (position_cmp k (unpacked e.0))) (has_key (positions es) k)
          (λ t. ap (has_key (positions es)) ((position_eq-Decides k (unpacked e.0)).0 t)
          ∙ none_above (unpacked e.0) (positions es)
          (rise_above e.0 es ks.0 ks.1 h.0))))
      | false ↦ (λ is. ap (λ b. is_eq (position_cmp k (unpacked e.0)) || b)
          (take_key es name k key ks.1 h.1)
          ∙ later_out (is_eq (position_cmp k (unpacked name)))
          (is_eq (position_cmp k (unpacked e.0))) (has_key (positions es) k)
          (λ t. other e.0 ks.0 is t))
    ]) refl
  where
    other : (q : List ℕ) → IsKey q → bytes_eq name q ≡ false
        → is_eq (position_cmp k (unpacked name)) ≡ true
        → is_eq (position_cmp k (unpacked q)) ≡ false
    other q l is t = (elim (is_eq (position_cmp k (unpacked q)))
        as (λ b. is_eq (position_cmp k (unpacked q)) ≡ b → b ≡ false) [
          | true ↦ (λ u. absurd (false≢true (sym is ∙ (bytes_eq-Decides name q).1
              (one_name name q key l (sym ((position_eq-Decides k (unpacked name)).0 t)
              ∙ (position_eq-Decides k (unpacked q)).0 u)))))
          | false ↦ (λ u. refl)
        ]) refl

-- a key that comes out
pub taken : (es : List (List ℕ × ℕ)) (name : List ℕ) (k : Position) → IsKey name → AreKeys es
    → AreRising es
    → has_key (positions (without es name)) k
    ≡ cond (is_eq (position_cmp (unpacked name) k)) false (has_key (positions es) k)
taken es name k key ks h =
    take_key es name k key ks h
    ∙ ap (λ b. cond b false (has_key (positions es) k)) (flipped k (unpacked name))

-- ---- they stay keys, and no more than memory holds

pub put_keys : (es : List (List ℕ × ℕ)) (name : List ℕ) (slot : ℕ) → IsKey name → AreKeys es
    → AreKeys (put_in_order es name slot)
put_keys [] name slot k ks = (k, tt)
put_keys (e ∷ es) name slot k ks =
    elim (text_cmp name e.0) as (λ o. AreKeys (match_ordering o ((name, slot) ∷ e ∷ es)
    ((e.0, slot) ∷ es) (e ∷ put_in_order es name slot)))
    [ Less ↦ (k, ks) | Equal ↦ ks | Greater ↦ (ks.0, put_keys es name slot k ks.1) ]

pub without_keys : (es : List (List ℕ × ℕ)) (name : List ℕ) → AreKeys es
    → AreKeys (without es name)
without_keys [] name ks = tt
without_keys (e ∷ es) name ks =
    elim (bytes_eq name e.0) as (λ b. AreKeys (cond b es (e ∷ without es name)))
    [ true ↦ ks.1 | false ↦ (ks.0, without_keys es name ks.1) ]

filter_keys : (f : List ℕ × ℕ → Bool) (es : List (List ℕ × ℕ)) → AreKeys es → AreKeys (filter f es)
filter_keys f [] ks = tt
filter_keys f (e ∷ es) ks =
    elim (f e) as (λ b. AreKeys (cond b (e ∷ filter f es) (filter f es)))
    [ true ↦ (ks.0, filter_keys f es ks.1) | false ↦ filter_keys f es ks.1 ]

pub filter_long : (f : List ℕ × ℕ → Bool) (es : List (List ℕ × ℕ)) → length (filter f es) ≤ length es
filter_long f [] = omega arith
filter_long f (e ∷ es) =
    let rest = filter_long f es in
    elim (f e) as (λ b. length (cond b (e ∷ filter f es) (filter f es)) ≤ length (e ∷ es))
    [ true ↦ omega arith | false ↦ omega arith ]

pub between_keys : (es : List (List ℕ × ℕ)) (low high : List ℕ) → AreKeys es
    → AreKeys (between es low high)
between_keys es low high ks =
    filter_keys (λ e. is_lt (text_cmp e.0 high)) (from_name es low)
    (filter_keys (λ e. is_le (text_cmp low e.0)) es ks)

pub between_long : (es : List (List ℕ × ℕ)) (low high : List ℕ)
    → length (between es low high) ≤ length es
between_long es low high =
    let one = filter_long (λ e. is_lt (text_cmp e.0 high)) (from_name es low) in
    let two = filter_long (λ e. is_le (text_cmp low e.0)) es in
    omega arith

-- ---- those between two bounds

pub below_is : (o : Ordering) → is_lt (ordering_reverse o) ≡ not (is_le o)
below_is Less = refl
below_is Equal = refl
below_is Greater = refl

-- a pair after two tests
two_tests : (a c : Bool) (e : List ℕ × ℕ) (g : List ℕ × ℕ → Bool) (es : List (List ℕ × ℕ)) → g e ≡ c
    → ids_in (filter g (cond a (e ∷ es) es))
    ≡ cond (a && c) (id_of (unpacked e.0) ∷ ids_in (filter g es)) (ids_in (filter g es))
two_tests true true e g es is = ap (λ b. ids_in (cond b (e ∷ filter g es) (filter g es))) is
two_tests true false e g es is = ap (λ b. ids_in (cond b (e ∷ filter g es) (filter g es))) is
two_tests false c e g es is = refl

-- a position after one
one_test : (b : Bool) (p : Position) (ps : List Position)
    → map id_of (cond b (p ∷ ps) ps) ≡ cond b (id_of p ∷ map id_of ps) (map id_of ps)
one_test true p ps = refl
one_test false p ps = refl

pub ids_alike : (low high : Position) (es : List (List ℕ × ℕ)) → AreLawful low.values
    → AreLawful high.values → AreKeys es
    → ids_in (between es (packed low) (packed high)) ≡ ids_between low high (positions es)
ids_alike low high [] h k ks = refl
ids_alike low high (e ∷ es) h k ks =
    let p = unpacked e.0 in
    let rest = ids_alike low high es h k ks.1 in
    two_tests (is_le (text_cmp (packed low) e.0)) (not (precedes high p)) e
    (λ e. is_lt (text_cmp e.0 (packed high))) (from_name es (packed low))
    (ap is_lt (high_alike high e.0 k ks.0 ∙ position_total.antisymm p high)
    ∙ below_is (position_cmp high p))
    ∙ (λ i. cond (is_le (low_alike low e.0 h ks.0 i) && not (precedes high p))
    (id_of p ∷ rest i) (rest i))
    ∙ sym (one_test (is_between low high p) p (filter (is_between low high) (positions es)))
