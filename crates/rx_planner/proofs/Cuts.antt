-- Positions that cut keys by their first values.
use Rattle.std.proofs.Common.{◌≡◌, ◌≤◌, Bool, true, false, List, [], ◌∷◌, ◌++◌, length, Option, Ordering, Less, Equal, Greater, refl, sym, ap, ◌∙◌, arith}
use Rattle.std.proofs.lemmas.Bool.{false≢true}
use Rattle.std.proofs.lemmas.Cmp.{tied_itself}
use Rattle.std.specs.Ordering.{ordering_then, ordering_reverse, is_le}
use Rattle.rx_value.proofs.Ordered.{order_total, order_ties}
use Rattle.rx_value.specs.Order.{order_of}
use Rattle.rx_value.specs.declared.value.Value.{Value}
use Rattle.rx_index.proofs.Positions.{tied}
use Rattle.rx_index.specs.Ordered.{position_total}
use Rattle.rx_index.specs.Position.{Position, values_cmp, position_cmp, precedes}
use Rattle.rx_planner.proofs.Selected.{past}

-- ---- positions in a row

pub le_through : (p q r : Position) → precedes p q ≡ true → precedes q r ≡ true
    → precedes p r ≡ true
le_through p q r h k =
    (elim (position_cmp p q) as (λ o. position_cmp p q ≡ o → is_le o ≡ true
    → precedes p r ≡ true) [
      | Less ↦ (λ e _. (elim (position_cmp q r) as (λ o. position_cmp q r ≡ o → is_le o ≡ true
          → precedes p r ≡ true) [
            | Less ↦ (λ d _. ap is_le (position_total.trans p q r e d))
            | Equal ↦ (λ d _. ap is_le (ap (position_cmp p) (sym (tied q r d)) ∙ e))
            | Greater ↦ (λ d bad. absurd (false≢true bad))
          ]) refl k)
      | Equal ↦ (λ e _. ap (λ x. precedes x r) (tied p q e) ∙ k)
      | Greater ↦ (λ e bad. absurd (false≢true bad))
    ]) refl h

-- what stands before a position stands before what that precedes
pub before_le : (p q k : Position) → precedes p q ≡ true → precedes p k ≡ false
    → precedes q k ≡ false
before_le p q k h before =
    (elim (precedes q k) as (λ b. precedes q k ≡ b → b ≡ false) [
      | true ↦ (λ e. absurd (false≢true (sym before ∙ le_through p q k h e)))
      | false ↦ (λ _. refl)
    ]) refl

-- one of two positions stands at the other or before it
pub other_way : (p q : Position) → precedes p q ≡ false → precedes q p ≡ true
other_way p q h =
    (elim (position_cmp p q) as (λ o. position_cmp p q ≡ o → is_le o ≡ false
    → precedes q p ≡ true) [
      | Less ↦ (λ _ bad. absurd (false≢true (sym bad)))
      | Equal ↦ (λ _ bad. absurd (false≢true (sym bad)))
      | Greater ↦ (λ e _. ap is_le (position_total.antisymm q p ∙ ap ordering_reverse e))
    ]) refl h

-- ---- one value

-- a value at the cut's or behind it, and one at the cut's or before it
value_apart : (p u v : Option Value) (r s t : Ordering)
    → is_le (ordering_then (order_of p u) r) ≡ true
    → is_le (ordering_then (order_of p v) s) ≡ false
    → (is_le r ≡ true → is_le s ≡ false → t ≡ Less)
    → ordering_then (order_of v u) t ≡ Less
value_apart p u v r s t h k rest =
    (elim (order_of p u) as (λ o. order_of p u ≡ o → is_le (ordering_then o r) ≡ true
    → ordering_then (order_of v u) t ≡ Less) [
      | Less ↦ (λ e _. (elim (order_of p v) as (λ o. order_of p v ≡ o
          → is_le (ordering_then o s) ≡ false → ordering_then (order_of v u) t ≡ Less) [
            | Less ↦ (λ d bad. absurd (false≢true (sym bad)))
            | Equal ↦ (λ d _.
                ap (λ o. ordering_then o t)
                (ap (λ x. order_of x u) (sym ((order_ties p v).0 d)) ∙ e))
            | Greater ↦ (λ d _.
                ap (λ o. ordering_then o t)
                (order_total.trans v p u (order_total.antisymm v p ∙ ap ordering_reverse d) e))
          ]) refl k)
      | Equal ↦ (λ e at. (elim (order_of p v) as (λ o. order_of p v ≡ o
          → is_le (ordering_then o s) ≡ false → ordering_then (order_of v u) t ≡ Less) [
            | Less ↦ (λ d bad. absurd (false≢true (sym bad)))
            | Equal ↦ (λ d not_at.
                ap (λ o. ordering_then o t)
                (ap (λ x. order_of x u) (sym ((order_ties p v).0 d)) ∙ e)
                ∙ rest at not_at)
            | Greater ↦ (λ d _.
                ap (λ o. ordering_then o t)
                (ap (order_of v) (sym ((order_ties p u).0 e)) ∙ order_total.antisymm v p
                ∙ ap ordering_reverse d))
          ]) refl k)
      | Greater ↦ (λ e bad. absurd (false≢true bad))
    ]) refl h

-- ---- values

-- what a cut doesn't precede is less by its first values than what it precedes
pub cut_apart : (ps : List (Option Value)) (b : Bool) (us vs us' vs' : List (Option Value))
    → length ps ≡ length us → length ps ≡ length vs
    → is_le (values_cmp ps b (us ++ us') false) ≡ true
    → is_le (values_cmp ps b (vs ++ vs') false) ≡ false
    → values_cmp vs false us false ≡ Less
cut_apart [] b [] [] us' vs' hu hv h k =
    absurd (false≢true (sym k ∙ past b vs' ∙ sym (past b us') ∙ h))
cut_apart [] b (u ∷ us) vs us' vs' hu hv h k = absurd (omega arith)
cut_apart [] b [] (v ∷ vs) us' vs' hu hv h k = absurd (omega arith)
cut_apart (p ∷ ps) b [] vs us' vs' hu hv h k = absurd (omega arith)
cut_apart (p ∷ ps) b (u ∷ us) [] us' vs' hu hv h k = absurd (omega arith)
cut_apart (p ∷ ps) b (u ∷ us) (v ∷ vs) us' vs' hu hv h k =
    value_apart p u v (values_cmp ps b (us ++ us') false) (values_cmp ps b (vs ++ vs') false)
    (values_cmp vs false us false) h k
    (λ at not_at. cut_apart ps b us vs us' vs' (omega arith) (omega arith) at not_at)

-- a cut by the first values of a key stands where the key does to what has no more values
pub low_cut : (vs : List (Option Value)) (c : Bool) (ps rest : List (Option Value)) (b : Bool)
    → length vs ≤ length ps → is_le (values_cmp vs c (ps ++ rest) false) ≡ true
    → is_le (values_cmp vs c ps b) ≡ true
low_cut [] true ps rest b short h = absurd (false≢true (sym (past true (ps ++ rest)) ∙ h))
low_cut [] false [] rest true short h = refl
low_cut [] false [] rest false short h = refl
low_cut [] false (p ∷ ps) rest b short h = refl
low_cut (v ∷ vs) c [] rest b short h = absurd (omega arith)
low_cut (v ∷ vs) c (p ∷ ps) rest b short h =
    (elim (order_of v p) as
    (λ o. is_le (ordering_then o (values_cmp vs c (ps ++ rest) false)) ≡ true
    → is_le (ordering_then o (values_cmp vs c ps b)) ≡ true) [
      | Less ↦ (λ _. refl)
      | Equal ↦ (λ e. low_cut vs c ps rest b (omega arith) e)
      | Greater ↦ (λ e. absurd (false≢true e))
    ]) h

pub high_cut : (vs : List (Option Value)) (c : Bool) (ps rest : List (Option Value)) (b : Bool)
    → length vs ≤ length ps → is_le (values_cmp vs c (ps ++ rest) false) ≡ false
    → is_le (values_cmp ps b vs c) ≡ true
high_cut [] false ps rest b short h = absurd (false≢true (sym h ∙ past false (ps ++ rest)))
high_cut [] true [] rest true short h = refl
high_cut [] true [] rest false short h = refl
high_cut [] true (p ∷ ps) rest b short h = refl
high_cut (v ∷ vs) c [] rest b short h = absurd (omega arith)
high_cut (v ∷ vs) c (p ∷ ps) rest b short h =
    (elim (order_of v p) as (λ o. order_of v p ≡ o
    → is_le (ordering_then o (values_cmp vs c (ps ++ rest) false)) ≡ false
    → is_le (ordering_then (order_of p v) (values_cmp ps b vs c)) ≡ true) [
      | Less ↦ (λ d e. absurd (false≢true (sym e)))
      | Equal ↦ (λ d e.
          ap (λ o. is_le (ordering_then o (values_cmp ps b vs c)))
          (order_total.antisymm p v ∙ ap ordering_reverse d)
          ∙ high_cut vs c ps rest b (omega arith) e)
      | Greater ↦ (λ d e.
          ap (λ o. is_le (ordering_then o (values_cmp ps b vs c)))
          (order_total.antisymm p v ∙ ap ordering_reverse d))
    ]) refl h

-- ---- cuts by the first values of keys that come one after the other

-- a key before a cut behind some first values begins with no higher ones
pub low_of : (ps rs rest : List (Option Value)) → length ps ≡ length rs
    → is_le (values_cmp ps true (rs ++ rest) false) ≡ false
    → is_le (values_cmp rs false ps false) ≡ true
low_of [] [] rest as_long h = refl
low_of [] (r ∷ rs) rest as_long h = absurd (omega arith)
low_of (p ∷ ps) [] rest as_long h = absurd (omega arith)
low_of (p ∷ ps) (r ∷ rs) rest as_long h =
    (elim (order_of p r) as (λ o. order_of p r ≡ o
    → is_le (ordering_then o (values_cmp ps true (rs ++ rest) false)) ≡ false
    → is_le (ordering_then (order_of r p) (values_cmp rs false ps false)) ≡ true) [
      | Less ↦ (λ d e. absurd (false≢true (sym e)))
      | Equal ↦ (λ d e.
          ap (λ o. is_le (ordering_then o (values_cmp rs false ps false)))
          (order_total.antisymm r p ∙ ap ordering_reverse d)
          ∙ low_of ps rs rest (omega arith) e)
      | Greater ↦ (λ d e.
          ap (λ o. is_le (ordering_then o (values_cmp rs false ps false)))
          (order_total.antisymm r p ∙ ap ordering_reverse d))
    ]) refl h

-- and one that a cut before them precedes with no lower ones
pub high_of : (ps rs rest : List (Option Value)) → length ps ≡ length rs
    → is_le (values_cmp ps false (rs ++ rest) false) ≡ true
    → is_le (values_cmp ps true rs true) ≡ true
high_of [] [] rest as_long h = refl
high_of [] (r ∷ rs) rest as_long h = absurd (omega arith)
high_of (p ∷ ps) [] rest as_long h = absurd (omega arith)
high_of (p ∷ ps) (r ∷ rs) rest as_long h =
    (elim (order_of p r) as (λ o.
    is_le (ordering_then o (values_cmp ps false (rs ++ rest) false)) ≡ true
    → is_le (ordering_then o (values_cmp ps true rs true)) ≡ true) [
      | Less ↦ (λ _. refl)
      | Equal ↦ (λ e. high_of ps rs rest (omega arith) e)
      | Greater ↦ (λ e. absurd (false≢true e))
    ]) h

-- behind more values comes before behind the first ones of them
pub longer_after : (vs rest : List (Option Value))
    → is_le (values_cmp (vs ++ rest) true vs true) ≡ true
longer_after [] [] = refl
longer_after [] (x ∷ xs) = refl
longer_after (v ∷ vs) rest =
    ap (λ o. is_le (ordering_then o (values_cmp (vs ++ rest) true vs true)))
    (tied_itself order_total v)
    ∙ longer_after vs rest

-- a key precedes what is behind it
pub own_end : (vs : List (Option Value)) → is_le (values_cmp vs false vs true) ≡ true
own_end [] = refl
own_end (v ∷ vs) =
    ap (λ o. is_le (ordering_then o (values_cmp vs false vs true))) (tied_itself order_total v)
    ∙ own_end vs
