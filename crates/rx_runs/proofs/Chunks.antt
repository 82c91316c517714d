-- Chunks: where a name belongs, and what becomes of the run where one of them changes.
use Rattle.std.proofs.Common.{◌≡◌, ℕ, zero, suc, add-one, ◌+◌, ◌-◌, ◌<◌, ◌≤◌, true, false, true≢false, List, [], ◌∷◌, ◌++◌, length, get_or, set, take, drop, Option, Some, Err, option_map, slice_get, refl, sym, ap, ◌∙◌, subst, arith, append_assoc, append-nil, length-append}
use Rattle.std.proofs.lemmas.List.{take-append-drop}
use Rattle.std.proofs.lemmas.Option.{get_or_from_slice_get}
use Rattle.std.proofs.lemmas.Cmp.{alike_right}
use Rattle.std.specs.List.{AllByRecursion, insert, remove}
use Rattle.std.specs.List.Sorted.{IsStrictlySortedBy, IsPartitionedBy, IsPartitionPoint}
use Rattle.std.specs.Map.{keys_of}
use Rattle.std.specs.Ordering.{is_le, ordering_index}
use Rattle.std.specs.declared.cmp.Ordering.{Ordering}
use Rattle.std.specs.declared.cmp.Ordering.TheVariants.{Less, Equal, Greater}
use Rattle.rx_value.specs.Named.{named, put_in_order, without, AreRising}
use Rattle.rx_value.specs.Order.{text_cmp}
use Rattle.rx_value.specs.Place.{BelongsAt}
use Rattle.rx_value.proofs.Named.{put_in_order-rising}
use Rattle.rx_value.proofs.Ordered.{text_total}
use Rattle.rx_value.proofs.Places.{searched}
use Rattle.rx_value.proofs.Removed.{all_without, without_rising}
use Rattle.rx_runs.specs.Run.{flat, AllAbove, AllBelow, AllFrom, AreParted, IsRooted, AreChunks, IsIn, from_name, below_name, between}
use Rattle.rx_runs.proofs.Joined.{turned, below_greater, all_parts, all_joined, all_at, all_put, rising_parts, below_second, none_rising, one_rising, named-first, put-first, named-second, put-second, without-first, without-second, from-parts, from-above, from-below, all_from, below-parts, below-below, below-above}

-- ---- orders

-- what is below what is at most a name is below the name
below_le : (a b k : List ℕ) → text_cmp a b ≡ Less → is_le (text_cmp b k) ≡ true
    → text_cmp a k ≡ Less
below_le a b k less le =
    elim (text_cmp b k) as (λ o. text_cmp b k ≡ o → is_le o ≡ true → text_cmp a k ≡ Less) [
      | Less ↦ (λ is h. text_total.trans a b k less is)
      | Equal ↦ (λ is h. sym (alike_right text_total b k a is) ∙ less)
      | Greater ↦ (λ is h. absurd (true≢false (sym h)))
    ] refl le

-- what is at most what is below a name is below the name
le_below : (a b k : List ℕ) → is_le (text_cmp a b) ≡ true → text_cmp b k ≡ Less
    → text_cmp a k ≡ Less
le_below a b k le less =
    elim (text_cmp a b) as (λ o. text_cmp a b ≡ o → is_le o ≡ true → text_cmp a k ≡ Less) [
      | Less ↦ (λ is h. text_total.trans a b k is less)
      | Equal ↦ (λ is h. text_total.congr a b k is ∙ less)
      | Greater ↦ (λ is h. absurd (true≢false (sym h)))
    ] refl le

-- a name that is not at most another is above it
not_le : (a k : List ℕ) → is_le (text_cmp a k) ≡ false → text_cmp k a ≡ Less
not_le a k differs =
    elim (text_cmp a k) as (λ o. text_cmp a k ≡ o → is_le o ≡ false → text_cmp k a ≡ Less) [
      | Less ↦ (λ is h. absurd (true≢false h))
      | Equal ↦ (λ is h. absurd (true≢false h))
      | Greater ↦ (λ is h. turned a k Greater is)
    ] refl differs

-- the least text is at most any
least : (k : List ℕ) → is_le (text_cmp [] k) ≡ true
least [] = refl
least (b ∷ k) = refl

-- a name is at most itself
itself : (k : List ℕ) → is_le (text_cmp k k) ≡ true
itself k =
    elim (text_cmp k k) as (λ o. text_cmp k k ≡ o → is_le o ≡ true) [
      | Less ↦ (λ is. refl)
      | Equal ↦ (λ is. refl)
      | Greater ↦ (λ is. let back : text_cmp k k ≡ Less = turned k k Greater is in cc)
    ] refl

-- a comparison that comes no later than the least is the least
no_later : (o : Ordering) → ordering_index o ≤ 0 → o ≡ Less
no_later Less le = refl
no_later Equal le = absurd (omega arith)
no_later Greater le = absurd (omega arith)

-- ---- what holds of all names

module _ {X : Type 0} where
  -- what holds of each name holds of all
  pub all_names : (P : List ℕ → Type 0) (es : List (List ℕ × X))
      → ((i : ℕ) (d : List ℕ × X) → i < length es → P (get_or es i d).0)
      → AllByRecursion P (keys_of es)
  all_names P [] each = tt
  all_names P (e ∷ es) each =
      (each 0 e (omega arith), all_names P es (λ i d lt. each (suc i) d (omega arith)))

  -- where one follows from another at each name
  pub all_follow : (P Q : List ℕ → Type 0) (es : List (List ℕ × X)) → ((k : List ℕ) → P k → Q k)
      → AllByRecursion P (keys_of es) → AllByRecursion Q (keys_of es)
  all_follow P Q [] step all = tt
  all_follow P Q (e ∷ es) step all = (step e.0 all.0, all_follow P Q es step all.1)

-- ---- heads

module _ {X : Type 0} where
  -- a head at most a name has only such heads before it
  pub partitioned : (k : List ℕ) (cs : List (List ℕ × List (List ℕ × X))) → AreRising cs
      → IsPartitionedBy (λ c. is_le (text_cmp c.0 k)) cs
  unfolding IsStrictlySortedBy
  partitioned k [] rising i j d le lt is = absurd (omega arith)
  partitioned k (c ∷ cs) rising zero zero d le lt is = is
  partitioned k (c ∷ cs) rising zero (suc j) d le lt is =
      let below = all_at (λ q. text_cmp c.0 q ≡ Less) cs j d (omega arith) rising.0 in
      ap is_le (below_le c.0 (get_or cs j d).0 k below is)
  partitioned k (c ∷ cs) rising (suc i) zero d le lt is = absurd (omega arith)
  partitioned k (c ∷ cs) rising (suc i) (suc j) d le lt is =
      partitioned k cs rising.1 i j d (omega arith) (omega arith) is

  -- with the n-th head above a name, none is at most it only where there is no chunk
  pub rooted_none : (k : List ℕ) (cs : List (List ℕ × List (List ℕ × X))) → IsRooted cs
      → 0 < length cs
      → ((d : List ℕ × List (List ℕ × X)) → is_le (text_cmp (get_or cs 0 d).0 k) ≡ false) → ⊥
  rooted_none k [] rooted lt high = omega arith
  rooted_none k (c ∷ cs) rooted lt high =
      true≢false (sym (ap (λ h. is_le (text_cmp h k)) rooted ∙ least k) ∙ high c)

  -- so from there on the heads are above it, and before it at most it
  pub some_low : (k : List ℕ) (cs : List (List ℕ × List (List ℕ × X))) (n : ℕ) → IsRooted cs
      → 0 < length cs
      → IsPartitionPoint (λ c. is_le (text_cmp c.0 k) ≡ true) (λ c. is_le (text_cmp c.0 k) ≡ false)
      cs n → 1 ≤ n
  some_low k cs zero rooted lt point = absurd (rooted_none k cs rooted lt
      (λ d. point.1 0 d (omega arith) lt))
  some_low k cs (suc n) rooted lt point = omega arith

  pub is_in : (k : List ℕ) (cs : List (List ℕ × List (List ℕ × X))) (n : ℕ) → 1 ≤ n → n ≤ length cs
      → IsPartitionPoint (λ c. is_le (text_cmp c.0 k) ≡ true) (λ c. is_le (text_cmp c.0 k) ≡ false)
      cs n
      → IsIn cs k (n - 1)
  is_in k cs n some within point = record {
    within = omega arith;
    low = λ j d le. point.0 j d (omega arith) (omega arith);
    high = λ j d lt in_range. point.1 j d (omega arith) in_range;
  }

  -- a name that is at least the last head is in the last chunk
  pub is_in_last : (k : List ℕ) (cs : List (List ℕ × List (List ℕ × X)))
      (last : List ℕ × List (List ℕ × X)) → AreRising cs → 1 ≤ length cs
      → slice_get cs (length cs - 1) ≡ Some last → is_le (text_cmp last.0 k) ≡ true
      → IsIn cs k (length cs - 1)
  is_in_last k cs last rising some there le =
      let at = λ (d : List ℕ × List (List ℕ × X)).
      ap (λ (c : List ℕ × List (List ℕ × X)). is_le (text_cmp c.0 k))
      (get_or_from_slice_get cs (length cs - 1) last d there) ∙ le in
      is_in k cs (length cs) some (omega arith) (
        (λ j d low lt. partitioned k cs rising j (length cs - 1) d (omega arith) (omega arith)
            (at d)),
        (λ j d from lt. absurd (omega arith)),
      )

  -- a name above the last one belongs behind it
  pub belongs_last : (k : List ℕ) (es : List (List ℕ × X)) (last : List ℕ × X) → AreRising es
      → slice_get es (length es - 1) ≡ Some last → text_cmp last.0 k ≡ Less
      → BelongsAt es k (length es)
  belongs_last k es last rising there less =
      let least = λ (d : List ℕ × X).
      ap (λ (e : List ℕ × X). ordering_index (text_cmp e.0 k))
      (get_or_from_slice_get es (length es - 1) last d there) ∙ ap ordering_index less in
      (searched es k (Err (length es)) rising (omega arith)
      (λ rises. (
        (λ j d low lt. no_later (text_cmp (get_or es j d).0 k)
            (omega (arith, rises j (length es - 1) d (omega arith) (omega arith), least d))),
        (λ j d from lt. absurd (omega arith)),
      ))).1

  -- names from a head on are above what the head is above
  from_above : (k h : List ℕ) (es : List (List ℕ × X)) → text_cmp k h ≡ Less → AllFrom h es
      → AllAbove k es
  from_above k h es less all = all_follow (λ q. is_le (text_cmp h q) ≡ true)
      (λ q. text_cmp k q ≡ Less) es
      (λ q le. below_le k h q less le) all

  -- names below a head are below what the head is at most
  under_below : (k h : List ℕ) (es : List (List ℕ × X)) → is_le (text_cmp h k) ≡ true
      → AllBelow h es → AllBelow k es
  under_below k h es le all = all_follow (λ q. text_cmp q h ≡ Less) (λ q. text_cmp q k ≡ Less) es
      (λ q less. below_le q h k less le) all

  -- where all heads are above a name, all names are
  all_above : (k : List ℕ) (cs : List (List ℕ × List (List ℕ × X))) → AreParted cs
      → ((j : ℕ) (d : List ℕ × List (List ℕ × X)) → j < length cs
      → is_le (text_cmp (get_or cs j d).0 k) ≡ false)
      → AllAbove k (flat cs)
  all_above k [] parted high = tt
  all_above k (c ∷ cs) parted high =
      all_joined (λ q. text_cmp k q ≡ Less) c.1 (flat cs)
      (from_above k c.0 c.1 (not_le c.0 k (high 0 c (omega arith))) parted.0)
      (all_above k cs parted.2 (λ j d lt. high (suc j) d (omega arith)))

  -- the names before the chunk that a name is in are below it
  before_below : (k : List ℕ) (c : List ℕ × List (List ℕ × X))
      (cs : List (List ℕ × List (List ℕ × X)))
      → AreParted (c ∷ cs) → 0 < length cs
      → ((d : List ℕ × List (List ℕ × X)) → is_le (text_cmp (get_or cs 0 d).0 k) ≡ true)
      → AllBelow k c.1
  before_below k c [] parted lt low = absurd (omega arith)
  before_below k c (d ∷ ds) parted lt low = under_below k d.0 c.1 (low d) parted.1.0

  -- in the other chunks after the first
  in_rest : (k : List ℕ) (c : List ℕ × List (List ℕ × X)) (cs : List (List ℕ × List (List ℕ × X)))
      (i : ℕ)
      → IsIn (c ∷ cs) k (suc i) → IsIn cs k i
  in_rest k c cs i is = record {
    within = omega (arith, is.within);
    low = λ j d le. is.low (suc j) d (omega arith);
    high = λ j d lt within. is.high (suc j) d (omega arith) (omega arith);
  }

  -- a name is looked for in the chunk that it is in
  pub named_in : (k : List ℕ) (cs : List (List ℕ × List (List ℕ × X))) (i : ℕ)
      (d : List ℕ × List (List ℕ × X))
      → AreParted cs → IsIn cs k i → named (flat cs) k ≡ named (get_or cs i d).1 k
  named_in k [] i d parted is = absurd (omega (arith, is.within))
  named_in k (c ∷ cs) zero d parted is =
      named-first k c.1 (flat cs)
      (all_above k cs parted.2 (λ j e lt. is.high (suc j) e (omega arith) (omega arith)))
  named_in k (c ∷ cs) (suc i) d parted is =
      named-second k c.1 (flat cs)
      (before_below k c cs parted (omega (arith, is.within)) (λ e. is.low 1 e (omega arith)))
      ∙ named_in k cs i d parted.2 (in_rest k c cs i is)

  -- and put there
  pub put_in : (k : List ℕ) (x : X) (cs : List (List ℕ × List (List ℕ × X))) (i : ℕ)
      (d : List ℕ × List (List ℕ × X)) → AreParted cs → IsIn cs k i
      → flat (set cs i ((get_or cs i d).0, put_in_order (get_or cs i d).1 k x))
      ≡ put_in_order (flat cs) k x
  put_in k x [] i d parted is = absurd (omega (arith, is.within))
  put_in k x (c ∷ cs) zero d parted is =
      sym (put-first k x c.1 (flat cs)
      (all_above k cs parted.2 (λ j e lt. is.high (suc j) e (omega arith) (omega arith))))
  put_in k x (c ∷ cs) (suc i) d parted is =
      ap (λ r. c.1 ++ r) (put_in k x cs i d parted.2 (in_rest k c cs i is))
      ∙ sym (put-second k x c.1 (flat cs)
      (before_below k c cs parted (omega (arith, is.within)) (λ e. is.low 1 e (omega arith))))

  -- ---- a chunk with other pairs under the same head

  -- the heads are the same
  pub heads_set : (cs : List (List ℕ × List (List ℕ × X))) (i : ℕ) (d : List ℕ × List (List ℕ × X))
      (es : List (List ℕ × X)) → i < length cs
      → keys_of (set cs i ((get_or cs i d).0, es)) ≡ keys_of cs
  heads_set [] i d es lt = absurd (omega arith)
  heads_set (c ∷ cs) zero d es lt = refl
  heads_set (c ∷ cs) (suc i) d es lt = ap (λ ks. c.0 ∷ ks) (heads_set cs i d es (omega arith))

  -- the first one too
  pub rooted_set : (cs : List (List ℕ × List (List ℕ × X))) (i : ℕ) (d : List ℕ × List (List ℕ × X))
      (es : List (List ℕ × X)) → IsRooted cs → IsRooted (set cs i ((get_or cs i d).0, es))
  rooted_set [] i d es rooted = rooted
  rooted_set (c ∷ cs) zero d es rooted = rooted
  rooted_set (c ∷ cs) (suc i) d es rooted = rooted

  -- the heads part the chunks where they part the new one from the later ones
  pub parted_set : (cs : List (List ℕ × List (List ℕ × X))) (i : ℕ) (d : List ℕ × List (List ℕ × X))
      (es : List (List ℕ × X)) → i < length cs → AreParted cs → AllFrom (get_or cs i d).0 es
      → ((j : ℕ) (e : List ℕ × List (List ℕ × X)) → i < j → j < length cs
      → AllBelow (get_or cs j e).0 es)
      → AreParted (set cs i ((get_or cs i d).0, es))
  parted_set [] i d es lt parted from below = absurd (omega arith)
  parted_set (c ∷ cs) zero d es lt parted from below = (
    from,
    all_names (λ h. AllBelow h es) cs (λ j e within. below (suc j) e (omega arith) (omega arith)),
    parted.2,
  )
  parted_set (c ∷ cs) (suc i) d es lt parted from below = (
    parted.0,
    subst (AllByRecursion (λ h. AllBelow h c.1)) (sym (heads_set cs i d es (omega arith))) parted.1,
    parted_set cs i d es (omega arith) parted.2 from
        (λ j e after within. below (suc j) e (omega arith) (omega arith)),
  )

  -- the i-th chunk's names are from its head on
  pub from_at : (cs : List (List ℕ × List (List ℕ × X))) (i : ℕ) (d : List ℕ × List (List ℕ × X))
      → i < length cs → AreParted cs → AllFrom (get_or cs i d).0 (get_or cs i d).1
  from_at [] i d lt parted = absurd (omega arith)
  from_at (c ∷ cs) zero d lt parted = parted.0
  from_at (c ∷ cs) (suc i) d lt parted = from_at cs i d (omega arith) parted.2

  -- and below the heads after it
  pub below_at : (cs : List (List ℕ × List (List ℕ × X))) (i j : ℕ)
      (d e : List ℕ × List (List ℕ × X))
      → i < j → j < length cs → AreParted cs → AllBelow (get_or cs j e).0 (get_or cs i d).1
  below_at [] i j d e lt within parted = absurd (omega arith)
  below_at (c ∷ cs) i zero d e lt within parted = absurd (omega arith)
  below_at (c ∷ cs) zero (suc j) d e lt within parted =
      all_at (λ h. AllBelow h c.1) cs j e (omega arith) parted.1
  below_at (c ∷ cs) (suc i) (suc j) d e lt within parted =
      below_at cs i j d e (omega arith) (omega arith) parted.2

  -- a pair put into the chunk that its name is in leaves chunks
  pub chunks_put : (k : List ℕ) (x : X) (cs : List (List ℕ × List (List ℕ × X))) (i : ℕ)
      (d : List ℕ × List (List ℕ × X)) → AreChunks cs → IsIn cs k i
      → AreChunks (set cs i ((get_or cs i d).0, put_in_order (get_or cs i d).1 k x))
  chunks_put k x cs i d are is =
      let es = put_in_order (get_or cs i d).1 k x in
      record {
        rising = subst AreRising (sym (put_in k x cs i d are.parted is))
            (put_in_order-rising (flat cs) k x are.rising);
        heads = subst (IsStrictlySortedBy text_cmp) (sym (heads_set cs i d es is.within)) are.heads;
        parted = parted_set cs i d es is.within are.parted
            (all_put (λ q. is_le (text_cmp (get_or cs i d).0 q) ≡ true) (get_or cs i d).1 k x
            (is.low i d (omega arith)) (from_at cs i d is.within are.parted))
            (λ j e after within. all_put (λ q. text_cmp q (get_or cs j e).0 ≡ Less)
            (get_or cs i d).1 k x
            (not_le (get_or cs j e).0 k (is.high j e after within))
            (below_at cs i j d e after within are.parted));
        rooted = rooted_set cs i d es are.rooted;
      }

  -- ---- two chunks of one

  -- the chunks with the i-th cut at a place, and a head for what comes after
  abbrev pub cut : List (List ℕ × List (List ℕ × X)) → ℕ → ℕ → List ℕ
      → List (List ℕ × List (List ℕ × X))
  cut [] i at f = []
  cut (c ∷ cs) zero at f = (c.0, take at c.1) ∷ (f, drop at c.1) ∷ cs
  cut (c ∷ cs) (suc i) at f = c ∷ cut cs i at f

  -- it is what is made by a write and an insert
  pub cut_is : (cs : List (List ℕ × List (List ℕ × X))) (i at : ℕ) (f : List ℕ)
      (d : List ℕ × List (List ℕ × X))
      → i < length cs
      → insert (set cs i ((get_or cs i d).0, take at (get_or cs i d).1)) (suc i)
      (f, drop at (get_or cs i d).1)
      ≡ cut cs i at f
  cut_is [] i at f d lt = absurd (omega arith)
  cut_is (c ∷ cs) zero at f d lt = refl
  cut_is (c ∷ cs) (suc i) at f d lt = ap (λ r. c ∷ r) (cut_is cs i at f d (omega arith))

  -- the pairs are the same
  pub flat_cut : (cs : List (List ℕ × List (List ℕ × X))) (i at : ℕ) (f : List ℕ)
      → flat (cut cs i at f) ≡ flat cs
  flat_cut [] i at f = refl
  flat_cut (c ∷ cs) zero at f =
      sym (append_assoc (take at c.1) (drop at c.1) (flat cs))
      ∙ ap (λ es. es ++ flat cs) (take-append-drop at c.1)
  flat_cut (c ∷ cs) (suc i) at f = ap (λ r. c.1 ++ r) (flat_cut cs i at f)

  -- what holds of the heads and the new one
  pub all_cut : (P : List ℕ → Type 0) (cs : List (List ℕ × List (List ℕ × X))) (i at : ℕ)
      (f : List ℕ)
      → P f → AllByRecursion P (keys_of cs) → AllByRecursion P (keys_of (cut cs i at f))
  all_cut P [] i at f here all = tt
  all_cut P (c ∷ cs) zero at f here all = (all.0, (here, all.1))
  all_cut P (c ∷ cs) (suc i) at f here all = (all.0, all_cut P cs i at f here all.1)

  -- what a cut of rising pairs makes: names below the first behind the cut, and that one's
  record Halves (h f : List ℕ) (es : List (List ℕ × X)) (at : ℕ) : Type 0 where
    pub above_head : text_cmp h f ≡ Less
    pub front_from : AllFrom h (take at es)
    pub front_below : AllBelow f (take at es)
    pub back_from : AllFrom f (drop at es)
    pub below_later : (q : List ℕ) → AllBelow q es → text_cmp f q ≡ Less

  -- what begins with a name behind the cut
  dropped : (f : List ℕ) (es : List (List ℕ × X)) (at : ℕ) → option_map (λ e. e.0) (slice_get es at)
      ≡ Some f
      → (x : X) × ((rest : List (List ℕ × X)) × (drop at es ≡ (f, x) ∷ rest))
  dropped f [] at is = absurd (cc)
  dropped f (e ∷ es) zero is =
      let same : e.0 ≡ f = cc in
      (e.1, (es, ap (λ k. (k, e.1) ∷ es) same))
  dropped f (e ∷ es) (suc at) is = dropped f es at is

  -- below a head that it is not itself below
  first_above : (h f : List ℕ) (es : List (List ℕ × X)) (at : ℕ) → 0 < at → at < length es
      → AllFrom h (take at es) → AllBelow f (take at es) → text_cmp h f ≡ Less
  first_above h f [] at some within from below = absurd (omega arith)
  first_above h f (e ∷ es) zero some within from below = absurd (omega arith)
  first_above h f (e ∷ es) (suc at) some within from below = le_below h e.0 f from.0 below.0

  halves : (h f : List ℕ) (es : List (List ℕ × X)) (at : ℕ) → 0 < at → at < length es → AllFrom h es
      → AreRising es → option_map (λ e. e.0) (slice_get es at) ≡ Some f → Halves h f es at
  unfolding IsStrictlySortedBy
  halves h f es at some within from rising is =
      let begin = dropped f es at is in
      let whole : es ≡ take at es ++ (f, begin.0) ∷ begin.1.0 =
      sym (take-append-drop at es) ∙ ap (λ r. take at es ++ r) begin.1.1 in
      let rises = subst AreRising whole rising in
      let front = (all_parts (λ q. is_le (text_cmp h q) ≡ true) (take at es)
      ((f, begin.0) ∷ begin.1.0)
      (subst (AllFrom h) whole from)).0 in
      let below = below_second (take at es) (f, begin.0) begin.1.0 rises in
      let back = (rising_parts (take at es) ((f, begin.0) ∷ begin.1.0) rises).1 in
      record {
        above_head = first_above h f es at some within front below;
        front_from = front;
        front_below = below;
        back_from = subst (AllFrom f) (sym begin.1.1) (
          itself f,
          all_follow (λ q. text_cmp f q ≡ Less) (λ q. is_le (text_cmp f q) ≡ true) begin.1.0
              (λ q less. ap is_le less) back.0,
        );
        below_later = λ q all. (all_parts (λ k. text_cmp k q ≡ Less) (take at es)
            ((f, begin.0) ∷ begin.1.0)
            (subst (AllBelow q) whole all)).1.0;
      }

  -- the heads rise with the new one
  heads_cut : (cs : List (List ℕ × List (List ℕ × X))) (i at : ℕ) (f : List ℕ)
      (d : List ℕ × List (List ℕ × X))
      → i < length cs → AreRising cs → text_cmp (get_or cs i d).0 f ≡ Less
      → ((j : ℕ) (e : List ℕ × List (List ℕ × X)) → i < j → j < length cs
      → text_cmp f (get_or cs j e).0 ≡ Less)
      → AreRising (cut cs i at f)
  unfolding IsStrictlySortedBy
  heads_cut [] i at f d lt rising above below = absurd (omega arith)
  heads_cut (c ∷ cs) zero at f d lt rising above below = (
    (above, rising.0),
    (
      all_names (λ q. text_cmp f q ≡ Less) cs (λ j e within. below (suc j) e (omega arith)
          (omega arith)),
      rising.1,
    ),
  )
  heads_cut (c ∷ cs) (suc i) at f d lt rising above below =
      let first = all_at (λ q. text_cmp c.0 q ≡ Less) cs i d (omega arith) rising.0 in (
        all_cut (λ q. text_cmp c.0 q ≡ Less) cs i at f (text_total.trans c.0 (get_or cs i d).0 f
            first above) rising.0,
        heads_cut cs i at f d (omega arith) rising.1 above
            (λ j e after within. below (suc j) e (omega arith) (omega arith)),
      )

  -- and part the chunks
  parted_cut : (cs : List (List ℕ × List (List ℕ × X))) (i at : ℕ) (f : List ℕ)
      (d : List ℕ × List (List ℕ × X))
      → i < length cs → AreParted cs → Halves (get_or cs i d).0 f (get_or cs i d).1 at
      → AreParted (cut cs i at f)
  parted_cut [] i at f d lt parted h = absurd (omega arith)
  parted_cut (c ∷ cs) zero at f d lt parted h =
      let part = λ (q : List ℕ) (all : AllBelow q c.1). all_parts (λ k. text_cmp k q ≡ Less)
      (take at c.1) (drop at c.1)
      (subst (AllBelow q) (sym (take-append-drop at c.1)) all) in (
        h.front_from,
        (
          h.front_below,
          all_follow (λ q. AllBelow q c.1) (λ q. AllBelow q (take at c.1)) cs
              (λ q all. (part q all).0) parted.1,
        ),
        (
          h.back_from,
          all_follow (λ q. AllBelow q c.1) (λ q. AllBelow q (drop at c.1)) cs
              (λ q all. (part q all).1) parted.1,
          parted.2,
        ),
      )
  parted_cut (c ∷ cs) (suc i) at f d lt parted h =
      let first = all_at (λ q. AllBelow q c.1) cs i d (omega arith) parted.1 in (
        parted.0,
        all_cut (λ q. AllBelow q c.1) cs i at f (below_greater f (get_or cs i d).0 c.1 h.above_head
            first) parted.1,
        parted_cut cs i at f d (omega arith) parted.2 h,
      )

  -- the first head stays
  rooted_cut : (cs : List (List ℕ × List (List ℕ × X))) (i at : ℕ) (f : List ℕ) → IsRooted cs
      → IsRooted (cut cs i at f)
  rooted_cut [] i at f rooted = tt
  rooted_cut (c ∷ cs) zero at f rooted = rooted
  rooted_cut (c ∷ cs) (suc i) at f rooted = rooted

  -- each chunk's names rise
  pub rising_at : (cs : List (List ℕ × List (List ℕ × X))) (i : ℕ) (d : List ℕ × List (List ℕ × X))
      → i < length cs → AreRising (flat cs) → AreRising (get_or cs i d).1
  rising_at [] i d lt rising = absurd (omega arith)
  rising_at (c ∷ cs) zero d lt rising = (rising_parts c.1 (flat cs) rising).0
  rising_at (c ∷ cs) (suc i) d lt rising = rising_at cs i d (omega arith)
      (rising_parts c.1 (flat cs) rising).1

  -- so a cut of a chunk leaves chunks
  pub chunks_cut : (cs : List (List ℕ × List (List ℕ × X))) (i at : ℕ) (f : List ℕ)
      (d : List ℕ × List (List ℕ × X))
      → AreChunks cs → i < length cs → 0 < at → at < length (get_or cs i d).1
      → option_map (λ e. e.0) (slice_get (get_or cs i d).1 at) ≡ Some f → AreChunks (cut cs i at f)
  chunks_cut cs i at f d are lt some within is =
      let h = halves (get_or cs i d).0 f (get_or cs i d).1 at some within
      (from_at cs i d lt are.parted)
      (rising_at cs i d lt are.rising) is in
      record {
        rising = subst AreRising (sym (flat_cut cs i at f)) are.rising;
        heads = heads_cut cs i at f d lt are.heads h.above_head
            (λ j e after inside. h.below_later (get_or cs j e).0
            (below_at cs i j d e after inside are.parted));
        parted = parted_cut cs i at f d lt are.parted h;
        rooted = rooted_cut cs i at f are.rooted;
      }

  -- what is made of chunks by a write of the front and an insert of the back
  pub cut_made : (cs rs : List (List ℕ × List (List ℕ × X))) (i at : ℕ) (f : List ℕ)
      (m : List ℕ × List (List ℕ × X)) (front back : List (List ℕ × X)) → rs ≡ cs → i < length cs
      → m ≡ get_or rs i m → front ≡ take at m.1 → back ≡ drop at m.1
      → insert (set rs i (m.0, front)) (i + 1) (f, back) ≡ cut cs i at f
  cut_made cs rs i at f m front back same lt read is_front is_back =
      (λ j. insert (set (same j) i (m.0, is_front j)) (i + 1) (f, is_back j))
      ∙ ap (λ n. insert (set cs i (m.0, take at m.1)) n (f, drop at m.1)) (add-one i)
      ∙ ap (λ (p : List ℕ × List (List ℕ × X)). insert (set cs i (p.0, take at p.1)) (suc i)
      (f, drop at p.1))
      (read ∙ ap (λ r. get_or r i m) same)
      ∙ cut_is cs i at f m lt

  -- the first chunk, which is empty
  pub first_chunk : (cs : List (List ℕ × List (List ℕ × X))) (h : List ℕ) (es : List (List ℕ × X))
      → length cs ≡ 0 → h ≡ [] → es ≡ [] → AreChunks (cs ++ (h, es) ∷ [])
  first_chunk [] h es none is_least is_empty =
      subst (λ es. AreChunks ((h, es) ∷ [])) (sym is_empty) (record {
        rising = none_rising X;
        heads = one_rising {X = List (List ℕ × X)} (h, []);
        parted = (tt, tt, tt);
        rooted = is_least;
      })
  first_chunk (c ∷ cs) h es none is_least is_empty = absurd (omega arith)

  -- the run that chunks make with a pair put into one
  pub flat_put : (k : List ℕ) (x : X) (es : List (List ℕ × X))
      (cs ds : List (List ℕ × List (List ℕ × X))) (i : ℕ)
      (d : List ℕ × List (List ℕ × X)) → AreChunks cs → IsIn cs k i → flat cs ≡ es
      → ds ≡ set cs i ((get_or cs i d).0, put_in_order (get_or cs i d).1 k x)
      → AreChunks ds × (flat ds ≡ put_in_order es k x)
  flat_put k x es cs ds i d are is same made = (
    subst AreChunks (sym made) (chunks_put k x cs i d are is),
    ap flat made ∙ put_in k x cs i d are.parted is ∙ ap (λ es. put_in_order es k x) same,
  )

  -- the value in whose place it comes
  pub old_put : (k : List ℕ) (es : List (List ℕ × X)) (cs : List (List ℕ × List (List ℕ × X)))
      (i : ℕ)
      (d : List ℕ × List (List ℕ × X)) (old : Option X) → AreChunks cs → IsIn cs k i → flat cs ≡ es
      → old ≡ named (get_or cs i d).1 k → old ≡ named es k
  old_put k es cs i d old are is same found =
      found ∙ sym (named_in k cs i d are.parted is) ∙ ap (λ es. named es k) same

  -- ---- a pair removed

  pub remove_in : (k : List ℕ) (cs : List (List ℕ × List (List ℕ × X))) (i : ℕ)
      (d : List ℕ × List (List ℕ × X)) → AreParted cs → IsIn cs k i
      → flat (set cs i ((get_or cs i d).0, without (get_or cs i d).1 k)) ≡ without (flat cs) k
  remove_in k [] i d parted is = absurd (omega (arith, is.within))
  remove_in k (c ∷ cs) zero d parted is =
      sym (without-first k c.1 (flat cs)
      (all_above k cs parted.2 (λ j e lt. is.high (suc j) e (omega arith) (omega arith))))
  remove_in k (c ∷ cs) (suc i) d parted is =
      ap (λ r. c.1 ++ r) (remove_in k cs i d parted.2 (in_rest k c cs i is))
      ∙ sym (without-second k c.1 (flat cs)
      (before_below k c cs parted (omega (arith, is.within)) (λ e. is.low 1 e (omega arith))))

  -- what chunks are without it
  pub flat_remove : (k : List ℕ) (cs ds : List (List ℕ × List (List ℕ × X))) (i : ℕ)
      (d : List ℕ × List (List ℕ × X)) → AreChunks cs → IsIn cs k i
      → ds ≡ set cs i ((get_or cs i d).0, without (get_or cs i d).1 k)
      → AreChunks ds × (flat ds ≡ without (flat cs) k)
  flat_remove k cs ds i d are is made =
      let es = without (get_or cs i d).1 k in
      let in_place = remove_in k cs i d are.parted is in (
        subst AreChunks (sym made) (record {
          rising = subst AreRising (sym in_place) (without_rising (flat cs) k are.rising);
          heads = subst (IsStrictlySortedBy text_cmp) (sym (heads_set cs i d es is.within))
              are.heads;
          parted = parted_set cs i d es is.within are.parted
              (all_without (λ q. is_le (text_cmp (get_or cs i d).0 q) ≡ true) (get_or cs i d).1 k
              (from_at cs i d is.within are.parted))
              (λ j e after within. all_without (λ q. text_cmp q (get_or cs j e).0 ≡ Less)
              (get_or cs i d).1 k
              (below_at cs i j d e after within are.parted));
          rooted = rooted_set cs i d es are.rooted;
        }),
        ap flat made ∙ in_place,
      )

  -- ---- the pairs from a name on

  pub from_in : (k : List ℕ) (cs : List (List ℕ × List (List ℕ × X))) (i : ℕ)
      (d : List ℕ × List (List ℕ × X)) → AreParted cs → IsIn cs k i
      → from_name (get_or cs i d).1 k ++ flat (drop (suc i) cs) ≡ from_name (flat cs) k
  from_in k [] i d parted is = absurd (omega (arith, is.within))
  from_in k (c ∷ cs) zero d parted is =
      ap (λ r. from_name c.1 k ++ r) (sym (from-above k (flat cs)
      (all_above k cs parted.2 (λ j e lt. is.high (suc j) e (omega arith) (omega arith)))))
      ∙ sym (from-parts k c.1 (flat cs))
  from_in k (c ∷ cs) (suc i) d parted is =
      from_in k cs i d parted.2 (in_rest k c cs i is)
      ∙ ap (λ r. r ++ from_name (flat cs) k) (sym (from-below k c.1
      (before_below k c cs parted (omega (arith, is.within)) (λ e. is.low 1 e (omega arith)))))
      ∙ sym (from-parts k c.1 (flat cs))

  -- ---- the pairs below a name, and between two

  pub below_in : (k : List ℕ) (cs : List (List ℕ × List (List ℕ × X))) (i : ℕ)
      (d : List ℕ × List (List ℕ × X)) → AreParted cs → IsIn cs k i
      → flat (take i cs) ++ below_name (get_or cs i d).1 k ≡ below_name (flat cs) k
  below_in k [] i d parted is = absurd (omega (arith, is.within))
  below_in k (c ∷ cs) zero d parted is =
      sym (append-nil (below_name c.1 k))
      ∙ ap (λ r. below_name c.1 k ++ r) (sym (below-above k (flat cs)
      (all_above k cs parted.2 (λ j e lt. is.high (suc j) e (omega arith) (omega arith)))))
      ∙ sym (below-parts k c.1 (flat cs))
  below_in k (c ∷ cs) (suc i) d parted is =
      append_assoc c.1 (flat (take i cs)) (below_name (get_or cs i d).1 k)
      ∙ ap (λ r. c.1 ++ r) (below_in k cs i d parted.2 (in_rest k c cs i is))
      ∙ ap (λ r. r ++ below_name (flat cs) k) (sym (below-below k c.1
      (before_below k c cs parted (omega (arith, is.within)) (λ e. is.low 1 e (omega arith)))))
      ∙ sym (below-parts k c.1 (flat cs))

  -- the names of the chunks after one whose later heads are above a name
  above_after : (k : List ℕ) (cs : List (List ℕ × List (List ℕ × X))) (i : ℕ) → AreParted cs
      → ((j : ℕ) (d : List ℕ × List (List ℕ × X)) → i < j → j < length cs
      → is_le (text_cmp (get_or cs j d).0 k) ≡ false)
      → AllAbove k (flat (drop (suc i) cs))
  above_after k [] i parted high = tt
  above_after k (c ∷ cs) zero parted high =
      all_above k cs parted.2 (λ j d lt. high (suc j) d (omega arith) (omega arith))
  above_after k (c ∷ cs) (suc i) parted high =
      above_after k cs i parted.2 (λ j d after lt. high (suc j) d (omega arith) (omega arith))

  -- those of one chunk, where the higher name is in none after the lower one's
  pub between_one : (low high : List ℕ) (cs : List (List ℕ × List (List ℕ × X))) (i j : ℕ)
      (d : List ℕ × List (List ℕ × X)) → AreParted cs → IsIn cs low i → IsIn cs high j → j ≤ i
      → between (get_or cs i d).1 low high ≡ between (flat cs) low high
  between_one low high cs i j d parted is_low is_high le =
      let rest = flat (drop (suc i) cs) in
      sym (append-nil (between (get_or cs i d).1 low high))
      ∙ ap (λ r. between (get_or cs i d).1 low high ++ r) (sym (below-above high rest
      (above_after high cs i parted (λ n e after lt. is_high.high n e (omega arith) lt))))
      ∙ sym (below-parts high (from_name (get_or cs i d).1 low) rest)
      ∙ ap (λ es. below_name es high) (from_in low cs i d parted is_low)

  -- else those from the lower one on in its chunk, the whole chunks between, and those below the
  -- higher one in its chunk
  pub between_in : (low high : List ℕ) (cs : List (List ℕ × List (List ℕ × X))) (i j : ℕ)
      (d e : List ℕ × List (List ℕ × X)) → AreParted cs → IsIn cs low i → IsIn cs high j → i < j
      → from_name (get_or cs i d).1 low ++ (flat (take (j - i - 1) (drop (suc i) cs))
      ++ below_name (get_or cs j e).1 high) ≡ between (flat cs) low high
  between_in low high [] i j d e parted is_low is_high lt = absurd (omega (arith, is_low.within))
  between_in low high (c ∷ cs) i zero d e parted is_low is_high lt = absurd (omega arith)
  between_in low high (c ∷ cs) zero (suc j) d e parted is_low is_high lt =
      let same : suc j - 0 - 1 ≡ j = omega arith in
      let first = before_below high c cs parted (omega (arith, is_high.within))
      (λ e. is_high.low 1 e (omega arith)) in
      let above = from-above low (flat cs)
      (all_above low cs parted.2 (λ j e lt. is_low.high (suc j) e (omega arith) (omega arith))) in
      ap (λ n. from_name c.1 low ++ (flat (take n cs) ++ below_name (get_or cs j e).1 high)) same
      ∙ ap (λ r. from_name c.1 low ++ r) (below_in high cs j e parted.2
      (in_rest high c cs j is_high))
      ∙ ap (λ r. r ++ below_name (flat cs) high) (sym (below-below high (from_name c.1 low)
      (all_from (λ q. text_cmp q high ≡ Less) low c.1 first)))
      ∙ ap (λ r. below_name (from_name c.1 low) high ++ below_name r high) (sym above)
      ∙ sym (below-parts high (from_name c.1 low) (from_name (flat cs) low))
      ∙ ap (λ es. below_name es high) (sym (from-parts low c.1 (flat cs)))
  between_in low high (c ∷ cs) (suc i) (suc j) d e parted is_low is_high lt =
      let same : suc j - suc i - 1 ≡ j - i - 1 = omega arith in
      ap (λ n. from_name (get_or cs i d).1 low ++ (flat (take n (drop (suc i) cs))
      ++ below_name (get_or cs j e).1 high)) same
      ∙ between_in low high cs i j d e parted.2 (in_rest low c cs i is_low)
      (in_rest high c cs j is_high)
      (omega arith)
      ∙ ap (λ es. below_name es high) (ap (λ r. r ++ from_name (flat cs) low)
      (sym (from-below low c.1
      (before_below low c cs parted (omega (arith, is_low.within))
      (λ e. is_low.low 1 e (omega arith)))))
      ∙ sym (from-parts low c.1 (flat cs)))

  -- ---- how many pairs chunks have

  -- one chunk more
  pub length_more : (cs : List (List ℕ × List (List ℕ × X))) (i : ℕ)
      (d : List ℕ × List (List ℕ × X))
      → i < length cs
      → length (flat (take (i + 1) cs)) ≡ length (flat (take i cs)) + length (get_or cs i d).1
  length_more [] i d lt = absurd (omega arith)
  length_more (c ∷ cs) zero d lt =
      omega (arith, ap length (append-nil c.1))
  length_more (c ∷ cs) (suc i) d lt =
      let rest = length_more cs i d (omega arith) in
      rw add-one (omega (
        arith,
        length-append c.1 (flat (take (suc i) cs)),
        length-append c.1
            (flat (take i cs)),
        rw add-one at rest,
      ))

  -- a front has at most all
  pub length_front : (cs : List (List ℕ × List (List ℕ × X))) (i : ℕ)
      → length (flat (take i cs)) ≤ length (flat cs)
  length_front cs zero = omega arith
  length_front [] (suc i) = omega arith
  length_front (c ∷ cs) (suc i) =
      omega (
        arith,
        length_front cs i,
        length-append c.1 (flat (take i cs)),
        length-append c.1
            (flat cs),
      )

  -- ---- an empty chunk dropped

  -- the chunks without the i-th
  abbrev pub dropped_chunk : List (List ℕ × List (List ℕ × X)) → ℕ
      → List (List ℕ × List (List ℕ × X))
  dropped_chunk [] i = []
  dropped_chunk (c ∷ cs) zero = cs
  dropped_chunk (c ∷ cs) (suc i) = c ∷ dropped_chunk cs i

  dropped_is : (cs : List (List ℕ × List (List ℕ × X))) (i : ℕ) → i < length cs
      → remove cs i ≡ dropped_chunk cs i
  dropped_is [] i lt = absurd (omega arith)
  dropped_is (c ∷ cs) zero lt = refl
  dropped_is (c ∷ cs) (suc i) lt = ap (λ l. c ∷ l) (dropped_is cs i (omega arith))

  all_dropped : (P : List ℕ → Type 0) (cs : List (List ℕ × List (List ℕ × X))) (i : ℕ)
      → AllByRecursion P (keys_of cs) → AllByRecursion P (keys_of (dropped_chunk cs i))
  all_dropped P [] i all = tt
  all_dropped P (c ∷ cs) zero all = all.1
  all_dropped P (c ∷ cs) (suc i) all = (all.0, all_dropped P cs i all.1)

  flat_dropped : (cs : List (List ℕ × List (List ℕ × X))) (i : ℕ) (d : List ℕ × List (List ℕ × X))
      → i < length cs
      → (get_or cs i d).1 ≡ [] → flat (dropped_chunk cs i) ≡ flat cs
  flat_dropped [] i d lt empty = absurd (omega arith)
  flat_dropped (c ∷ cs) zero d lt empty = sym (ap (λ es. es ++ flat cs) empty)
  flat_dropped (c ∷ cs) (suc i) d lt empty = ap (λ l. c.1 ++ l)
      (flat_dropped cs i d (omega arith) empty)

  heads_dropped : (cs : List (List ℕ × List (List ℕ × X))) (i : ℕ) → AreRising cs
      → AreRising (dropped_chunk cs i)
  unfolding IsStrictlySortedBy
  heads_dropped [] i rising = tt
  heads_dropped (c ∷ cs) zero rising = rising.1
  heads_dropped (c ∷ cs) (suc i) rising =
      (all_dropped (λ q. text_cmp c.0 q ≡ Less) cs i rising.0, heads_dropped cs i rising.1)

  parted_dropped : (cs : List (List ℕ × List (List ℕ × X))) (i : ℕ) → AreParted cs
      → AreParted (dropped_chunk cs i)
  parted_dropped [] i parted = tt
  parted_dropped (c ∷ cs) zero parted = parted.2
  parted_dropped (c ∷ cs) (suc i) parted =
      (parted.0, all_dropped (λ h. AllBelow h c.1) cs i parted.1, parted_dropped cs i parted.2)

  rooted_dropped : (cs : List (List ℕ × List (List ℕ × X))) (i : ℕ) → 0 < i → IsRooted cs
      → IsRooted (dropped_chunk cs i)
  rooted_dropped [] i some rooted = tt
  rooted_dropped (c ∷ cs) zero some rooted = absurd (omega arith)
  rooted_dropped (c ∷ cs) (suc i) some rooted = rooted

  no_pairs : (es : List (List ℕ × X)) → length es ≡ 0 → es ≡ []
  no_pairs [] none = refl
  no_pairs (e ∷ es) none = absurd (omega arith)

  -- leaves chunks, and the same run
  pub chunks_drop : (cs : List (List ℕ × List (List ℕ × X))) (i : ℕ)
      (d : List ℕ × List (List ℕ × X)) → AreChunks cs
      → i < length cs → 0 < i → length (get_or cs i d).1 ≡ 0
      → AreChunks (remove cs i) × (flat (remove cs i) ≡ flat cs)
  chunks_drop cs i d are lt some none =
      let same = flat_dropped cs i d lt (no_pairs (get_or cs i d).1 none) in
      let is = dropped_is cs i lt in (
        subst AreChunks (sym is) (record {
          rising = subst AreRising (sym same) are.rising;
          heads = heads_dropped cs i are.heads;
          parted = parted_dropped cs i are.parted;
          rooted = rooted_dropped cs i some are.rooted;
        }),
        ap flat is ∙ same,
      )
