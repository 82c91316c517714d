-- The rows of a collection's live documents, and of two collections that differ at one key.
use Rattle.std.proofs.Common.{◌≡◌, ◌≢◌, ℕ, Bool, true, false, not, cond, Option, Some, None, option_map, List, [], ◌∷◌, filter, refl, sym, ap, ◌∙◌, subst}
use Rattle.std.proofs.lemmas.Bool.{false≢true, true≢false}
use Rattle.std.proofs.lemmas.Cmp.{tied_itself}
use Rattle.std.proofs.lemmas.Option.{same_Some}
use Rattle.std.proofs.lemmas.Slice.Eq.{bytes_eq-Decides}
use Rattle.std.specs.List.{AllByRecursion}
use Rattle.std.specs.List.Sorted.{IsStrictlySortedBy}
use Rattle.std.specs.Map.{keys_of}
use Rattle.std.specs.Ordering.{ordering_reverse}
use Rattle.std.specs.Str.{bytes_eq}
use Rattle.std.specs.declared.cmp.Ordering.{Ordering}
use Rattle.std.specs.declared.cmp.Ordering.TheVariants.{Less, Equal, Greater}
use Rattle.rx_value.proofs.Ordered.{text_total, text_ties}
use Rattle.rx_value.specs.Fields.{Pairs}
use Rattle.rx_value.specs.Named.{named, AreRising}
use Rattle.rx_value.specs.Order.{text_cmp}
use Rattle.rx_value.proofs.Bytes.{bytes_turned}
use Rattle.rx_document.specs.Documents.{Documents, live}
use Rattle.rx_query.specs.declared.results.Row.{Row}
use Rattle.rx_query.specs.Result.{row_of}
use Rattle.rx_query.proofs.Rows.{other_key}
use Rattle.rx_actions.proofs.Changes.{has_key, held, others_of, IsCollection}
use Rattle.rx_actions.proofs.RowOrder.{row_keys}

-- ---- rising keys

-- either way round
other_back : (k l : List ℕ) → text_cmp k l ≡ Less → bytes_eq l k ≡ false
other_back k l h = go (bytes_eq l k) refl
  where
    go : (b : Bool) → bytes_eq l k ≡ b → b ≡ false
    go false e = refl
    go true e =
        let same = (bytes_eq-Decides l k).0 e in
        let level : text_cmp k l ≡ Equal = ap (λ n. text_cmp k n) same ∙ tied_itself text_total k in
        let bad : Less ≡ Equal = sym h ∙ level in cc

module _ {X : Type 0} where
  -- no lower key is named
  none_below : (k : List ℕ) (es : List (List ℕ × X))
      → AllByRecursion (λ l. text_cmp k l ≡ Less) (keys_of es) → named es k ≡ None
  none_below k [] below = refl
  none_below k (e ∷ es) below = rw (other_key k e.0 below.0) (none_below k es below.1)

  -- what is below the first is below all
  below_all : (k : List ℕ) (l : List ℕ) (es : List (List ℕ × X)) → text_cmp k l ≡ Less
      → AllByRecursion (λ m. text_cmp l m ≡ Less) (keys_of es)
      → AllByRecursion (λ m. text_cmp k m ≡ Less) (keys_of es)
  below_all k l [] h all = tt
  below_all k l (e ∷ es) h all =
      (text_total.trans k l e.0 h all.0, below_all k l es h all.1)

  -- a name is found at once
  here : (k : List ℕ) (x : X) (es : List (List ℕ × X)) → named ((k, x) ∷ es) k ≡ Some x
  here k x es = rw ((bytes_eq-Decides k k).1 refl) refl

  -- another name leaves it to those after it
  later : (e : List ℕ × X) (es : List (List ℕ × X)) (k : List ℕ) → bytes_eq k e.0 ≡ false
      → named (e ∷ es) k ≡ named es k
  later e es k h = rw h refl

  -- what two rising lists name alike after their first key they name alike without it
  tails_named : (e f : List ℕ × X) (es fs : List (List ℕ × X)) → e.0 ≡ f.0
      → AllByRecursion (λ l. text_cmp e.0 l ≡ Less) (keys_of es)
      → AllByRecursion (λ l. text_cmp f.0 l ≡ Less) (keys_of fs) → (k : List ℕ)
      → named (e ∷ es) k ≡ named (f ∷ fs) k → named es k ≡ named fs k
  tails_named e f es fs key up up' k same = go (bytes_eq k e.0) refl
    where
      go : (b : Bool) → bytes_eq k e.0 ≡ b → named es k ≡ named fs k
      go true h =
          let at = (bytes_eq-Decides k e.0).0 h in
          ap (named es) at ∙ none_below e.0 es up ∙ sym (none_below f.0 fs up')
          ∙ ap (named fs) (sym (at ∙ key))
      go false h =
          sym (later e es k h) ∙ same ∙ later f fs k (ap (bytes_eq k) (sym key) ∙ h)

  -- rising lists that name the same things are the same
  pub same_named : (es fs : List (List ℕ × X)) → AreRising es → AreRising fs
      → ((k : List ℕ) → named es k ≡ named fs k) → es ≡ fs
  unfolding IsStrictlySortedBy
  same_named [] [] up up' same = refl
  same_named [] (f ∷ fs) up up' same = let bad = same f.0 ∙ here f.0 f.1 fs in cc
  same_named (e ∷ es) [] up up' same = let bad = sym (same e.0) ∙ here e.0 e.1 es in cc
  same_named (e ∷ es) (f ∷ fs) up up' same =
      go (text_cmp e.0 f.0) refl (same_named es fs up.1 up'.1)
    where
      go : (o : Ordering) → text_cmp e.0 f.0 ≡ o
          → (((k : List ℕ) → named es k ≡ named fs k) → es ≡ fs) → e ∷ es ≡ f ∷ fs
      go Less h rest =
          let none = none_below e.0 (f ∷ fs) (h, below_all e.0 f.0 fs h up'.0) in
          let bad = sym (here e.0 e.1 es) ∙ same e.0 ∙ none in cc
      go Greater h rest =
          let back : text_cmp f.0 e.0 ≡ Less = text_total.antisymm f.0 e.0
          ∙ ap ordering_reverse h in
          let none = none_below f.0 (e ∷ es) (back, below_all f.0 e.0 es back up.0) in
          let bad = sym (here f.0 f.1 fs) ∙ sym (same f.0) ∙ none in cc
      go Equal h rest =
          let key : e.0 ≡ f.0 = text_ties e.0 f.0 h in
          let value : e.1 ≡ f.1 =
          same_Some e.1 f.1 (sym (here e.0 e.1 es) ∙ same e.0
          ∙ ap (named (f ∷ fs)) key ∙ here f.0 f.1 fs) in
          let tails : (k : List ℕ) → named es k ≡ named fs k =
          λ k. tails_named e f es fs key up.0 up'.0 k (same k) in
          ap (λ x. (e.0, x) ∷ es) value ∙ ap (λ l. (l, f.1) ∷ es) key
          ∙ ap (λ zs. f ∷ zs) (rest tails)

  -- ---- all keys but one

  -- the things of other names
  abbrev pub but : List ℕ → List (List ℕ × X) → List (List ℕ × X)
  but k es = filter (λ e. not (bytes_eq e.0 k)) es

  -- what holds of all keys holds of those
  all_but : (P : List ℕ → Type 0) (k : List ℕ) (es : List (List ℕ × X))
      → AllByRecursion P (keys_of es) → AllByRecursion P (keys_of (but k es))
  all_but P k [] all = tt
  all_but P k (e ∷ es) all =
      let rest = all_but P k es all.1 in
      elim (bytes_eq e.0 k) as (λ b. AllByRecursion P
      (keys_of (cond (not b) (e ∷ but k es) (but k es))))
      [ true ↦ rest | false ↦ (all.0, rest) ]

  -- they rise
  rising_but : (k : List ℕ) (es : List (List ℕ × X)) → AreRising es → AreRising (but k es)
  unfolding IsStrictlySortedBy
  rising_but k [] up = tt
  rising_but k (e ∷ es) up =
      let rest = rising_but k es up.1 in
      elim (bytes_eq e.0 k) as (λ b. AreRising (cond (not b) (e ∷ but k es) (but k es)))
      [ true ↦ rest | false ↦ (all_but (λ l. text_cmp e.0 l ≡ Less) k es up.0, rest) ]

  -- they name all but that one
  named_but : (k q : List ℕ) (es : List (List ℕ × X))
      → named (but k es) q ≡ cond (bytes_eq q k) None (named es q)
  named_but k q [] =
      let none : Option X = None in
      elim (bytes_eq q k) as (λ b. none ≡ cond b none none) [ true ↦ refl | false ↦ refl ]
  named_but k q (e ∷ es) = go (bytes_eq e.0 k) (bytes_eq q e.0) (bytes_eq q k) refl refl refl
      (named_but k q es)
    where
      go : (b c d : Bool) → bytes_eq e.0 k ≡ b → bytes_eq q e.0 ≡ c → bytes_eq q k ≡ d
          → named (but k es) q ≡ cond (bytes_eq q k) None (named es q)
          → named (cond (not (bytes_eq e.0 k)) (e ∷ but k es) (but k es)) q
          ≡ cond (bytes_eq q k) None (cond (bytes_eq q e.0) (Some e.1) (named es q))
      go true true true hb hc hd ih = simp (hb, hc, hd, ih)
      go true false false hb hc hd ih = simp (hb, hc, hd, ih)
      go true true false hb hc hd ih =
          absurd (true≢false (sym hc ∙ ap (bytes_eq q) ((bytes_eq-Decides e.0 k).0 hb) ∙ hd))
      go true false true hb hc hd ih =
          absurd (false≢true (sym hc ∙ ap (bytes_eq q) ((bytes_eq-Decides e.0 k).0 hb) ∙ hd))
      go false true true hb hc hd ih =
          absurd (false≢true (sym hb ∙ ap (λ n. bytes_eq n k) (sym ((bytes_eq-Decides q e.0).0 hc))
          ∙ hd))
      go false true false hb hc hd ih = simp (hb, hc, hd, ih)
      go false false true hb hc hd ih = simp (hb, hc, hd, ih)
      go false false false hb hc hd ih = simp (hb, hc, hd, ih)

  -- lists that name the same things but one are the same without it
  pub same_but : (k : List ℕ) (es fs : List (List ℕ × X)) → AreRising es → AreRising fs
      → ((q : List ℕ) → q ≢ k → named fs q ≡ named es q) → but k es ≡ but k fs
  same_but k es fs up up' same =
      same_named (but k es) (but k fs) (rising_but k es up) (rising_but k fs up')
      (λ q. named_but k q es ∙ at q ∙ sym (named_but k q fs))
    where
      at : (q : List ℕ) → cond (bytes_eq q k) None (named es q) ≡ cond (bytes_eq q k) None
          (named fs q)
      at q =
          (elim (bytes_eq q k) as (λ b. bytes_eq q k ≡ b
          → cond b None (named es q) ≡ cond b None (named fs q)) [
            | true ↦ (λ h. refl)
            | false ↦ (λ h. sym (same q (λ e. false≢true (sym h ∙ (bytes_eq-Decides q k).1 e))))
          ]) refl

-- ---- the rows of the live documents

-- in the order of the keys
abbrev pub live_rows : Documents → List Row
live_rows [] = []
live_rows (e ∷ es) =
    cond e.1.state.deleted (live_rows es) (row_of e.1 ∷ live_rows es)

-- the documents stand at their keys
abbrev pub Keyed : Documents → Type 0
Keyed es = AllByRecursion (λ e. e.1.state.key ≡ e.0) es

-- the rows of other ids are those of other keys
pub others_live : (k : List ℕ) (es : Documents) → Keyed es
    → others_of (has_key row_keys k) (live_rows es) ≡ live_rows (but k es)
others_live k [] keyed = refl
others_live k (e ∷ es) keyed =
    go e.1.state.deleted (bytes_eq e.0 k) refl refl (ap (λ l. bytes_eq l k) keyed.0)
    (others_live k es keyed.1)
  where
    go : (d b : Bool) → e.1.state.deleted ≡ d → bytes_eq e.0 k ≡ b
        → bytes_eq e.1.state.key k ≡ bytes_eq e.0 k
        → others_of (has_key row_keys k) (live_rows es) ≡ live_rows (but k es)
        → others_of (has_key row_keys k) (live_rows (e ∷ es)) ≡ live_rows (but k (e ∷ es))
    go true true p q same ih = simp (p, q, ih)
    go true false p q same ih = simp (p, q, ih)
    go false true p q same ih = simp (p, same, q, ih)
    go false false p q same ih = simp (p, same, q, ih)

-- a lower key has no row
apart_live : (k : List ℕ) (es : Documents) → Keyed es
    → AllByRecursion (λ l. text_cmp k l ≡ Less) (keys_of es)
    → AllByRecursion (λ r. has_key row_keys k r ≡ false) (live_rows es)
apart_live k [] keyed below = tt
apart_live k (e ∷ es) keyed below =
    let rest = apart_live k es keyed.1 below.1 in
    let here = ap (λ l. bytes_eq l k) keyed.0 ∙ other_back k e.0 below.0 in
    elim e.1.state.deleted as (λ b. AllByRecursion (λ r. has_key row_keys k r ≡ false)
    (cond b (live_rows es) (row_of e.1 ∷ live_rows es)))
    [ true ↦ rest | false ↦ (here, rest) ]

-- no two rows have one id
pub distinct_live : (es : Documents) → AreRising es → Keyed es
    → IsCollection row_keys (live_rows es)
unfolding IsStrictlySortedBy
distinct_live [] up keyed = tt
distinct_live (e ∷ es) up keyed =
    let rest = distinct_live es up.1 keyed.1 in
    let apart = subst (λ k. AllByRecursion (λ r. has_key row_keys k r ≡ false) (live_rows es))
    (sym keyed.0) (apart_live e.0 es keyed.1 up.0) in
    elim e.1.state.deleted as (λ b. IsCollection row_keys
    (cond b (live_rows es) (row_of e.1 ∷ live_rows es)))
    [ true ↦ rest | false ↦ (apart, rest) ]

-- the row of an id with such fields
abbrev pub row_with : List ℕ → Pairs → Row
row_with k fields = record { id = k; fields = fields }

-- where no row has the key none is found
held_none : (mine : Row → Bool) (xs : List Row) → AllByRecursion (λ r. mine r ≡ false) xs
    → held mine xs ≡ None
held_none mine [] h = refl
held_none mine (x ∷ xs) h = rw (h.0) (held_none mine xs h.1)

-- the row of a key is that of its live document
pub held_live : (k : List ℕ) (es : Documents) → AreRising es → Keyed es
    → held (has_key row_keys k) (live_rows es) ≡ option_map (row_with k) (live (named es k))
unfolding IsStrictlySortedBy
held_live k [] up keyed = refl
held_live k (e ∷ es) up keyed =
    go e.1.state.deleted (bytes_eq e.0 k) refl refl (ap (λ l. bytes_eq l k) keyed.0)
    (bytes_turned k e.0) (held_live k es up.1 keyed.1)
  where
    key : bytes_eq e.0 k ≡ true → e.0 ≡ k
    key q = (bytes_eq-Decides e.0 k).0 q

    alone : bytes_eq e.0 k ≡ true → held (has_key row_keys k) (live_rows es) ≡ None
    alone q =
        held_none (has_key row_keys k) (live_rows es)
        (subst (λ l. AllByRecursion (λ r. has_key row_keys l r ≡ false) (live_rows es)) (key q)
        (apart_live e.0 es keyed.1 up.0))

    go : (d b : Bool) → e.1.state.deleted ≡ d → bytes_eq e.0 k ≡ b
        → bytes_eq e.1.state.key k ≡ bytes_eq e.0 k → bytes_eq k e.0 ≡ bytes_eq e.0 k
        → held (has_key row_keys k) (live_rows es) ≡ option_map (row_with k) (live (named es k))
        → held (has_key row_keys k) (live_rows (e ∷ es))
        ≡ option_map (row_with k) (live (named (e ∷ es) k))
    go true true p q same flip ih = simp (p, flip, q, alone q)
    go true false p q same flip ih = simp (p, flip, q, ih)
    go false true p q same flip ih =
        simp (p, same, flip, q) (ap (λ l. Some (row_with l e.1.state.fields)) (keyed.0 ∙ key q))
    go false false p q same flip ih = simp (p, same, flip, q, ih)
