-- Maps with text keys, by the bytes of the keys.
use Rattle.std.proofs.Common.{is_some, true≢false, ◌≡◌, ℕ, Bool, true, false, cond, List, [], ◌∷◌, map, Option, Some, None, String, Global, string_bytes, refl, sym, ap, ◌∙◌, option_map, option_copied}
use Rattle.std.specs.Borrow.{Bor}
use Rattle.std.specs.BTreeMap as tree
use Rattle.std.specs.List.{AllByRecursion}
use Rattle.std.specs.List.Sorted.{IsStrictlySortedBy}
use Rattle.std.specs.Map.{keys_of, lookup, set_value}
use Rattle.std.specs.Ordering.{is_eq, match_ordering, ordering_reverse}
use Rattle.std.specs.Str.{bytes_eq}
use Rattle.std.specs.String.{string_cmp, string_eq}
use Rattle.std.specs.declared.cmp.Ordering.{Ordering}
use Rattle.std.specs.declared.cmp.Ordering.TheVariants.{Less, Equal, Greater}
use Rattle.std.proofs.lemmas.Map.Text.{is_eq-slice_cmp}
use Rattle.std.proofs.lemmas.Slice.Eq.{bytes_eq-Decides}
use Rattle.indexmap.specs.IndexMap.{insert_entry}
use Rattle.rx_value.specs.Named.{by_name, by_bytes, named, put_named, change_named, put_in_order, AreRising}
use Rattle.rx_value.specs.Order.{text_cmp}
use Rattle.rx_value.proofs.Ordered.{text_total}

-- ---- each thing as it is

module _ {X : Type 0} where
  -- `get` and `contains_key` of an `IndexMap`
  pub lookup-by_bytes : (es : List (String Global × X)) (name : List ℕ)
      → lookup (λ k. bytes_eq name (string_bytes k)) es ≡ named (by_bytes es) name
  lookup-by_bytes [] name = refl
  lookup-by_bytes (e ∷ es) name =
      ap (cond (bytes_eq name (string_bytes e.0)) (Some e.1)) (lookup-by_bytes es name)

  -- `get` and `contains_key` of a `BTreeMap`
  pub tree_lookup-by_bytes : (es : List (String Global × X)) (name : List ℕ)
      → lookup (λ k. is_eq (text_cmp name (string_bytes k))) es ≡ named (by_bytes es) name
  tree_lookup-by_bytes [] name = refl
  tree_lookup-by_bytes (e ∷ es) name =
      let rest = lookup (λ k. is_eq (text_cmp name (string_bytes k))) es in
      ap (λ b. cond b (Some e.1) rest) (is_eq-slice_cmp name (string_bytes e.0))
      ∙ ap (cond (bytes_eq name (string_bytes e.0)) (Some e.1)) (tree_lookup-by_bytes es name)

  -- the bytes of the one of three lists that is picked
  pick : (o : Ordering) (xs ys zs : List (String Global × X))
      → by_bytes (match_ordering o xs ys zs)
      ≡ match_ordering o (by_bytes xs) (by_bytes ys) (by_bytes zs)
  pick Less xs ys zs = refl
  pick Equal xs ys zs = refl
  pick Greater xs ys zs = refl

  -- `insert` of a `BTreeMap`
  pub by_bytes-tree_insert : (es : List (String Global × X)) (k : String Global) (x : X)
      → by_bytes (tree.insert_entry string_cmp es k x)
      ≡ put_in_order (by_bytes es) (string_bytes k) x
  by_bytes-tree_insert [] k x = refl
  by_bytes-tree_insert (e ∷ es) k x =
      let bytes = string_bytes k in
      let here : List ℕ × X = (string_bytes e.0, e.1) in
      pick (string_cmp k e.0) ((k, x) ∷ e ∷ es) ((e.0, x) ∷ es)
      (e ∷ tree.insert_entry string_cmp es k x)
      ∙ ap (λ rest. match_ordering (string_cmp k e.0) ((bytes, x) ∷ here ∷ by_bytes es)
      ((string_bytes e.0, x) ∷ by_bytes es) (here ∷ rest))
      (by_bytes-tree_insert es k x)

-- ---- each thing as it is shown

module _ {H X : Type 0} (shown : H → X) where
  -- one entry, and then the others
  found_in : (b : Bool) (e : String Global × H) (rest : Option H) (rest_x : Option X)
      → option_map shown rest ≡ rest_x
      → option_map shown (cond b (Some e.1) rest) ≡ cond b (Some (shown e.1)) rest_x
  found_in true e rest rest_x is = refl
  found_in false e rest rest_x is = is

  -- `get` of an `IndexMap`
  pub lookup-by_name : (es : List (String Global × H)) (name : List ℕ)
      → option_map shown (lookup (λ k. bytes_eq name (string_bytes k)) es)
      ≡ named (by_name shown es) name
  lookup-by_name [] name = refl
  lookup-by_name (e ∷ es) name =
      found_in (bytes_eq name (string_bytes e.0)) e _ _ (lookup-by_name es name)

  -- what is shown of the one of two lists that is chosen
  choose : (b : Bool) (xs ys : List (String Global × H))
      → by_name shown (cond b xs ys) ≡ cond b (by_name shown xs) (by_name shown ys)
  choose true xs ys = refl
  choose false xs ys = refl

  -- `insert` of an `IndexMap`
  pub by_name-insert_entry : (es : List (String Global × H)) (k : String Global) (h : H)
      → by_name shown (insert_entry string_eq es k h)
      ≡ put_named (by_name shown es) (string_bytes k) (shown h)
  by_name-insert_entry [] k h = refl
  by_name-insert_entry (e ∷ es) k h =
      choose (string_eq k e.0) ((e.0, h) ∷ es) (e ∷ insert_entry string_eq es k h)
      ∙ ap (λ rest. cond (string_eq k e.0) ((string_bytes e.0, shown h) ∷ by_name shown es)
      ((string_bytes e.0, shown e.1) ∷ rest))
      (by_name-insert_entry es k h)

  -- what was found, which is the old thing
  old_of : H → Option H → H
  old_of old None = old
  old_of old (Some h) = h

  -- one entry, and then the others
  changed : (f : X → X) (b : Bool) (e : String Global × H) (es later : List (String Global × H))
      (xs : List (List ℕ × X)) (old new : H) (found : Option H) → shown new ≡ f (shown old)
      → cond b (Some e.1) found ≡ Some old → (found ≡ Some old → by_name shown later ≡ xs)
      → by_name shown (cond b ((e.0, new) ∷ es) (e ∷ later))
      ≡ cond b ((string_bytes e.0, f (shown e.1)) ∷ by_name shown es)
      ((string_bytes e.0, shown e.1) ∷ xs)
  unfolding old_of
  changed f true e es later xs old new found is at rest =
      ap (λ x. (string_bytes e.0, x) ∷ by_name shown es)
      (is ∙ ap (λ o. f (shown (old_of old o))) (sym at))
  changed f false e es later xs old new found is at rest =
      ap (λ r. (string_bytes e.0, shown e.1) ∷ r) (rest at)

  -- a write through `get_mut` of an `IndexMap` that changes what is shown by f
  pub by_name-set_value : (f : X → X) (es : List (String Global × H)) (name : List ℕ) (old new : H)
      → shown new ≡ f (shown old)
      → lookup (λ k. bytes_eq name (string_bytes k)) es ≡ Some old
      → by_name shown (set_value (λ k. bytes_eq name (string_bytes k)) es new)
      ≡ change_named (by_name shown es) name f
  by_name-set_value f [] name old new is at = refl
  by_name-set_value f (e ∷ es) name old new is at =
      changed f (bytes_eq name (string_bytes e.0)) e es
      (set_value (λ k. bytes_eq name (string_bytes k)) es new)
      (change_named (by_name shown es) name f) old new
      (lookup (λ k. bytes_eq name (string_bytes k)) es) is at
      (by_name-set_value f es name old new is)

-- `insert` of an `IndexMap`, each thing as it is
pub by_bytes-insert_entry : {X : Type 0} (es : List (String Global × X)) (k : String Global) (x : X)
    → by_bytes (insert_entry string_eq es k x) ≡ put_named (by_bytes es) (string_bytes k) x
by_bytes-insert_entry = by_name-insert_entry (λ x. x)

-- what a look-up lends, as it is shown
pub map-copied : {H X : Type 0} (shown : H → X) (r : Option (Bor H))
    → option_map (λ h. shown h.now) r ≡ option_map shown (option_copied r)
map-copied shown None = refl
map-copied shown (Some h) = refl

-- ---- lists of named things

-- a key below all keys is so by its bytes
below_all : (k : String Global) (ks : List (String Global))
    → AllByRecursion (λ y. string_cmp k y ≡ Less) ks
    → AllByRecursion (λ y. text_cmp (string_bytes k) y ≡ Less) (map string_bytes ks)
below_all k [] h = tt
below_all k (l ∷ ks) h = (h.0, below_all k ks h.1)

-- keys that rise do so by their bytes
pub rising_bytes : (ks : List (String Global)) → IsStrictlySortedBy string_cmp ks
    → IsStrictlySortedBy text_cmp (map string_bytes ks)
unfolding IsStrictlySortedBy
rising_bytes [] h = tt
rising_bytes (k ∷ ks) h = (below_all k ks h.0, rising_bytes ks h.1)

-- a second choice by the same test tells nothing
chosen_once : {X : Type 0} (b : Bool) (x y : X) (o : Option X)
    → cond b (Some x) o ≡ cond b (Some x) (cond b (Some y) o)
chosen_once true x y o = refl
chosen_once false x y o = refl

-- choices by tests that don't both hold stand in either order
swapped : {X : Type 0} (b c : Bool) (x y : X) (o : Option X) → (c ≡ true → b ≡ false)
    → cond b (Some y) (cond c (Some x) o) ≡ cond c (Some x) (cond b (Some y) o)
swapped true true x y o apart = absurd (true≢false (apart refl))
swapped true false x y o apart = refl
swapped false c x y o apart = refl

-- of two equal names one does as the other
name_for : (q k l : List ℕ) → bytes_eq k l ≡ true → bytes_eq q k ≡ bytes_eq q l
name_for q k l is = ap (bytes_eq q) ((bytes_eq-Decides k l).0 is)

module _ {X : Type 0} where
  -- one thing, and then the others
  unchanged : (f : X → X) (b : Bool) (e : List ℕ × X) (es xs : List (List ℕ × X)) (found : Option X)
      → cond b (Some e.1) found ≡ None → (found ≡ None → es ≡ xs)
      → e ∷ es ≡ cond b ((e.0, f e.1) ∷ es) (e ∷ xs)
  unchanged f true e es xs found at rest = absurd (true≢false (ap is_some at))
  unchanged f false e es xs found at rest = ap (λ r. e ∷ r) (rest at)

  -- a change at a name that isn't there changes nothing
  pub change_named-none : (f : X → X) (es : List (List ℕ × X)) (name : List ℕ)
      → named es name ≡ None → es ≡ change_named es name f
  change_named-none f [] name at = refl
  change_named-none f (e ∷ es) name at =
      unchanged f (bytes_eq name e.0) e es (change_named es name f) (named es name) at
      (change_named-none f es name)

  -- one thing, and then the others
  put_step : (b : Bool) (q k : List ℕ) (x : X) (e : List ℕ × X) (es : List (List ℕ × X))
      → bytes_eq k e.0 ≡ b
      → named (put_named es k x) q ≡ cond (bytes_eq q k) (Some x) (named es q)
      → named (cond b ((e.0, x) ∷ es) (e ∷ put_named es k x)) q
      ≡ cond (bytes_eq q k) (Some x) (named (e ∷ es) q)
  put_step true q k x e es is rest =
      rw (name_for q k e.0 is) (chosen_once (bytes_eq q e.0) x e.1 (named es q))
  put_step false q k x e es is rest =
      let apart : bytes_eq q k ≡ true → bytes_eq q e.0 ≡ false =
      λ same. ap (λ n. bytes_eq n e.0) ((bytes_eq-Decides q k).0 same) ∙ is in
      rw rest (swapped (bytes_eq q e.0) (bytes_eq q k) x e.1 (named es q) apart)

  -- a thing that was put is found at its name, and any other as before
  pub named-put_named : (es : List (List ℕ × X)) (k q : List ℕ) (x : X)
      → named (put_named es k x) q ≡ cond (bytes_eq q k) (Some x) (named es q)
  named-put_named [] k q x = refl
  named-put_named (e ∷ es) k q x =
      put_step (bytes_eq k e.0) q k x e es refl (named-put_named es k q x)

  -- the same among rising names
  order_step : (o : Ordering) (q k : List ℕ) (x : X) (e : List ℕ × X) (es : List (List ℕ × X))
      → text_cmp k e.0 ≡ o
      → named (put_in_order es k x) q ≡ cond (bytes_eq q k) (Some x) (named es q)
      → named (match_ordering o ((k, x) ∷ e ∷ es) ((e.0, x) ∷ es) (e ∷ put_in_order es k x)) q
      ≡ cond (bytes_eq q k) (Some x) (named (e ∷ es) q)
  order_step Less q k x e es is rest = refl
  order_step Equal q k x e es is rest =
      put_step true q k x e es (sym (is_eq-slice_cmp k e.0) ∙ ap is_eq is)
      (named-put_named es k q x)
  order_step Greater q k x e es is rest =
      let other : bytes_eq k e.0 ≡ false = sym (is_eq-slice_cmp k e.0) ∙ ap is_eq is in
      ap (cond (bytes_eq q e.0) (Some e.1)) (rest ∙ sym (named-put_named es k q x))
      ∙ put_step false q k x e es other (named-put_named es k q x)

  -- the same of one that was put in order
  pub named-put_in_order : (es : List (List ℕ × X)) (k q : List ℕ) (x : X)
      → named (put_in_order es k x) q ≡ cond (bytes_eq q k) (Some x) (named es q)
  named-put_in_order [] k q x = refl
  named-put_in_order (e ∷ es) k q x =
      order_step (text_cmp k e.0) q k x e es refl (named-put_in_order es k q x)

  -- what holds of all names and of one more holds after that one is put
  all_put : (P : List ℕ → Type 0) (es : List (List ℕ × X)) (name : List ℕ) (x : X) → P name
      → AllByRecursion P (keys_of es) → AllByRecursion P (keys_of (put_in_order es name x))
  all_put P [] name x here all = (here, tt)
  all_put P (e ∷ es) name x here all =
      elim (text_cmp name e.0)
      as (λ o. AllByRecursion P (keys_of
      (match_ordering o ((name, x) ∷ e ∷ es) ((e.0, x) ∷ es) (e ∷ put_in_order es name x)))) [
        | Less ↦ (here, all)
        | Equal ↦ all
        | Greater ↦ (all.0, all_put P es name x here all.1)
      ]

  -- below the first of rising names is below all
  above_all : (k : List ℕ) (l : List ℕ) (es : List (List ℕ × X)) → text_cmp k l ≡ Less
      → AllByRecursion (λ y. text_cmp l y ≡ Less) (keys_of es)
      → AllByRecursion (λ y. text_cmp k y ≡ Less) (keys_of es)
  above_all k l [] is all = tt
  above_all k l (e ∷ es) is all =
      (text_total.trans k l e.0 is all.0, above_all k l es is all.1)

  -- one thing, and then the others
  step : (o : Ordering) (e : List ℕ × X) (es : List (List ℕ × X)) (name : List ℕ) (x : X)
      → text_cmp name e.0 ≡ o → AreRising (e ∷ es) → AreRising (put_in_order es name x)
      → AreRising
      (match_ordering o ((name, x) ∷ e ∷ es) ((e.0, x) ∷ es) (e ∷ put_in_order es name x))
  unfolding IsStrictlySortedBy
  step Less e es name x is rising rest = ((is, above_all name e.0 es is rising.0), rising)
  step Equal e es name x is rising rest = rising
  step Greater e es name x is rising rest =
      let below = text_total.antisymm e.0 name ∙ ap ordering_reverse is in
      (all_put (λ y. text_cmp e.0 y ≡ Less) es name x below rising.0, rest)

  -- to put in order keeps the names rising
  pub put_in_order-rising : (es : List (List ℕ × X)) (name : List ℕ) (x : X) → AreRising es
      → AreRising (put_in_order es name x)
  unfolding IsStrictlySortedBy
  put_in_order-rising [] name x rising = (tt, tt)
  put_in_order-rising (e ∷ es) name x rising =
      step (text_cmp name e.0) e es name x refl rising (put_in_order-rising es name x rising.1)
