-- What a name names after a change.
use Rattle.std.proofs.Common.{◌≡◌, ◌≢◌, ℕ, true, false, true≢false, cond, Bool, List, [], ◌∷◌, Some, option_map, refl, sym, ap, ◌∙◌, subst}
use Rattle.std.proofs.lemmas.Slice.Eq.{bytes_eq-Decides}
use Rattle.std.specs.List.{AllByRecursion, IsDistinct}
use Rattle.std.specs.Map.{keys_of}
use Rattle.std.specs.Str.{bytes_eq}
use Rattle.rx_value.specs.Named.{named, put_named, change_named}
use Rattle.rx_value.proofs.Named.{named-put_named}
use Rattle.rx_value.proofs.Bytes.{bytes_apart}

module _ {X : Type 0} where
  -- a thing that was put is named
  -- and another name names what it did
  pub named-put_other : (es : List (List ℕ × X)) (k q : List ℕ) (x : X) → q ≢ k
      → named (put_named es k x) q ≡ named es q
  named-put_other es k q x apart =
      named-put_named es k q x ∙ ap (λ b. cond b (Some x) (named es q)) (bytes_apart q k apart)

  -- one thing, and then the others
  changed_here : (f : X → X) (b : Bool) (e : List ℕ × X) (es xs : List (List ℕ × X)) (k : List ℕ)
      → bytes_eq k e.0 ≡ b → named xs k ≡ option_map f (named es k)
      → named (cond b ((e.0, f e.1) ∷ es) (e ∷ xs)) k
      ≡ option_map f (cond b (Some e.1) (named es k))
  changed_here f true e es xs k is rest = ap (λ b. cond b (Some (f e.1)) (named es k)) is
  changed_here f false e es xs k is rest = ap (λ b. cond b (Some e.1) (named xs k)) is ∙ rest

  -- a changed name names the changed thing
  pub named-change_same : (f : X → X) (es : List (List ℕ × X)) (k : List ℕ)
      → named (change_named es k f) k ≡ option_map f (named es k)
  named-change_same f [] k = refl
  named-change_same f (e ∷ es) k =
      changed_here f (bytes_eq k e.0) e es (change_named es k f) k refl (named-change_same f es k)

  changed_there : (f : X → X) (b : Bool) (e : List ℕ × X) (es xs : List (List ℕ × X)) (k q : List ℕ)
      → bytes_eq k e.0 ≡ b → q ≢ k → named xs q ≡ named es q
      → named (cond b ((e.0, f e.1) ∷ es) (e ∷ xs)) q ≡ named (e ∷ es) q
  changed_there f true e es xs k q is apart rest =
      let not_here : bytes_eq q e.0 ≡ false =
      subst (λ n. bytes_eq q n ≡ false) ((bytes_eq-Decides k e.0).0 is) (bytes_apart q k apart) in
      ap (λ b. cond b (Some (f e.1)) (named es q)) not_here
      ∙ sym (ap (λ b. cond b (Some e.1) (named es q)) not_here)
  changed_there f false e es xs k q is apart rest = ap (cond (bytes_eq q e.0) (Some e.1)) rest

  -- and another name names what it did
  pub named-change_other : (f : X → X) (es : List (List ℕ × X)) (k q : List ℕ) → q ≢ k
      → named (change_named es k f) q ≡ named es q
  named-change_other f [] k q apart = refl
  named-change_other f (e ∷ es) k q apart =
      changed_there f (bytes_eq k e.0) e es (change_named es k f) k q refl apart
      (named-change_other f es k q apart)

  keys_chosen : (f : X → X) (b : Bool) (e : List ℕ × X) (es xs : List (List ℕ × X))
      → keys_of xs ≡ keys_of es → keys_of (cond b ((e.0, f e.1) ∷ es) (e ∷ xs)) ≡ keys_of (e ∷ es)
  keys_chosen f true e es xs rest = refl
  keys_chosen f false e es xs rest = ap (λ ks. e.0 ∷ ks) rest

  -- the names stay
  pub keys-change_named : (f : X → X) (es : List (List ℕ × X)) (k : List ℕ)
      → keys_of (change_named es k f) ≡ keys_of es
  keys-change_named f [] k = refl
  keys-change_named f (e ∷ es) k =
      keys_chosen f (bytes_eq k e.0) e es (change_named es k f) (keys-change_named f es k)

  -- to leave the thing of a name leaves all
  pub change_named-same : (es : List (List ℕ × X)) (k : List ℕ) → change_named es k (λ x. x) ≡ es
  change_named-same [] k = refl
  change_named-same (e ∷ es) k =
      elim (bytes_eq k e.0)
      as (λ b. cond b ((e.0, e.1) ∷ es) (e ∷ change_named es k (λ x. x)) ≡ e ∷ es)
      [ true ↦ refl | false ↦ ap (λ r. e ∷ r) (change_named-same es k) ]

  -- a name that is none of the names is none of them after another one is put
  apart_put : (l : List ℕ) (es : List (List ℕ × X)) (k : List ℕ) (x : X) → bytes_eq l k ≡ false
      → AllByRecursion (λ y. bytes_eq l y ≡ false) (keys_of es)
      → AllByRecursion (λ y. bytes_eq l y ≡ false) (keys_of (put_named es k x))
  apart_put l [] k x apart all = (apart, tt)
  apart_put l (e ∷ es) k x apart all =
      elim (bytes_eq k e.0) as (λ b. AllByRecursion (λ y. bytes_eq l y ≡ false)
      (keys_of (cond b ((e.0, x) ∷ es) (e ∷ put_named es k x)))) [
        | true ↦ all
        | false ↦ (all.0, apart_put l es k x apart all.1)
      ]

  -- names that come once do so after a thing is put
  pub distinct_put_named : (es : List (List ℕ × X)) (k : List ℕ) (x : X)
      → IsDistinct bytes_eq (keys_of es) → IsDistinct bytes_eq (keys_of (put_named es k x))
  unfolding IsDistinct
  distinct_put_named [] k x distinct = (tt, tt)
  distinct_put_named (e ∷ es) k x distinct =
      elim (bytes_eq k e.0) as (λ b. bytes_eq k e.0 ≡ b → IsDistinct bytes_eq
      (keys_of (cond b ((e.0, x) ∷ es) (e ∷ put_named es k x)))) [
        | true ↦ (λ is. distinct)
        | false ↦ (λ is.
            let apart : bytes_eq e.0 k ≡ false =
            bytes_apart e.0 k
            (λ same. true≢false (sym ((bytes_eq-Decides k e.0).1 (sym same)) ∙ is)) in
            (apart_put e.0 es k x apart distinct.0, distinct_put_named es k x distinct.1))
      ] refl

module _ {X : Type 0} (P : List ℕ → X → Type 0) where
  -- what holds of all and of one more holds after that one is put
  pub all_put_named : (es : List (List ℕ × X)) (k : List ℕ) (x : X) → P k x
      → AllByRecursion (λ e. P e.0 e.1) es → AllByRecursion (λ e. P e.0 e.1) (put_named es k x)
  all_put_named [] k x here all = (here, tt)
  all_put_named (e ∷ es) k x here all =
      elim (bytes_eq k e.0) as (λ b. bytes_eq k e.0 ≡ b → AllByRecursion (λ e. P e.0 e.1)
      (cond b ((e.0, x) ∷ es) (e ∷ put_named es k x))) [
        | true ↦ (λ is. (subst (λ n. P n x) ((bytes_eq-Decides k e.0).0 is) here, all.1))
        | false ↦ (λ is. (all.0, all_put_named es k x here all.1))
      ] refl

  -- what holds of all holds after the thing of a name is changed, if the change keeps it
  pub all_change_named : (es : List (List ℕ × X)) (k : List ℕ) (f : X → X)
      → ((x : X) → named es k ≡ Some x → P k x → P k (f x))
      → AllByRecursion (λ e. P e.0 e.1) es → AllByRecursion (λ e. P e.0 e.1) (change_named es k f)
  all_change_named [] k f keeps all = tt
  all_change_named (e ∷ es) k f keeps all =
      elim (bytes_eq k e.0) as (λ b. bytes_eq k e.0 ≡ b
      → ((x : X) → cond b (Some e.1) (named es k) ≡ Some x → P k x → P k (f x))
      → AllByRecursion (λ e. P e.0 e.1) (cond b ((e.0, f e.1) ∷ es) (e ∷ change_named es k f))) [
        | true ↦ (λ is keeps.
            let same = (bytes_eq-Decides k e.0).0 is in (
              subst (λ n. P n (f e.1)) same
                  (keeps e.1 refl (subst (λ n. P n e.1) (sym same) all.0)),
              all.1,
            ))
        | false ↦ (λ is keeps. (all.0, all_change_named es k f keeps all.1))
      ] refl keeps
