-- Going from a fork to its master.
use Rattle.std.proofs.Common.{◌≡◌, ℕ, zero, suc, Bool, true, false, cond, ◌||◌, List, [], ◌∷◌, ◌++◌}
use Rattle.std.proofs.Common.{Some, refl, sym, ap, ◌∙◌, subst, ◌⊎◌, inl, inr}
use Rattle.std.proofs.lemmas.Bool.{or_parts, or_from}
use Rattle.std.proofs.lemmas.List.Folds.{list_any-append}
use Rattle.std.specs.Bool.{Decides}
use Rattle.std.specs.List.{AllByRecursion}
use Rattle.rx_value.specs.Due.{◌>>=◌}
use Rattle.rx_value.proofs.Outcomes.{some_then, some_same}
use Rattle.rx_tree.specs.Forest.{root_of, is_fork, master_of, climbed, Reaches}
use Rattle.rx_tree.proofs.OneRoot.{itself, one_root}

module _ {X : Type 0} (same : X → X → Bool) (law : (m n : X) → Decides (same m n) (m ≡ n)) where
  -- what isn't equal one way round isn't the other way round
  pub apart : (m n : X) → same m n ≡ false → same n m ≡ false
  apart m n other =
      elim (same n m) as (λ b. same n m ≡ b → b ≡ false) [
        | true ↦ (λ is. sym ((law m n).1 (sym ((law n m).0 is))) ∙ other)
        | false ↦ (λ is. refl)
      ] refl

  -- ---- one more fork

  -- what is no fork then was none before, and isn't that one
  pub none_before : (es : List (X × X)) (e : X × X) (n : X)
      → is_fork same (es ++ e ∷ []) n ≡ false → (is_fork same es n ≡ false) × (same e.0 n ≡ false)
  none_before es e n none =
      let parts = or_parts (is_fork same es n) (same e.0 n || false)
      (sym (list_any-append (λ d. same d.0 n) es (e ∷ [])) ∙ none) in
      (parts.0, (or_parts (same e.0 n) false parts.1).0)

  -- and the other way round
  pub none_after : (es : List (X × X)) (e : X × X) (n : X) → is_fork same es n ≡ false
      → same e.0 n ≡ false → is_fork same (es ++ e ∷ []) n ≡ false
  none_after es e n none other =
      list_any-append (λ d. same d.0 n) es (e ∷ [])
      ∙ or_from (is_fork same es n) (same e.0 n || false) none
      (or_from (same e.0 n) false other refl)

  -- a fork keeps its master
  pub keeps : (es : List (X × X)) (e : X × X) (n m : X) → master_of same es n ≡ Some m
      → master_of same (es ++ e ∷ []) n ≡ Some m
  keeps [] e n m is = cc
  keeps (d ∷ es) e n m is =
      elim (same n d.0)
      as (λ b. cond b (Some d.1) (master_of same es n) ≡ Some m
      → cond b (Some d.1) (master_of same (es ++ e ∷ []) n) ≡ Some m)
      [ true ↦ (λ found. found) | false ↦ (λ found. keeps es e n m found) ] is

  -- the one that is new has its master
  pub gets : (es : List (X × X)) (e : X × X) → is_fork same es e.0 ≡ false
      → master_of same (es ++ e ∷ []) e.0 ≡ Some e.1
  gets [] e none = rw (itself same law e.0) refl
  gets (d ∷ es) e none =
      let parts = or_parts (same d.0 e.0) (is_fork same es e.0) none in
      rw (apart d.0 e.0 parts.0) (gets es e parts.1)

  climbs : (k : ℕ) (es : List (X × X)) (e : X × X) (n m : X) → climbed same k es n ≡ Some m
      → climbed same k (es ++ e ∷ []) n ≡ Some m
  climbs zero es e n m is = is
  climbs (suc k) es e n m is =
      let found = some_then (master_of same es n) (climbed same k es) m is in
      ap (λ o. o >>= climbed same k (es ++ e ∷ [])) (keeps es e n found.0 found.1)
      ∙ climbs k es e found.0 m found.2

  -- what was reached is
  pub still : (es : List (X × X)) (e : X × X) (n m : X) → Reaches same es n m
      → Reaches same (es ++ e ∷ []) n m
  still es e n m up = (up.0, climbs up.0 es e n m up.1)

  -- ---- ways

  -- one way after another
  pub farther : (k : ℕ) (es : List (X × X)) (n m top : X) → climbed same k es n ≡ Some m
      → Reaches same es m top → Reaches same es n top
  farther zero es n m top is up = subst (λ (x : X). Reaches same es x top) (sym (some_same is)) up
  farther (suc k) es n m top is up =
      let found = some_then (master_of same es n) (climbed same k es) m is in
      let rest = farther k es found.0 m top found.2 up in
      (suc rest.0, ap (λ o. o >>= climbed same rest.0 es) found.1 ∙ rest.1)

  -- a way and one step more
  pub climb_end : (k : ℕ) (es : List (X × X)) (n m top : X) → climbed same k es n ≡ Some m
      → master_of same es m ≡ Some top → climbed same (suc k) es n ≡ Some top
  climb_end zero es n m top is at =
      subst (λ (x : X). climbed same 1 es x ≡ Some top) (sym (some_same is))
      (ap (λ o. o >>= climbed same 0 es) at)
  climb_end (suc k) es n m top is at =
      let found = some_then (master_of same es n) (climbed same k es) m is in
      ap (λ o. o >>= climbed same (suc k) es) found.1 ∙ climb_end k es found.0 m top found.2 at

  -- the last step of a way
  pub climb_last : (k : ℕ) (es : List (X × X)) (n top : X) → climbed same (suc k) es n ≡ Some top
      → (m : X) × (climbed same k es n ≡ Some m) × (master_of same es m ≡ Some top)
  climb_last zero es n top is =
      let found = some_then (master_of same es n) (climbed same 0 es) top is in
      (n, refl, found.1 ∙ found.2)
  climb_last (suc k) es n top is =
      let found = some_then (master_of same es n) (climbed same (suc k) es) top is in
      let last = climb_last k es found.0 top found.2 in
      (last.0, ap (λ o. o >>= climbed same k es) found.1 ∙ last.1, last.2)

  -- ---- ways with one more fork

  -- a master was there before, or is the new one's
  found_last : (es : List (X × X)) (e : X × X) (n m : X)
      → master_of same (es ++ e ∷ []) n ≡ Some m
      → (master_of same es n ≡ Some m) ⊎ ((n ≡ e.0) × (m ≡ e.1))
  found_last [] e n m is =
      elim (same n e.0)
      as (λ b. same n e.0 ≡ b → cond b (Some e.1) (master_of same [] n) ≡ Some m
      → (master_of same [] n ≡ Some m) ⊎ ((n ≡ e.0) × (m ≡ e.1))) [
        | true ↦ (λ so found. inr ((law n e.0).0 so, sym (some_same found)))
        | false ↦ (λ so found. inl found)
      ] refl is
  found_last (d ∷ es) e n m is =
      elim (same n d.0)
      as (λ b. cond b (Some d.1) (master_of same (es ++ e ∷ []) n) ≡ Some m
      → (cond b (Some d.1) (master_of same es n) ≡ Some m) ⊎ ((n ≡ e.0) × (m ≡ e.1))) [
        | true ↦ (λ found. inl found)
        | false ↦ (λ found. found_last es e n m found)
      ] is

  -- a way was there before, or leads to the new fork and on from its master
  pub goes : (k : ℕ) (es : List (X × X)) (e : X × X) (n m : X)
      → climbed same k (es ++ e ∷ []) n ≡ Some m
      → (climbed same k es n ≡ Some m)
      ⊎ (Reaches same es n e.0 × Reaches same (es ++ e ∷ []) e.1 m)
  goes zero es e n m is = inl is
  goes (suc k) es e n m is =
      let all = es ++ e ∷ [] in
      let found = some_then (master_of same all n) (climbed same k all) m is in
      elim (found_last es e n found.0 found.1) [
        | inl at ↦ elim (goes k es e found.0 m found.2) [
          | inl up ↦ inl (ap (λ o. o >>= climbed same k es) at ∙ up)
          | inr ways ↦ inr
              ((suc ways.0.0, ap (λ o. o >>= climbed same ways.0.0 es) at ∙ ways.0.1), ways.1)
        ]
        | inr new ↦ inr
            ((0, ap Some new.0), subst (λ (x : X). Reaches same all x m) new.1 (k, found.2))
      ]

  -- ---- roots

  -- what holds of each fork and its master holds of one that is found
  found_master : (R : X → X) (es : List (X × X)) (n m : X)
      → AllByRecursion (λ e. R e.0 ≡ R e.1) es → master_of same es n ≡ Some m → R n ≡ R m
  found_master R [] n m all is = cc
  found_master R (e ∷ es) n m all is =
      elim (same n e.0)
      as (λ b. same n e.0 ≡ b → cond b (Some e.1) (master_of same es n) ≡ Some m → R n ≡ R m) [
        | true ↦ (λ so found. ap R ((law n e.0).0 so) ∙ all.0 ∙ ap R (some_same found))
        | false ↦ (λ so found. found_master R es n m all.1 found)
      ] refl is

  -- the root stays on the way
  pub same_root : (k : ℕ) (es : List (X × X)) (n m : X) → climbed same k es n ≡ Some m
      → root_of same es n ≡ root_of same es m
  same_root zero es n m is = ap (root_of same es) (some_same is)
  same_root (suc k) es n m is =
      let found = some_then (master_of same es n) (climbed same k es) m is in
      found_master (root_of same es) es n found.0 (one_root same law es) found.1
      ∙ same_root k es found.0 m found.2
