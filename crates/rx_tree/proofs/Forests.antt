-- Where each fork could follow its master, the roots are where going up ends.
use Rattle.std.proofs.Common.{◌≡◌, ℕ, suc, Bool, true, false, cond, not, ◌&&◌, ◌||◌, inl, inr, List}
use Rattle.std.proofs.Common.{[], ◌∷◌, ◌++◌, Some, refl, sym, ap, ap₂, ◌∙◌, subst, append_assoc}
use Rattle.std.proofs.Common.{append-nil}
use Rattle.std.proofs.lemmas.Bool.{and_parts, and_from, false≢true, not-true, or_cases}
use Rattle.std.proofs.lemmas.List.Folds.{list_any-append}
use Rattle.std.specs.Bool.{Decides}
use Rattle.rx_value.specs.Due.{◌>>=◌}
use Rattle.rx_value.proofs.Outcomes.{not_none}
use Rattle.rx_tree.specs.Forest.{root_of, is_fork, follows, may_follow, are_made, is_forest}
use Rattle.rx_tree.specs.Forest.{master_of, climbed, Reaches}
use Rattle.rx_tree.specs.Laws.{ReachesItsRoot, RootIsNoFork, IsRootOfThoseBelow, JoinsWhatMeets}
use Rattle.rx_tree.proofs.Climbing.{apart, none_before, none_after, keeps, gets, still, farther}
use Rattle.rx_tree.proofs.Climbing.{goes, same_root}
use Rattle.rx_tree.proofs.OneRoot.{roots_after-last}

-- What is no fork is its own root; a root is no fork, and it is reached; no way comes back; and a
-- fork has one master.
record AreRoots {X : Type 0} (same : X → X → Bool) (es : List (X × X)) : Type 0 where
  own : (n : X) → is_fork same es n ≡ false → root_of same es n ≡ n
  ends : (n : X) → is_fork same es (root_of same es n) ≡ false
  leads : (n : X) → Reaches same es n (root_of same es n)
  back : (n : X) (k : ℕ) → climbed same (suc k) es n ≡ Some n → ⊥
  only : (m n : X) → follows same es m n ≡ true → master_of same es n ≡ Some m

module _ {X : Type 0} (same : X → X → Bool) (law : (m n : X) → Decides (same m n) (m ≡ n)) where
  -- ---- one more fork

  -- what is no fork is its own root
  next_own : (es : List (X × X)) (e : X × X) (n : X) → AreRoots same es
      → is_fork same es e.0 ≡ false → is_fork same (es ++ e ∷ []) n ≡ false
      → root_of same (es ++ e ∷ []) n ≡ n
  next_own es e n roots new none =
      let r = root_of same es in
      let before = none_before same law es e n none in
      roots_after-last same law es (λ m. m) e n
      ∙ ap (λ b. cond b (r e.1) (r n))
      (ap₂ same (roots.own n before.0) (roots.own e.0 new) ∙ apart same law e.0 n before.1)
      ∙ roots.own n before.0

  -- a root is no fork
  next_ends : (es : List (X × X)) (e : X × X) (n : X) → AreRoots same es
      → is_fork same es e.0 ≡ false → same (root_of same es e.1) e.0 ≡ false
      → is_fork same (es ++ e ∷ []) (root_of same (es ++ e ∷ []) n) ≡ false
  next_ends es e n roots new ring =
      let r = root_of same es in
      ap (is_fork same (es ++ e ∷ [])) (roots_after-last same law es (λ m. m) e n)
      ∙ elim (same (r n) (r e.0))
      as (λ b. same (r n) (r e.0) ≡ b
      → is_fork same (es ++ e ∷ []) (cond b (r e.1) (r n)) ≡ false) [
        | true ↦ (λ is.
            none_after same law es e (r e.1) (roots.ends e.1) (apart same law (r e.1) e.0 ring))
        | false ↦ (λ is.
            none_after same law es e (r n) (roots.ends n)
            (apart same law (r n) e.0 (ap (same (r n)) (sym (roots.own e.0 new)) ∙ is)))
      ] refl

  -- and it is reached
  next_leads : (es : List (X × X)) (e : X × X) (n : X) → AreRoots same es
      → is_fork same es e.0 ≡ false
      → Reaches same (es ++ e ∷ []) n (root_of same (es ++ e ∷ []) n)
  next_leads es e n roots new =
      let r = root_of same es in
      let all = es ++ e ∷ [] in
      let old = still same law es e n (r n) (roots.leads n) in
      let above = still same law es e e.1 (r e.1) (roots.leads e.1) in
      let step : Reaches same all e.0 (r e.1) =
      (suc above.0, ap (λ o. o >>= climbed same above.0 all) (gets same law es e new) ∙ above.1) in
      subst (Reaches same all n) (sym (roots_after-last same law es (λ m. m) e n))
      (elim (same (r n) (r e.0))
      as (λ b. same (r n) (r e.0) ≡ b → Reaches same all n (cond b (r e.1) (r n))) [
        | true ↦ (λ is.
            let is_fork_itself = (law (r n) (r e.0)).0 is ∙ roots.own e.0 new in
            let up = subst (Reaches same all n) is_fork_itself old in
            farther same law up.0 all n e.0 (r e.1) up.1 step)
        | false ↦ (λ is. old)
      ] refl)

  -- the new fork's master doesn't reach it
  closed : (es : List (X × X)) (e : X × X) → AreRoots same es → is_fork same es e.0 ≡ false
      → same (root_of same es e.1) e.0 ≡ false → Reaches same es e.1 e.0 → ⊥
  closed es e roots new ring up =
      let one = same_root same law up.0 es e.1 e.0 up.1 ∙ roots.own e.0 new in
      false≢true (sym ring ∙ (law (root_of same es e.1) e.0).1 one)

  -- so no way comes back
  next_back : (es : List (X × X)) (e : X × X) (n : X) (k : ℕ) → AreRoots same es
      → is_fork same es e.0 ≡ false → same (root_of same es e.1) e.0 ≡ false
      → climbed same (suc k) (es ++ e ∷ []) n ≡ Some n → ⊥
  next_back es e n k roots new ring is =
      elim (goes same law (suc k) es e n n is) [
        | inl old ↦ roots.back n k old
        | inr ways ↦
            let all = es ++ e ∷ [] in
            let up = farther same law ways.1.0 all e.1 n e.0 ways.1.1
            (still same law es e n e.0 ways.0) in
            closed es e roots new ring
            (elim (goes same law up.0 es e e.1 e.0 up.1) [
              | inl old ↦ (up.0, old)
              | inr again ↦ again.0
            ])
      ]

  -- and each fork has one master
  next_only : (es : List (X × X)) (e : X × X) (m n : X) → AreRoots same es
      → is_fork same es e.0 ≡ false → follows same (es ++ e ∷ []) m n ≡ true
      → master_of same (es ++ e ∷ []) n ≡ Some m
  next_only es e m n roots new is =
      let last = same e.0 n && same e.1 m in
      elim (or_cases (follows same es m n) (last || false)
      (sym (list_any-append (λ d. same d.0 n && same d.1 m) es (e ∷ [])) ∙ is)) [
        | inl old ↦ keeps same law es e n m (roots.only m n old)
        | inr here ↦ elim (or_cases last false here) [
          | inl both ↦
              let parts = and_parts (same e.0 n) (same e.1 m) both in
              subst (λ (x : X). master_of same (es ++ e ∷ []) x ≡ Some m) ((law e.0 n).0 parts.0)
              (gets same law es e new ∙ ap Some ((law e.1 m).0 parts.1))
          | inr never ↦ absurd (false≢true never)
        ]
      ]

  next : (es : List (X × X)) (e : X × X) → may_follow same es e.0 e.1 ≡ true → AreRoots same es
      → AreRoots same (es ++ e ∷ [])
  next es e may roots =
      let parts = and_parts (not (is_fork same es e.0)) (not (same (root_of same es e.1) e.0))
      may in
      let new = not-true (is_fork same es e.0) parts.0 in
      let ring = not-true (same (root_of same es e.1) e.0) parts.1 in
      record {
        own = λ n none. next_own es e n roots new none;
        ends = λ n. next_ends es e n roots new ring;
        leads = λ n. next_leads es e n roots new;
        back = λ n k is. next_back es e n k roots new ring is;
        only = λ m n is. next_only es e m n roots new is;
      }

  -- ---- all of them

  more : (before es : List (X × X)) → are_made same before es ≡ true → AreRoots same before
      → AreRoots same (before ++ es)
  more before [] made roots = subst (AreRoots same) (sym (append-nil before)) roots
  more before (e ∷ es) made roots =
      let parts = and_parts (may_follow same before e.0 e.1) (are_made same (before ++ e ∷ []) es)
      made in
      subst (AreRoots same) (append_assoc before (e ∷ []) es)
      (more (before ++ e ∷ []) es parts.1 (next before e parts.0 roots))

  are_roots : (es : List (X × X)) → is_forest same es ≡ true → AreRoots same es
  are_roots es forest =
      more [] es forest
      (record {
        own = λ n none. refl;
        ends = λ n. refl;
        leads = λ n. (0, refl);
        back = λ n k is. not_none is;
        only = λ m n is. absurd (false≢true is);
      })

  pub reached : ReachesItsRoot same
  reached es n forest = (are_roots es forest).leads n

  pub no_fork : RootIsNoFork same
  no_fork es n forest = (are_roots es forest).ends n

  pub never_back : (es : List (X × X)) → is_forest same es ≡ true → (n : X) (k : ℕ)
      → climbed same (suc k) es n ≡ Some n → ⊥
  never_back es forest = (are_roots es forest).back

  pub one_master : (es : List (X × X)) → is_forest same es ≡ true → (m n : X)
      → follows same es m n ≡ true → master_of same es n ≡ Some m
  one_master es forest = (are_roots es forest).only

  pub below : IsRootOfThoseBelow same
  below es top n forest none =
      let roots = are_roots es forest in (
        λ is. subst (Reaches same es n) is (roots.leads n),
        λ up. same_root same law up.0 es n top up.1 ∙ roots.own top none,
      )

  pub meets : JoinsWhatMeets same
  meets es m n forest =
      let roots = are_roots es forest in
      let r = root_of same es in (
        λ is. (
          r m,
          roots.leads m,
          subst (Reaches same es n) (sym ((law (r m) (r n)).0 is)) (roots.leads n),
        ),
        λ met. (law (r m) (r n)).1
            (same_root same law met.1.0 es m met.0 met.1.1
            ∙ sym (same_root same law met.2.0 es n met.0 met.2.1)),
      )

-- one more that could follow its master
pub made_last : {X : Type 0} (same : X → X → Bool) (before es : List (X × X)) (e : X × X)
    → are_made same before es ≡ true → may_follow same (before ++ es) e.0 e.1 ≡ true
    → are_made same before (es ++ e ∷ []) ≡ true
made_last same before [] e made may =
    and_from (may_follow same before e.0 e.1) true
    (subst (λ ds. may_follow same ds e.0 e.1 ≡ true) (append-nil before) may) refl
made_last same before (d ∷ es) e made may =
    let parts = and_parts (may_follow same before d.0 d.1) (are_made same (before ++ d ∷ []) es)
    made in
    and_from (may_follow same before d.0 d.1) (are_made same (before ++ d ∷ []) (es ++ e ∷ []))
    parts.0
    (made_last same (before ++ d ∷ []) es e parts.1
    (subst (λ ds. may_follow same ds e.0 e.1 ≡ true) (sym (append_assoc before (d ∷ []) es)) may))
