-- The table of roots after one more fork.
use Rattle.std.proofs.Common.{◌≡◌, ℕ, ◌<◌, Bool, false, cond, List, [], ◌∷◌, ◌++◌, length}
use Rattle.std.proofs.Common.{sym, ap, ap₂, ◌∙◌, subst}
use Rattle.std.proofs.lemmas.Bool.{and_from, not_from_false}
use Rattle.std.proofs.lemmas.Bool.Decides.{Decides-eqb}
use Rattle.std.specs.Prelude.{◌==◌, EachIndex, slice_index}
use Rattle.rx_value.proofs.Lists.{all_push}
use Rattle.rx_tree.specs.Forest.{root_of, is_fork}
use Rattle.rx_tree.specs.Table.{IsTable, most_collections}
use Rattle.rx_tree.proofs.Forests.{made_last}
use Rattle.rx_tree.proofs.OneRoot.{roots_after-last}

-- all that had the fork's root have its master's
pub one_more : (old new : List ℕ) (es : List (ℕ × ℕ)) (fork master under top : ℕ) → IsTable old es
    → length new ≡ length old
    → EachIndex new (λ n. slice_index new n
    ≡ cond (slice_index old n == under) top (slice_index old n))
    → under ≡ root_of ◌==◌ es fork → top ≡ root_of ◌==◌ es master
    → is_fork ◌==◌ es fork ≡ false → (top == fork) ≡ false → fork < most_collections
    → IsTable new (es ++ (fork, master) ∷ [])
one_more old new es fork master under top table long each at above none ring small = record {
  whole = long ∙ table.whole;
  each = λ n within.
      let is = table.each n within in
      each n (subst (λ l. n < l) (sym (long ∙ table.whole)) within)
      ∙ ap₂ (λ r (b : Bool). cond b top r) is (ap₂ ◌==◌ is at)
      ∙ ap (λ t. cond (root_of ◌==◌ es n == root_of ◌==◌ es fork) t (root_of ◌==◌ es n)) above
      ∙ sym (roots_after-last ◌==◌ Decides-eqb es (λ m. m) (fork, master) n);
  tree = record {
    forest = made_last ◌==◌ [] es (fork, master) table.tree.forest
        (and_from _ _ (not_from_false _ none)
        (not_from_false _ (ap (λ r. r == fork) (sym above) ∙ ring)));
    few = all_push (λ e. e.0 < most_collections) es (fork, master) table.tree.few small;
  };
}
