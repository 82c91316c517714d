-- A thing behind those of other names.
use Rattle.std.proofs.Common.{◌≡◌, ℕ, false, cond, List, [], ◌∷◌, ◌++◌, Some, ap, ◌∙◌}
use Rattle.std.specs.List.{AllByRecursion}
use Rattle.std.specs.Str.{bytes_eq}
use Rattle.rx_value.specs.Named.{change_named, named}
use Rattle.rx_value.proofs.Bytes.{bytes_itself}

module _ {X : Type 0} (name : List ℕ) where
  -- its name names it
  pub named_behind : (before after : List (List ℕ × X)) (x : X)
      → AllByRecursion (λ e. bytes_eq name e.0 ≡ false) before
      → named (before ++ (name, x) ∷ after) name ≡ Some x
  named_behind [] after x apart = ap (λ b. cond b (Some x) (named after name)) (bytes_itself name)
  named_behind (e ∷ before) after x apart =
      ap (λ b. cond b (Some e.1) (named (before ++ (name, x) ∷ after) name)) apart.0
      ∙ named_behind before after x apart.1

  -- and it is changed in its place
  pub changed_behind : (before after : List (List ℕ × X)) (x : X) (f : X → X)
      → AllByRecursion (λ e. bytes_eq name e.0 ≡ false) before
      → change_named (before ++ (name, x) ∷ after) name f ≡ before ++ (name, f x) ∷ after
  changed_behind [] after x f apart =
      ap (λ b. cond b ((name, f x) ∷ after) ((name, x) ∷ change_named after name f))
      (bytes_itself name)
  changed_behind (e ∷ before) after x f apart =
      let es = before ++ (name, x) ∷ after in
      ap (λ b. cond b ((e.0, f e.1) ∷ es) (e ∷ change_named es name f)) apart.0
      ∙ ap (λ es. e ∷ es) (changed_behind before after x f apart.1)
