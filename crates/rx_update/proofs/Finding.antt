-- Looking for a name among things, one after another.
use Rattle.std.proofs.Common.{◌≡◌, ℕ, ◌+◌, ◌<◌, true, false, cond, List, length, map, drop, get_or, Option, Some, ap, sym, ◌∙◌}
use Rattle.std.specs.Str.{bytes_eq}
use Rattle.rx_value.specs.Named.{named}
use Rattle.rx_value.proofs.Lists.{from_item}
use Rattle.rx_update.specs.declared.kind.HookKind.{HookKind}

module _ {H : Type 0} (shown : H → List ℕ × HookKind) (hs : List H) (i : ℕ) (h : H)
    (name : List ℕ) (all : Option HookKind) (within : i < length hs) (is : h ≡ get_or hs i h)
    (left : named (map shown (drop i hs)) name ≡ all) where
  here : cond (bytes_eq name (shown h).0) (Some (shown h).1)
      (named (map shown (drop (i + 1) hs)) name) ≡ all
  here = sym (ap (λ (ys : List H). named (map shown ys) name) (from_item hs i h within is)) ∙ left

  -- it is the one there
  pub found : bytes_eq name (shown h).0 ≡ true → Some (shown h).1 ≡ all
  found same =
      sym (ap (λ b. cond b (Some (shown h).1) (named (map shown (drop (i + 1) hs)) name)) same)
      ∙ here

  -- it is among the others
  pub passed : bytes_eq name (shown h).0 ≡ false
      → named (map shown (drop (i + 1) hs)) name ≡ all
  passed other =
      sym (ap (λ b. cond b (Some (shown h).1) (named (map shown (drop (i + 1) hs)) name)) other)
      ∙ here
