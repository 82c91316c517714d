-- Tests of all things, one after another, where a loop stops at the first that fails.
use Rattle.std.proofs.Common.{◌≡◌, ◌&&◌, Bool, List, [], ◌∷◌, String, Global, refl, ap}
use Rattle.std.specs.List.{list_all}
use Rattle.std.specs.Map.{values_of}
use Rattle.rx_value.specs.Named.{by_bytes}

module _ {X : Type 0} (test : X → Bool) where
  -- the things of pairs
  pub values_pass : {K : Type 0} (es : List (K × X))
      → list_all test (values_of es) ≡ list_all (λ e. test e.1) es
  values_pass [] = refl
  values_pass (e ∷ es) = ap (λ b. test e.1 && b) (values_pass es)

  pub by_bytes_pass : (es : List (String Global × X))
      → list_all test (values_of es) ≡ list_all (λ e. test e.1) (by_bytes es)
  by_bytes_pass [] = refl
  by_bytes_pass (e ∷ es) = ap (λ b. test e.1 && b) (by_bytes_pass es)
