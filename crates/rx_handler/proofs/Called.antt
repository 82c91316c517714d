-- Things that stand under their own names.
use Rattle.std.proofs.Common.{◌≡◌, ℕ, Bool, true, false, cond, ◌&&◌, List, [], ◌∷◌, Option, Some, None, IfSome, String, Global, string_bytes, refl, sym, ap, ap₂, ◌∙◌, option_copied, subst}
use Rattle.std.proofs.lemmas.Bool.{and_parts}
use Rattle.std.proofs.lemmas.Slice.Eq.{bytes_eq-Decides}
use Rattle.std.specs.Borrow.{Bor}
use Rattle.std.specs.Map.{lookup}
use Rattle.std.specs.Str.{bytes_eq}
use Rattle.std.specs.String.{string_eq}
use Rattle.indexmap.specs.IndexMap.{insert_entry}
use Rattle.rx_handler.specs.Handlers.{are_called}

module _ {H : Type 0} (name : H → List ℕ) where
  -- one thing, and then the others
  found_step : (b : Bool) (e : String Global × H) (rest : Option H) (looked : List ℕ)
      → bytes_eq looked (string_bytes e.0) ≡ b → string_bytes e.0 ≡ name e.1
      → IfSome rest (λ h. name h ≡ looked) → IfSome (cond b (Some e.1) rest) (λ h. name h ≡ looked)
  found_step true e rest looked is own later =
      sym ((bytes_eq-Decides looked (string_bytes e.0)).0 is ∙ own)
  found_step false e rest looked is own later = later

  -- what is found under a name has it
  found : (es : List (String Global × H)) (looked : List ℕ) → are_called name es ≡ true
      → IfSome (lookup (λ k. bytes_eq looked (string_bytes k)) es) (λ h. name h ≡ looked)
  found [] looked all = tt
  found (e ∷ es) looked all =
      let parts = and_parts (bytes_eq (string_bytes e.0) (name e.1)) (are_called name es) all in
      found_step (bytes_eq looked (string_bytes e.0)) e _ looked refl
      ((bytes_eq-Decides (string_bytes e.0) (name e.1)).0 parts.0)
      (found es looked parts.1)

  lent : (r : Option (Bor H)) (o : Option H) (looked : List ℕ) → option_copied r ≡ o
      → IfSome o (λ h. name h ≡ looked) → IfSome r (λ h. name h.now ≡ looked)
  lent None o looked is all = tt
  lent (Some h) o looked is all = subst (λ x. IfSome x (λ y. name y ≡ looked)) (sym is) all

  -- what a look-up lends has the name that was looked for
  pub called_found : (r : Option (Bor H)) (es : List (String Global × H)) (looked : List ℕ)
      → option_copied r ≡ lookup (λ k. bytes_eq looked (string_bytes k)) es
      → are_called name es ≡ true → IfSome r (λ h. name h.now ≡ looked)
  called_found r es looked is all = lent r _ looked is (found es looked all)

  -- one thing, and then the others
  put_step : (b : Bool) (e : String Global × H) (es later : List (String Global × H)) (h : H)
      → (b ≡ true → string_bytes e.0 ≡ name h) → are_called name (e ∷ es) ≡ true
      → are_called name later ≡ true
      → are_called name (cond b ((e.0, h) ∷ es) (e ∷ later)) ≡ true
  put_step true e es later h own all rest =
      ap₂ (λ x y. x && y) ((bytes_eq-Decides (string_bytes e.0) (name h)).1 (own refl))
      (and_parts (bytes_eq (string_bytes e.0) (name e.1)) (are_called name es) all).1
  put_step false e es later h own all rest =
      ap₂ (λ x y. x && y)
      (and_parts (bytes_eq (string_bytes e.0) (name e.1)) (are_called name es) all).0 rest

  -- a thing that is put under its name leaves all under theirs
  pub called_put : (es : List (String Global × H)) (key : String Global) (h : H)
      → string_bytes key ≡ name h → are_called name es ≡ true
      → are_called name (insert_entry string_eq es key h) ≡ true
  called_put [] key h own all =
      ap (λ b. b && true) ((bytes_eq-Decides (string_bytes key) (name h)).1 own)
  called_put (e ∷ es) key h own all =
      put_step (string_eq key e.0) e es (insert_entry string_eq es key h) h
      (λ is. sym ((bytes_eq-Decides (string_bytes key) (string_bytes e.0)).0 is) ∙ own) all
      (called_put es key h own
      (and_parts (bytes_eq (string_bytes e.0) (name e.1)) (are_called name es) all).1)
