-- Things that are put under names, and changed there.
use Rattle.std.proofs.Common.{◌≡◌, ◌∙◌, ℕ, Bool, true, false, cond, List, [], ◌∷◌, Option, Some, None, String, Global, string_bytes, is_some, unwrap_or, refl, sym, ap}
use Rattle.std.specs.Map.{lookup, set_value}
use Rattle.std.specs.Str.{bytes_eq}
use Rattle.rx_value.specs.Named.{by_bytes, named, put_named, change_named}
use Rattle.rx_value.proofs.Named.{by_name-set_value, lookup-by_bytes, named-put_named}
use Rattle.rx_value.proofs.Bytes.{bytes_itself}

module _ {X : Type 0} where
  put_same : (b : Bool) (e : List ℕ × X) (es later : List (List ℕ × X)) (x : X) (found : Option X)
      → cond b (Some e.1) found ≡ Some x → (found ≡ Some x → later ≡ es)
      → cond b ((e.0, x) ∷ es) (e ∷ later) ≡ e ∷ es
  put_same true e es later x found at rest =
      let same : e.1 ≡ x = cc in ap (λ (y : X). (e.0, y) ∷ es) (sym same)
  put_same false e es later x found at rest = ap (λ r. e ∷ r) (rest at)

  -- what is there already
  put_there : (es : List (List ℕ × X)) (name : List ℕ) (x : X) → named es name ≡ Some x
      → put_named es name x ≡ es
  put_there [] name x at = absurd (cc)
  put_there (e ∷ es) name x at =
      put_same (bytes_eq name e.0) e es (put_named es name x) x (named es name) at
      (put_there es name x)

  put_found : (es : List (List ℕ × X)) (name : List ℕ) (x : X)
      → named (put_named es name x) name ≡ Some x
  put_found es name x =
      named-put_named es name name x
      ∙ ap (λ b. cond b (Some x) (named es name)) (bytes_itself name)

  put_changed : (b : Bool) (e : List ℕ × X) (es : List (List ℕ × X)) (name : List ℕ) (x y : X)
      → bytes_eq name e.0 ≡ b
      → change_named (put_named es name x) name (λ _. y) ≡ put_named es name y
      → change_named (cond b ((e.0, x) ∷ es) (e ∷ put_named es name x)) name (λ _. y)
      ≡ cond b ((e.0, y) ∷ es) (e ∷ put_named es name y)
  put_changed true e es name x y is rest =
      ap (λ b. cond b ((e.0, y) ∷ es) ((e.0, x) ∷ change_named es name (λ _. y))) is
  put_changed false e es name x y is rest =
      ap (λ b. cond b ((e.0, y) ∷ put_named es name x)
      (e ∷ change_named (put_named es name x) name (λ _. y))) is
      ∙ ap (λ r. e ∷ r) rest

  -- what is put and then changed to another thing is as if that were put
  change_put : (es : List (List ℕ × X)) (name : List ℕ) (x y : X)
      → change_named (put_named es name x) name (λ _. y) ≡ put_named es name y
  change_put [] name x y =
      ap (λ b. cond b ((name, y) ∷ []) ((name, x) ∷ [])) (bytes_itself name)
  change_put (e ∷ es) name x y =
      put_changed (bytes_eq name e.0) e es name x y refl (change_put es name x y)

  -- what is named, or else another thing, is put where it stands already
  pub put_named_or : (es : List (List ℕ × X)) (name : List ℕ) (o : Option X) (other : X)
      → named es name ≡ o → is_some o ≡ true → put_named es name (unwrap_or o other) ≡ es
  put_named_or es name None other at is = absurd (cc)
  put_named_or es name (Some x) other at is = put_there es name x at

  pub other_or : (o : Option X) (other : X) → is_some o ≡ false → unwrap_or o other ≡ other
  other_or None other is = refl
  other_or (Some x) other is = absurd (cc)

  -- ---- the entries of a map, in which a thing was put

  module _ (entries : List (String Global × X)) (es : List (List ℕ × X)) (name : List ℕ) (x : X)
      (is : by_bytes entries ≡ put_named es name x) where
    pub found_there : lookup (λ k. bytes_eq name (string_bytes k)) entries ≡ Some x
    found_there =
        lookup-by_bytes entries name ∙ ap (λ (l : List (List ℕ × X)). named l name) is
        ∙ put_found es name x

    -- it is changed to another
    pub changed_there : (y : X)
        → by_bytes (set_value (λ k. bytes_eq name (string_bytes k)) entries y) ≡ put_named es name y
    changed_there y =
        by_name-set_value (λ (z : X). z) (λ _. y) entries name x y refl found_there
        ∙ ap (λ (l : List (List ℕ × X)). change_named l name (λ _. y)) is
        ∙ change_put es name x y
