-- Holders that hold the same.
use Rattle.std.proofs.Common.{◌≡◌, ℕ, Bool, false, List, [], ◌∷◌, map, String, Global, string_bytes, refl, sym, ap, ◌∙◌, ◌↔◌}
use Rattle.std.specs.List.{AllByRecursion}
use Rattle.std.specs.Map.{values_of}
use Rattle.rx_value.specs.Named.{by_name}
use Rattle.rx_collection.specs.Held.{Held}
use Rattle.rx_world.specs.Holders.{AreWhole}

-- a collection with its name
abbrev called : Held → List ℕ × Held
called c = (c.name, c)

module _ {H : Type 0} (held : H → Held) (broken : H → Bool) where
  -- none of the holders is broken
  abbrev pub AreUnbroken : List H → Type 0
  AreUnbroken hs = AllByRecursion (λ h. broken h ≡ false) hs

  -- whole holders aren't
  pub unbroken_all : (es : List (String Global × H)) → AreWhole held broken es
      → AreUnbroken (values_of es)
  unbroken_all [] whole = tt
  unbroken_all (e ∷ es) whole = (whole.0.unbroken, unbroken_all es whole.1)

  -- whole holders hold collections by the names that these have
  by_own_name : (es : List (String Global × H)) → AreWhole held broken es
      → by_name held es ≡ map called (map held (values_of es))
  by_own_name [] whole = refl
  by_own_name (e ∷ es) whole =
      let first : (string_bytes e.0, held e.1) ≡ called (held e.1) =
      λ i. (sym whole.0.called i, held e.1) in
      let rest = by_own_name es whole.1 in cc

  -- the collections are in their order
  held_in_order : (es : List (String Global × H))
      → map (λ e. e.1) (by_name held es) ≡ map held (values_of es)
  held_in_order [] = refl
  held_in_order (e ∷ es) = ap (λ cs. held e.1 ∷ cs) (held_in_order es)

  -- so whole holders hold the same by name where they hold the same collections in their order
  pub same_in_order : (es fs : List (String Global × H)) → AreWhole held broken es
      → AreWhole held broken fs
      → (map held (values_of es) ≡ map held (values_of fs)) ↔ (by_name held es ≡ by_name held fs)
  same_in_order es fs whole whole' = (
    λ same. by_own_name es whole ∙ ap (map called) same ∙ sym (by_own_name fs whole'),
    λ same. sym (held_in_order es) ∙ ap (map (λ e. e.1)) same ∙ held_in_order fs,
  )
