-- What holds of each holder at its name.
use Rattle.std.proofs.Common.{◌≡◌, ℕ, Bool, true, false, cond, List, [], ◌∷◌, map, Option, Some, None, String, Global, string_bytes, bytes_eq, refl, sym, ap, ◌∙◌, subst, IfSome, option_copied}
use Rattle.std.specs.Borrow.{Bor}
use Rattle.std.specs.List.{AllByRecursion}
use Rattle.std.specs.Map.{lookup, set_value, values_of}
use Rattle.std.specs.String.{string_eq}
use Rattle.std.proofs.lemmas.Slice.Eq.{bytes_eq-Decides}
use Rattle.indexmap.specs.IndexMap.{insert_entry}
use Rattle.rx_value.specs.Named.{by_name, by_bytes}
use Rattle.rx_collection.specs.Held.{Held}
use Rattle.rx_collection.specs.Lawful.{IsLawful}
use Rattle.rx_world.specs.Holders.{AreWhole, IsWhole}
use Rattle.rx_world.specs.Lawful.{IsLawfulAt}

-- what holds of one name holds of an equal one
at_equal : (P : List ℕ → Type 0) (k l : List ℕ) → bytes_eq k l ≡ true → P l → P k
at_equal P k l is here = subst P (sym ((bytes_eq-Decides k l).0 is)) here

module _ {H : Type 0} (P : List ℕ → H → Type 0) where
  -- each thing is so at its name
  abbrev pub AllAt : List (String Global × H) → Type 0
  AllAt es = AllByRecursion (λ e. P (string_bytes e.0) e.1) es

  -- the thing that `get` finds
  pub at_found : (es : List (String Global × H)) (name : List ℕ) (h : H) → AllAt es
      → lookup (λ k. bytes_eq name (string_bytes k)) es ≡ Some h → P name h
  at_found [] name h all at = absurd (cc)
  at_found (e ∷ es) name h all at =
      let rest = lookup (λ k. bytes_eq name (string_bytes k)) es in
      elim (bytes_eq name (string_bytes e.0))
      as (λ b. bytes_eq name (string_bytes e.0) ≡ b → cond b (Some e.1) rest ≡ Some h → P name h) [
        | true ↦ (λ is here.
            let same : e.1 ≡ h = cc in
            at_equal (λ n. P n h) name (string_bytes e.0) is
            (subst (P (string_bytes e.0)) same all.0))
        | false ↦ (λ is here. at_found es name h all.1 here)
      ] refl at

  -- the same, as `get` lends it
  pub at_lent : (r : Option (Bor H)) (es : List (String Global × H)) (name : List ℕ)
      → option_copied r ≡ lookup (λ k. bytes_eq name (string_bytes k)) es → AllAt es
      → IfSome r (λ h. P name h.now)
  at_lent None es name is all = tt
  at_lent (Some h) es name is all = at_found es name h.now all (sym is)

  -- after `insert`
  pub at_inserted : (es : List (String Global × H)) (k : String Global) (h : H)
      → P (string_bytes k) h → AllAt es → AllAt (insert_entry string_eq es k h)
  at_inserted [] k h here all = (here, tt)
  at_inserted (e ∷ es) k h here all =
      elim (string_eq k e.0) as (λ b. string_eq k e.0 ≡ b
      → AllAt (cond b ((e.0, h) ∷ es) (e ∷ insert_entry string_eq es k h))) [
        | true ↦ (λ is. (
          subst (λ n. P n h) ((bytes_eq-Decides (string_bytes k) (string_bytes e.0)).0 is) here,
          all.1,
        ))
        | false ↦ (λ is. (all.0, at_inserted es k h here all.1))
      ] refl

  -- after a write through `get_mut`
  pub at_set : (es : List (String Global × H)) (name : List ℕ) (h : H) → P name h → AllAt es
      → AllAt (set_value (λ k. bytes_eq name (string_bytes k)) es h)
  at_set [] name h here all = tt
  at_set (e ∷ es) name h here all =
      elim (bytes_eq name (string_bytes e.0)) as (λ b. bytes_eq name (string_bytes e.0) ≡ b
      → AllAt (cond b ((e.0, h) ∷ es) (e ∷ set_value (λ k. bytes_eq name (string_bytes k)) es h))) [
        | true ↦ (λ is. (
          subst (λ n. P n h) ((bytes_eq-Decides name (string_bytes e.0)).0 is) here,
          all.1,
        ))
        | false ↦ (λ is. (all.0, at_set es name h here all.1))
      ] refl

-- whole holders hold a lawful world
pub all_lawful : {H : Type 0} (held : H → Held) (broken : H → Bool) (es : List (String Global × H))
    → AreWhole held broken es → AllByRecursion (λ e. IsLawfulAt e.0 e.1) (by_name held es)
all_lawful held broken [] whole = tt
all_lawful held broken (e ∷ es) whole = (
  record { called = whole.0.called; lawful = whole.0.lawful },
  all_lawful held broken es whole.1,
)

-- a holder that keeps its collection and isn't broken is whole
pub whole_left : {H : Type 0} (held : H → Held) (broken : H → Bool) (name : List ℕ) (old new : H)
    → IsWhole held broken name old → held new ≡ held old → broken new ≡ false
    → IsWhole held broken name new
whole_left held broken name old new whole kept unbroken = record {
  unbroken = unbroken;
  called = ap (λ c. c.name) kept ∙ whole.called;
  lawful = subst IsLawful (sym kept) whole.lawful;
}

-- whole holders are so by the bytes of their names
pub whole_by_bytes : {H : Type 0} (held : H → Held) (broken : H → Bool)
    (es : List (String Global × H))
    → AreWhole held broken es → AllByRecursion (λ e. IsWhole held broken e.0 e.1) (by_bytes es)
whole_by_bytes held broken [] whole = tt
whole_by_bytes held broken (e ∷ es) whole = (whole.0, whole_by_bytes held broken es whole.1)

-- the things of entries, and those by the bytes of the names
pub values-by_bytes : {H : Type 0} (es : List (String Global × H))
    → values_of es ≡ map (λ e. e.1) (by_bytes es)
values-by_bytes [] = refl
values-by_bytes (e ∷ es) = ap (λ hs. e.1 ∷ hs) (values-by_bytes es)
