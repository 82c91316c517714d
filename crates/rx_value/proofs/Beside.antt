-- Reading members but one.
use Rattle.std.proofs.Common.{true, false, cond, ◌≡◌, ℕ, List, [], ◌∷◌, ◌++◌, Ok, String, Global, string_bytes, string_cmp, refl, sym, ap, ◌∙◌}
use Rattle.std.specs.List.{AllByRecursion}
use Rattle.std.specs.List.Sorted.{IsStrictlySortedBy}
use Rattle.std.specs.Map.{keys_of}
use Rattle.std.specs.Str.{bytes_eq}
use Rattle.std.specs.declared.cmp.Ordering.TheVariants.{Less}
use Rattle.serde_json.proofs.Views.{Entry}
use Rattle.serde_json.specs.Data.{member}
use Rattle.serde_json.specs.View.{view, members_view}
use Rattle.rx_value.specs.Fields.{Pairs, AreFields}
use Rattle.rx_value.specs.Reading.{value_of, members_fields, without}
use Rattle.rx_value.specs.declared.value.Value.{Value}
use Rattle.rx_value.proofs.Members.{before, before-first, fields}

-- one more member that stays and has a value
pub more_beside : (skip : List ℕ) (front : Pairs) (e : Entry) (es : List Entry) (v : Value)
    → bytes_eq (string_bytes e.0) skip ≡ false → value_of (string_bytes e.0) (view e.1) ≡ Ok v
    → before front (members_fields (without skip (members_view (e ∷ es))))
    ≡ before (front ++ (string_bytes e.0, v) ∷ []) (members_fields (without skip (members_view es)))
more_beside skip front e es v other h =
    let rest = members_fields (without skip (members_view es)) in
    rw (other, h) (before-first front (string_bytes e.0, v) rest)

-- the entries but the one of that name
abbrev kept : List ℕ → List Entry → List Entry
kept skip [] = []
kept skip (e ∷ es) = cond (bytes_eq (string_bytes e.0) skip) (kept skip es) (e ∷ kept skip es)

-- their view is the members but that one
kept_view : (skip : List ℕ) (es : List Entry)
    → without skip (members_view es) ≡ members_view (kept skip es)
kept_view skip [] = refl
kept_view skip (e ∷ es) =
    let rest = without skip (members_view es) in
    elim (bytes_eq (string_bytes e.0) skip)
    as (λ b. cond b rest (member (string_bytes e.0) (view e.1) rest)
    ≡ members_view (cond b (kept skip es) (e ∷ kept skip es))) [
      | true ↦ kept_view skip es
      | false ↦ ap (member (string_bytes e.0) (view e.1)) (kept_view skip es)
    ]

-- a key below all is below those that stay
below_kept : (k : String Global) (skip : List ℕ) (es : List Entry)
    → AllByRecursion (λ y. string_cmp k y ≡ Less) (keys_of es)
    → AllByRecursion (λ y. string_cmp k y ≡ Less) (keys_of (kept skip es))
below_kept k skip [] h = tt
below_kept k skip (e ∷ es) h =
    elim (bytes_eq (string_bytes e.0) skip)
    as (λ b. AllByRecursion (λ y. string_cmp k y ≡ Less)
    (keys_of (cond b (kept skip es) (e ∷ kept skip es))))
    [ true ↦ below_kept k skip es h.1 | false ↦ (h.0, below_kept k skip es h.1) ]

-- the entries that stay rise as before
kept_rising : (skip : List ℕ) (es : List Entry) → IsStrictlySortedBy string_cmp (keys_of es)
    → IsStrictlySortedBy string_cmp (keys_of (kept skip es))
unfolding IsStrictlySortedBy
kept_rising skip [] h = tt
kept_rising skip (e ∷ es) h =
    elim (bytes_eq (string_bytes e.0) skip)
    as (λ b. IsStrictlySortedBy string_cmp (keys_of (cond b (kept skip es) (e ∷ kept skip es)))) [
      | true ↦ kept_rising skip es h.1
      | false ↦ (below_kept e.0 skip es h.0, kept_rising skip es h.1)
    ]

-- what was read of members in order are fields
pub fields_beside : (skip : List ℕ) (es : List Entry) (ps : Pairs)
    → members_fields (without skip (members_view es)) ≡ Ok ps
    → IsStrictlySortedBy string_cmp (keys_of es) → AreFields ps
fields_beside skip es ps h ordered =
    fields (kept skip es) ps (ap members_fields (sym (kept_view skip es)) ∙ h)
    (kept_rising skip es ordered)
