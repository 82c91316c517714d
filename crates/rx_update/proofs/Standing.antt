-- Hooks one after another keep what each of them keeps.
use Rattle.std.proofs.Common.{◌≡◌, ℕ, true, false, true≢false, if◌then◌else◌, List, [], ◌∷◌, Some, Ok, refl, sym, ap, subst, ◌∙◌}
use Rattle.std.proofs.lemmas.Slice.Eq.{bytes_eq-Decides}
use Rattle.std.specs.Str.{bytes_eq}
use Rattle.rx_value.specs.Fields.{Pairs}
use Rattle.rx_value.specs.Named.{named}
use Rattle.rx_value.specs.declared.state.State.{State}
use Rattle.rx_value.specs.declared.value.Value.TheVariants.{Text}
use Rattle.rx_value.proofs.Outcomes.{ok_then, some_of, some_same}
use Rattle.rx_update.specs.Attached.{hooked_all, hooked_by, hooked_where, stands, KeepsTexts, KeepsWhich}
use Rattle.rx_update.specs.Hooked.{counted, counted_at, hooked, zeroed, zeroed_at}
use Rattle.rx_update.specs.Updated.{number_in}
use Rattle.rx_update.specs.declared.attached.Attached.{Attached}
use Rattle.rx_update.specs.declared.attached.When.{When}
use Rattle.rx_update.specs.declared.fault.VetoFault.TheVariants.{Vetoed}
use Rattle.rx_update.specs.declared.kind.HookKind.{HookKind}
use Rattle.rx_update.specs.declared.kind.HookKind.TheVariants.{Count, Zero, Lock}
use Rattle.rx_update.proofs.Hooking.{counted_other, let_through, zeroed_other}

-- ---- what one hook keeps

-- a text is no number, so it isn't counted
counted_text : (ps : Pairs) (field name text : List ℕ) → named ps name ≡ Some (Text text)
    → named (counted field ps) name ≡ Some (Text text)
counted_text ps field name text is =
    elim (bytes_eq name field)
    as (λ b. bytes_eq name field ≡ b → named (counted field ps) name ≡ Some (Text text)) [
      | true ↦ (λ same.
          let at : named ps field ≡ Some (Text text) =
          ap (named ps) (sym ((bytes_eq-Decides name field).0 same)) ∙ is in
          ap (λ o. named (counted_at field ps (number_in o)) name) at ∙ is)
      | false ↦ (λ apart.
          counted_other ps field name (number_in (named ps field))
          (λ same. true≢false (sym ((bytes_eq-Decides name field).1 same) ∙ apart)) ∙ is)
    ] refl

-- it is there, so it isn't made 0
zeroed_text : (ps : Pairs) (field name text : List ℕ) → named ps name ≡ Some (Text text)
    → named (zeroed field ps) name ≡ Some (Text text)
zeroed_text ps field name text is =
    elim (bytes_eq name field)
    as (λ b. bytes_eq name field ≡ b → named (zeroed field ps) name ≡ Some (Text text)) [
      | true ↦ (λ same.
          let at : named ps field ≡ Some (Text text) =
          ap (named ps) (sym ((bytes_eq-Decides name field).0 same)) ∙ is in
          ap (λ o. named (zeroed_at field ps o) name) at ∙ is)
      | false ↦ (λ apart.
          zeroed_other ps field name (named ps field)
          (λ same. true≢false (sym ((bytes_eq-Decides name field).1 same) ∙ apart)) ∙ is)
    ] refl

hooked_text : (name text : List ℕ) (kind : HookKind) (field : List ℕ) (s t : State)
    → named s.fields name ≡ Some (Text text) → hooked kind field s ≡ Some t
    → named t.fields name ≡ Some (Text text)
hooked_text name text Count field s t at is =
    ap (λ (u : State). named u.fields name) (sym (some_same is))
    ∙ counted_text s.fields field name text at
hooked_text name text Zero field s t at is =
    ap (λ (u : State). named u.fields name) (sym (some_same is))
    ∙ zeroed_text s.fields field name text at
hooked_text name text Lock field s t at is =
    ap (λ (u : State). named u.fields name) (sym (let_through (named s.fields field) s t is)) ∙ at

-- a state of the same key and mark
record IsOf (first s : State) : Type 0 where
  key : s.key ≡ first.key
  mark : s.deleted ≡ first.deleted

hooked_of : (first : State) (kind : HookKind) (field : List ℕ) (s t : State) → IsOf first s
    → hooked kind field s ≡ Some t → IsOf first t
hooked_of first Count field s t of is = record {
  key = ap (λ (u : State). u.key) (sym (some_same is)) ∙ of.key;
  mark = ap (λ (u : State). u.deleted) (sym (some_same is)) ∙ of.mark;
}
hooked_of first Zero field s t of is = record {
  key = ap (λ (u : State). u.key) (sym (some_same is)) ∙ of.key;
  mark = ap (λ (u : State). u.deleted) (sym (some_same is)) ∙ of.mark;
}
hooked_of first Lock field s t of is =
    subst (IsOf first) (let_through (named s.fields field) s t is) of

-- ---- and so do all together

module _ (P : State → Type 0)
    (each : (kind : HookKind) (field : List ℕ) (s t : State) → P s → hooked kind field s ≡ Some t
    → P t) where
  where_keeps : (coll : List ℕ) (when : When) (a : Attached) (s t : State) → P s
      → hooked_where coll when a s ≡ Ok t → P t
  where_keeps coll when a s t p =
      elim (stands coll when a)
      as (λ b. (if b then hooked_by a s else Ok s) ≡ Ok t → P t) [
        | true ↦ (λ is. each a.kind a.field s t p
            (some_of (Vetoed a.hook) (hooked a.kind a.field s) t is))
        | false ↦ (λ is. let same : s ≡ t = cc in subst P same p)
      ]

  all_keep : (coll : List ℕ) (when : When) (attached : List Attached) (s t : State)
      → P s → hooked_all coll when attached s ≡ Ok t → P t
  all_keep coll when [] s t p is = let same : s ≡ t = cc in subst P same p
  all_keep coll when (a ∷ more) s t p is =
      let both = ok_then (hooked_where coll when a s) (hooked_all coll when more) t is in
      all_keep coll when more both.0 t
      (where_keeps coll when a s both.0 p both.1) both.2

pub which : KeepsWhich
which coll when attached s t is =
    let of = all_keep (IsOf s) (hooked_of s) coll when attached s t
    (record { key = refl; mark = refl }) is in
    (of.key, of.mark)

pub texts : KeepsTexts
texts coll when attached s t name text at is =
    all_keep (λ u. named u.fields name ≡ Some (Text text))
    (hooked_text name text) coll when attached
    s t at is
