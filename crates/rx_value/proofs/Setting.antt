-- Fields stay fields when one is set.
use Rattle.std.proofs.Common.{◌≡◌, ℕ, true, false, cond, List, [], ◌∷◌, get_or, set, Some, ap, sym, subst, ◌∙◌}
use Rattle.std.specs.List.{AllByRecursion, insert}
use Rattle.std.specs.Ordering.{match_ordering}
use Rattle.std.specs.Str.{bytes_eq}
use Rattle.std.specs.declared.cmp.Ordering.TheVariants.{Less, Equal, Greater}
use Rattle.rx_value.specs.Fields.{Pair, Pairs, AreFields}
use Rattle.rx_value.specs.Named.{named, put_in_order}
use Rattle.rx_value.specs.Order.{text_cmp}
use Rattle.rx_value.specs.Place.{StandsAt, BelongsAt}
use Rattle.rx_value.specs.Value.{is_value}
use Rattle.rx_value.specs.declared.value.Value.{Value}
use Rattle.rx_value.proofs.Named.{put_in_order-rising}
use Rattle.rx_value.proofs.Outcomes.{some_same}

-- a number in range keeps the numbers in range
in_range : (ps : Pairs) (name : List ℕ) (v : Value) → is_value v ≡ true
    → AllByRecursion (λ p. is_value p.1 ≡ true) ps
    → AllByRecursion (λ p. is_value p.1 ≡ true) (put_in_order ps name v)
in_range [] name v is all = (is, tt)
in_range (p ∷ ps) name v is all =
    elim (text_cmp name p.0)
    as (λ o. AllByRecursion (λ q. is_value q.1 ≡ true)
    (match_ordering o ((name, v) ∷ p ∷ ps) ((p.0, v) ∷ ps) (p ∷ put_in_order ps name v)))
    [ Less ↦ (is, all) | Equal ↦ (is, all.1) | Greater ↦ (all.0, in_range ps name v is all.1) ]

-- fields with a value put in order are fields
pub put_fields : (ps : Pairs) (name : List ℕ) (v : Value) → AreFields ps → is_value v ≡ true
    → AreFields (put_in_order ps name v)
put_fields ps name v fields is = record {
  rising = put_in_order-rising ps name v fields.rising;
  in_range = in_range ps name v is fields.in_range;
}

-- so they are after a write over the value of a name that stands there
pub write_fields : (ps : Pairs) (name : List ℕ) (v : Value) (i : ℕ) (p : Pair) → StandsAt ps name i
    → p ≡ get_or ps i p → AreFields ps → is_value v ≡ true → AreFields (set ps i (p.0, v))
write_fields ps name v i p stands read fields is =
    subst AreFields (sym (ap (λ q. set ps i (q.0, v)) read ∙ stands.puts p v))
    (put_fields ps name v fields is)

-- and after an insert where the name belongs
pub insert_fields : (ps : Pairs) (name : List ℕ) (v : Value) (i : ℕ) → BelongsAt ps name i
    → AreFields ps → is_value v ≡ true → AreFields (insert ps i (name, v))
insert_fields ps name v i belongs fields is =
    subst AreFields (sym (belongs.puts v)) (put_fields ps name v fields is)

-- the value of a name is in range
pub value_in : (ps : Pairs) (name : List ℕ) → AllByRecursion (λ p. is_value p.1 ≡ true) ps
    → (v : Value) → named ps name ≡ Some v → is_value v ≡ true
value_in [] name all v at = absurd (cc)
value_in (p ∷ ps) name all v at =
    elim (bytes_eq name p.0)
    as (λ b. cond b (Some p.1) (named ps name) ≡ Some v → is_value v ≡ true) [
      | true ↦ (λ is. subst (λ (u : Value). is_value u ≡ true) (some_same is) all.0)
      | false ↦ (λ is. value_in ps name all.1 v is)
    ] at
