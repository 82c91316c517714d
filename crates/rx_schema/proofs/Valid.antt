-- What holds of valid fields.
use Rattle.std.proofs.Common.{◌≡◌, ℕ, zero, suc, ◌<◌, Bool, true, false, cond, not, ◌&&◌, ◌||◌, List, [], ◌∷◌, length, Option, Some, None, is_none, option_map, refl, sym, ap, ◌∙◌, true≢false, arith, nat_eq, nat_lt}
use Rattle.std.proofs.lemmas.Slice.Eq.{bytes_eq-Decides}
use Rattle.std.specs.List.{AllByRecursion, list_all}
use Rattle.std.specs.Option.{option_or}
use Rattle.std.specs.Prelude.{⊤, Result, Ok, Err, IfOk}
use Rattle.std.specs.Str.{bytes_eq, chars}
use Rattle.rx_value.specs.Fields.{Pair, Pairs}
use Rattle.rx_value.specs.Form.{is_among}
use Rattle.rx_value.specs.Name.{is_field_name}
use Rattle.rx_value.specs.Named.{named}
use Rattle.rx_value.specs.State.{mark}
use Rattle.rx_value.specs.declared.value.Value.{Value}
use Rattle.rx_value.specs.declared.value.Value.TheVariants as value
use Rattle.rx_schema.specs.Lawful.{IsSchema}
use Rattle.rx_schema.specs.Lent.{takes}
use Rattle.rx_schema.specs.Validity.{Fault, of_length, is_long_enough, unless_fits, fault_of, first_missing, first_unknown, first_bad, first_fault, outcome, missing, unknown, HasKey}
use Rattle.rx_schema.specs.declared.rule.Rule.{Rule}
use Rattle.rx_schema.specs.declared.rule.Rule.TheVariants.{Text}
use Rattle.rx_schema.specs.declared.shape.Shape.{Shape}
use Rattle.rx_schema.specs.declared.validity.Invalid.{Invalid}
use Rattle.rx_schema.proofs.Properties.{Rules}
use Rattle.rx_value.proofs.Outcomes.{none_or, none_mapped}

-- ---- no field that is unknown

-- one field that isn't bad, and then the others
known_step : (s : Shape) (p : Pair) (ps : Pairs) (is_key : Bool) (rule : Option Rule)
    → option_or (fault_of rule is_key p.0 p.1) (first_bad s ps) ≡ None
    → (first_bad s ps ≡ None → first_unknown s.properties ps ≡ None)
    → cond (is_none rule) (Some p.0) (first_unknown s.properties ps) ≡ None
known_step s p ps is_key None h rest = cc
known_step s p ps is_key (Some r) h rest = rest (none_or _ _ h).1

-- where no field is bad none is unknown
pub known : (s : Shape) (ps : Pairs) → first_bad s ps ≡ None → first_unknown s.properties ps ≡ None
known s [] h = refl
known s (p ∷ ps) h =
    known_step s p ps (bytes_eq p.0 s.primary) (named s.properties p.0) h (known s ps)

-- ---- valid in parts

-- either is none where both are
none_of_both : {A : Type 0} (a b : Option A) → is_none (option_or a b) ≡ (is_none a && is_none b)
none_of_both None b = refl
none_of_both (Some x) b = refl

-- no field is bad exactly where each is taken
none_bad : (s : Shape) (ps : Pairs)
    → is_none (first_bad s ps) ≡ list_all (λ p. takes s p.0 p.1) ps
none_bad s [] = refl
none_bad s (p ∷ ps) =
    none_of_both (fault_of (named s.properties p.0) (bytes_eq p.0 s.primary) p.0 p.1)
    (first_bad s ps)
    ∙ ap (λ b. takes s p.0 p.1 && b) (none_bad s ps)

-- what is unknown is bad too
parts_step : (lacking strange : Option (List ℕ)) (bad : Option Fault)
    → (bad ≡ None → strange ≡ None)
    → is_none (option_or (option_map missing lacking) (option_or (option_map unknown strange) bad))
    ≡ (is_none lacking && is_none bad)
parts_step (Some name) strange bad known_so = refl
parts_step None None bad known_so = refl
parts_step None (Some name) None known_so = let never = known_so refl in cc
parts_step None (Some name) (Some fault) known_so = refl

-- fields are valid exactly where each required name is among theirs and each field is taken
pub in_parts : (s : Shape) (ps : Pairs) → is_none (first_fault s ps)
    ≡ (is_none (first_missing s.required ps) && list_all (λ p. takes s p.0 p.1) ps)
in_parts s ps =
    parts_step (first_missing s.required ps) (first_unknown s.properties ps) (first_bad s ps)
    (known s ps)
    ∙ ap (λ b. is_none (first_missing s.required ps) && b) (none_bad s ps)

-- ---- no mark

-- one property, and then the others
name_step : (p : List ℕ × Rule) (rules : Rules) (k : List ℕ) (same : Bool) → bytes_eq k p.0 ≡ same
    → is_field_name p.0 ≡ true → is_none (cond same (Some p.1) (named rules k)) ≡ false
    → (is_none (named rules k) ≡ false → is_field_name k ≡ true) → is_field_name k ≡ true
name_step p rules k true is named_so h rest = ap is_field_name ((bytes_eq-Decides k p.0).0 is)
    ∙ named_so
name_step p rules k false is named_so h rest = rest h

-- a property has a field name
name_of : (rules : Rules) (k : List ℕ) → AllByRecursion (λ p. is_field_name p.0 ≡ true) rules
    → is_none (named rules k) ≡ false → is_field_name k ≡ true
name_of [] k all h = cc
name_of (p ∷ rules) k all h = name_step p rules k (bytes_eq k p.0) refl all.0 h
    (name_of rules k all.1)

-- one field, and then the others
mark_step : (rules : Rules) (p : Pair) (ps : Pairs) (strange same : Bool)
    → is_none (named rules p.0) ≡ strange → bytes_eq mark p.0 ≡ same
    → AllByRecursion (λ q. is_field_name q.0 ≡ true) rules
    → cond strange (Some p.0) (first_unknown rules ps) ≡ None
    → (first_unknown rules ps ≡ None → named ps mark ≡ None)
    → cond same (Some p.1) (named ps mark) ≡ None
mark_step rules p ps true same is at all h rest = cc
mark_step rules p ps false false is at all h rest = rest h
mark_step rules p ps false true is at all h rest =
    let name = name_of rules p.0 all is in
    let no : is_field_name mark ≡ false = refl in
    absurd (true≢false (sym name ∙ sym (ap is_field_name ((bytes_eq-Decides mark p.0).0 at)) ∙ no))

-- a field that is known isn't the mark
unmarked : (rules : Rules) (ps : Pairs) → AllByRecursion (λ p. is_field_name p.0 ≡ true) rules
    → first_unknown rules ps ≡ None → named ps mark ≡ None
unmarked rules [] all h = refl
unmarked rules (p ∷ ps) all h =
    mark_step rules p ps (is_none (named rules p.0)) (bytes_eq mark p.0) refl refl all h
    (unmarked rules ps all)

-- valid fields have no mark
pub no_mark : (s : Shape) (ps : Pairs) → IsSchema s → first_fault s ps ≡ None → named ps mark ≡ None
no_mark s ps schema h =
    let a = none_or (option_map missing (first_missing s.required ps)) _ h in
    let b = none_or (option_map unknown (first_unknown s.properties ps)) _ a.1 in
    unmarked s.properties ps schema.names (none_mapped unknown (first_unknown s.properties ps) b.0)

-- ---- the key

-- one name, and then the others
there_step : (n : List ℕ) (ps : Pairs) (k : List ℕ) (found : Option Value) (same : Bool)
    → named ps n ≡ found → bytes_eq n k ≡ same → (rest : Option (List ℕ)) (among : Bool)
    → cond (is_none found) (Some n) rest ≡ None → (same || among) ≡ true
    → (rest ≡ None → among ≡ true → (v : Value) × (named ps k ≡ Some v))
    → (v : Value) × (named ps k ≡ Some v)
there_step n ps k None same is at rest among h g later = cc
there_step n ps k (Some v) true is at rest among h g later =
    (v, ap (named ps) (sym ((bytes_eq-Decides n k).0 at)) ∙ is)
there_step n ps k (Some v) false is at rest among h g later = later h g

-- a required field is there
there : (names : List (List ℕ)) (ps : Pairs) (k : List ℕ) → first_missing names ps ≡ None
    → is_among names k ≡ true → (v : Value) × (named ps k ≡ Some v)
there [] ps k h g = cc
there (n ∷ names) ps k h g =
    there_step n ps k (named ps n) (bytes_eq n k) refl refl (first_missing names ps)
    (is_among names k) h g
    (λ i j. there names ps k i j)

-- one field, and then the others
fits_step : (s : Shape) (p : Pair) (ps : Pairs) (k : List ℕ) (v : Value) (same : Bool)
    → bytes_eq k p.0 ≡ same
    → fault_of (named s.properties p.0) (bytes_eq p.0 s.primary) p.0 p.1 ≡ None
    → cond same (Some p.1) (named ps k) ≡ Some v
    → (named ps k ≡ Some v → fault_of (named s.properties k) (bytes_eq k s.primary) k v ≡ None)
    → fault_of (named s.properties k) (bytes_eq k s.primary) k v ≡ None
fits_step s p ps k v true is h g rest =
    let name = (bytes_eq-Decides k p.0).0 is in
    let held : p.1 ≡ v = cc in
    rw (name, ← held) h
fits_step s p ps k v false is h g rest = rest g

-- a field of valid values fits its rule
fits : (s : Shape) (ps : Pairs) (k : List ℕ) (v : Value) → first_bad s ps ≡ None
    → named ps k ≡ Some v → fault_of (named s.properties k) (bytes_eq k s.primary) k v ≡ None
fits s [] k v h g = cc
fits s (p ∷ ps) k v h g =
    let a = none_or (fault_of (named s.properties p.0) (bytes_eq p.0 s.primary) p.0 p.1)
    (first_bad s ps) h in
    fits_step s p ps k v (bytes_eq k p.0) refl a.0 g (fits s ps k v a.1)

-- a text of the primary key isn't empty
not_empty : (n : ℕ) (a : Bool) → (a && not (true && nat_eq n 0)) ≡ true → 0 < n
not_empty zero true h = cc
not_empty zero false h = cc
not_empty (suc n) a h = omega arith

-- it fitted
fitting : (b : Bool) (f : Fault) → unless_fits b f ≡ None → b ≡ true
fitting true f h = refl
fitting false f h = cc

-- a value that fits a text's rule, of the primary key
text_of : (most : ℕ) (k : List ℕ) (v : Value) → fault_of (Some (Text most)) true k v ≡ None
    → (key : List ℕ) × (v ≡ value.Text key) × (0 < length (chars key))
text_of most k (value.Text key) h = (
  key,
  refl,
  not_empty (length (chars key)) (not (nat_lt most (length (chars key))))
      (fitting (is_long_enough most true key) (of_length k) h),
)
text_of most k _ h = cc

-- valid fields have a key
pub has_key : (s : Shape) (ps : Pairs) → IsSchema s → first_fault s ps ≡ None → HasKey ps s.primary
has_key s ps schema h =
    let a = none_or (option_map missing (first_missing s.required ps)) _ h in
    let b = none_or (option_map unknown (first_unknown s.properties ps)) _ a.1 in
    let missing_none = none_mapped missing (first_missing s.required ps) a.0 in
    let v = there s.required ps s.primary missing_none schema.required in
    let fit = fits s ps s.primary v.0 b.1 v.1 in
    let t = text_of schema.primary.0 s.primary v.0
    (rw (schema.primary.1, (bytes_eq-Decides s.primary s.primary).1 refl) at fit) in
    (t.0, v.1 ∙ ap Some t.1, t.2)

-- what holds of fields without a fault holds where the answer is good
pub when_good : {P : Type 0} (r : Result ⊤ Invalid) (f : Option Fault) → outcome r ≡ f
    → (f ≡ None → P)
    → IfOk r (λ _. P)
when_good (Ok u) f h g = g (sym h)
when_good (Err e) f h g = tt
