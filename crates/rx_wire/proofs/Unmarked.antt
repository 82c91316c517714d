-- Valid fields have no mark, since a property's name begins with a letter.
use Rattle.std.proofs.Common.{◌≡◌, ℕ, Bool, true, false, cond, List, [], ◌∷◌, Some, None, is_none, option_map, Ok, refl, sym, ap, ◌∙◌, true≢false}
use Rattle.std.proofs.lemmas.Slice.Eq.{bytes_eq-Decides}
use Rattle.std.specs.List.{AllByRecursion}
use Rattle.std.specs.Str.{bytes_eq}
use Rattle.serde_json.specs.Data.{Data}
use Rattle.rx_value.specs.Fields.{Pair, Pairs}
use Rattle.rx_value.specs.Name.{is_field_name}
use Rattle.rx_value.specs.Named.{named}
use Rattle.rx_value.specs.State.{mark}
use Rattle.rx_value.proofs.Outcomes.{none_or, none_mapped}
use Rattle.rx_schema.specs.Reading.{schema_of}
use Rattle.rx_schema.specs.Validity.{missing, unknown, first_missing, first_unknown, first_fault}
use Rattle.rx_schema.specs.declared.rule.Rule.{Rule}
use Rattle.rx_schema.specs.declared.shape.Shape.{Shape}
use Rattle.rx_schema.proofs.Properties.{Rules}
use Rattle.rx_schema.proofs.Schemas.{was_read, field_names}

-- one property, and then the others
mark_rule : (p : List ℕ × Rule) (rules : Rules) (same : Bool) → bytes_eq mark p.0 ≡ same
    → is_field_name p.0 ≡ true → named rules mark ≡ None
    → cond same (Some p.1) (named rules mark) ≡ None
mark_rule p rules false is name rest = rest
mark_rule p rules true is name rest =
    let no : is_field_name mark ≡ false = refl in
    absurd (true≢false
    (sym name ∙ sym (ap is_field_name ((bytes_eq-Decides mark p.0).0 is)) ∙ no))

-- no property has the mark's name
no_rule : (rules : Rules) → AllByRecursion (λ p. is_field_name p.0 ≡ true) rules
    → named rules mark ≡ None
no_rule [] all = refl
no_rule (p ∷ rules) all =
    mark_rule p rules (bytes_eq mark p.0) refl all.0 (no_rule rules all.1)

-- one field, and then the others
known_field : (rules : Rules) (k : List ℕ) (p : Pair) (ps : Pairs) (strange same : Bool)
    → is_none (named rules p.0) ≡ strange → bytes_eq k p.0 ≡ same → named rules k ≡ None
    → cond strange (Some p.0) (first_unknown rules ps) ≡ None
    → (first_unknown rules ps ≡ None → named ps k ≡ None)
    → cond same (Some p.1) (named ps k) ≡ None
known_field rules k p ps true same is at none h rest = cc
known_field rules k p ps false false is at none h rest = rest h
known_field rules k p ps false true is at none h rest =
    absurd (true≢false
    (sym (ap is_none none)
    ∙ ap (λ n. is_none (named rules n)) ((bytes_eq-Decides k p.0).0 at) ∙ is))

-- what is no property is no field
not_there : (rules : Rules) (k : List ℕ) (ps : Pairs) → named rules k ≡ None
    → first_unknown rules ps ≡ None → named ps k ≡ None
not_there rules k [] none h = refl
not_there rules k (p ∷ ps) none h =
    known_field rules k p ps (is_none (named rules p.0)) (bytes_eq k p.0) refl refl none h
    (not_there rules k ps none)

-- valid fields have no mark
pub unmarked : (d : Data) (s : Shape) (ps : Pairs) → schema_of d ≡ Ok s → first_fault s ps ≡ None
    → named ps mark ≡ None
unmarked d s ps said h =
    let read = was_read d s said in
    let a = none_or (option_map missing (first_missing s.required ps)) _ h in
    let b = none_or (option_map unknown (first_unknown s.properties ps)) _ a.1 in
    not_there s.properties mark ps
    (no_rule s.properties (field_names read.members s.properties read.properties))
    (none_mapped unknown (first_unknown s.properties ps) b.0)
