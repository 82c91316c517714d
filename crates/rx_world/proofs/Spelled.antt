-- The canonical text of a schema.
use Rattle.std.proofs.Common.{◌≡◌, ℕ, true, false, cond, List, Some, None, option_and_then, Result, Ok, Err, refl, sym, ap, ◌∙◌}
use Rattle.std.proofs.lemmas.Slice.Eq.{bytes_eq-Decides}
use Rattle.std.specs.Str.{bytes_eq}
use Rattle.rx_value.proofs.Outcomes.{some_same, not_none}
use Rattle.serde_json.specs.Read.{read}
use Rattle.rx_schema.specs.Reading.{schema_of}
use Rattle.rx_schema.specs.Writing.{canonical_text}
use Rattle.rx_schema.specs.declared.fault.SchemaFault.{SchemaFault}
use Rattle.rx_schema.specs.declared.shape.Shape.{Shape}
use Rattle.rx_world.specs.Schema.{if_canonical, schema_in}

spelled_by : (text : List ℕ) (s : Shape) (r : Result Shape SchemaFault)
    → if_canonical text r ≡ Some s
    → canonical_text s ≡ text
spelled_by text s (Ok t) is =
    elim (bytes_eq (canonical_text t) text) as (λ b. bytes_eq (canonical_text t) text ≡ b
    → cond b (Some t) None ≡ Some s → canonical_text s ≡ text) [
      | true ↦ (λ h is.
          ap canonical_text (sym (some_same is)) ∙ (bytes_eq-Decides (canonical_text t) text).0 h)
      | false ↦ (λ h is. not_none is)
    ] refl is
spelled_by text s (Err e) is = not_none is

-- a text is the canonical one of its schema
pub read_spelled : (text : List ℕ) (s : Shape) → schema_in text ≡ Some s → canonical_text s ≡ text
read_spelled text s is =
    elim (read text) as (λ o. option_and_then (λ d. if_canonical text (schema_of d)) o ≡ Some s
    → canonical_text s ≡ text) [
      | None ↦ (λ none. not_none none)
      | Some d ↦ (λ some. spelled_by text s (schema_of d) some)
    ] is
