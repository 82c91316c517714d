-- What holds of a document that is live.
use Rattle.std.proofs.Common.{◌≡◌, ℕ, List, true, false, cond, Option, Some, None, Ok, ap, ◌∙◌}
use Rattle.rx_value.specs.Due.{or_fault}
use Rattle.rx_value.specs.Named.{named}
use Rattle.rx_value.specs.declared.value.Value.TheVariants.{Text}
use Rattle.rx_schema.specs.Validity.{first_fault}
use Rattle.rx_document.specs.declared.stored.Stored.{Stored}
use Rattle.rx_collection.specs.Held.{Held}
use Rattle.rx_collection.specs.Lawful.{IsHeldAt, IsLawful}
use Rattle.rx_collection.proofs.Named.{at_name}
use Rattle.rx_reply.specs.declared.refusal.Refusal.TheVariants.{NoDocument}
use Rattle.rx_world.specs.Valid.{AreValid}
use Rattle.rx_writes.specs.Documents.{if_live, document_at}
use Rattle.rx_writes.specs.declared.fault.Fault.TheVariants.{Refused}

-- it is held
held_as : (o : Option Stored) (d : Stored) → or_fault (Refused NoDocument) (if_live o) ≡ Ok d
    → o ≡ Some d
held_as None d h = cc
held_as (Some x) d h =
    elim x.state.deleted
    as (λ b. or_fault (Refused NoDocument) (cond b None (Some x)) ≡ Ok d → Some x ≡ Some d) [
      | true ↦ (λ e. cc)
      | false ↦ (λ e. cc)
    ] h

module _ (c : Held) (key : List ℕ) (d : Stored) (live : document_at c key ≡ Ok d) where
  -- its fields hold its key
  pub document_carries : IsLawful c → named d.state.fields c.schema.primary ≡ Some (Text key)
  document_carries lawful =
      let held = at_name (IsHeldAt c.schema.primary) c.documents key d lawful.each
      (held_as (named c.documents key) d live) in
      held.carried ∙ ap (λ k. Some (Text k)) held.keyed

  -- and are valid
  pub document_valid : AreValid c → first_fault c.schema d.state.fields ≡ None
  document_valid valid =
      at_name (λ k e. first_fault c.schema e.state.fields ≡ None) c.documents key d valid
      (held_as (named c.documents key) d live)
