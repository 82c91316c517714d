-- What hooks leave of a state that is to be written.
use Rattle.std.specs.Prelude.{⊤}
use Rattle.std.proofs.Common.{◌≡◌, List, Option, Some, None, Result, Ok, Err, refl, sym, ap, ◌∙◌, subst}
use Rattle.rx_value.specs.Due.{◌>>◌, lifted, unless}
use Rattle.rx_value.specs.Named.{named}
use Rattle.rx_value.specs.declared.state.State.{State}
use Rattle.rx_value.specs.declared.value.Value.TheVariants.{Text}
use Rattle.rx_value.proofs.Outcomes.{ok_then}
use Rattle.rx_schema.specs.Validity.{Fault as Invalidity, first_fault}
use Rattle.rx_collection.specs.Held.{Held}
use Rattle.rx_update.specs.Attached.{hooked_all}
use Rattle.rx_update.specs.declared.attached.Attached.{Attached}
use Rattle.rx_update.specs.declared.attached.When.{When}
use Rattle.rx_update.proofs.Standing.{texts, which}
use Rattle.rx_world.specs.Step.{IsValidState}
use Rattle.rx_world.proofs.States.{valid_state}
use Rattle.rx_writes.specs.Documents.{valid_by}
use Rattle.rx_writes.specs.Faults.{of_document, of_invalidity, of_veto}
use Rattle.rx_writes.specs.States.{written_state}
use Rattle.rx_writes.specs.declared.fault.Fault.{Fault}

pub lifted_ok : {A E F : Type 0} (f : E → F) (r : Result A E) (x : A) → lifted f r ≡ Ok x → r ≡ Ok x
lifted_ok f (Ok y) x h = cc
lifted_ok f (Err e) x h = cc

no_fault : (fault : Invalidity → Fault) (o : Option Invalidity) (u : ⊤)
    → unless fault o (Ok tt) ≡ Ok u → o ≡ None
no_fault fault None u h = refl
no_fault fault (Some x) u h = cc

module _ (c : Held) (when : When) (hooks : List Attached) (s t : State) where
  -- it is valid, and has the key of the one before the hooks
  pub record IsWritten : Type 0 where
    pub key : t.key ≡ s.key
    pub carries : named t.fields c.schema.primary ≡ Some (Text s.key)
    pub valid : IsValidState c.schema t

  pub after_hooks : named s.fields c.schema.primary ≡ Some (Text s.key)
      → hooked_all c.name when hooks s ≡ Ok t → first_fault c.schema t.fields ≡ None → IsWritten
  after_hooks at went valid =
      let same = which c.name when hooks s t went in
      let carries = texts c.name when hooks s t c.schema.primary s.key at went in
      record {
        key = same.0;
        carries = carries;
        valid = valid_state c.schema t valid
            (carries ∙ ap (λ k. Some (Text k)) (sym same.0));
      }

pub hooked_valid : (c : Held) (when : When) (hooks : List Attached) (s t : State)
    → named s.fields c.schema.primary ≡ Some (Text s.key) → written_state c when hooks s ≡ Ok t
    → IsWritten c when hooks s t
hooked_valid c when hooks s t at h =
    let hooked = ok_then (lifted of_veto (hooked_all c.name when hooks s))
    (λ hooked. valid_by c.schema hooked.fields >> λ _. Ok hooked) t h in
    let valid = ok_then (valid_by c.schema hooked.0.fields) (λ _. Ok hooked.0) t hooked.2 in
    let is : hooked.0 ≡ t = cc (valid.2) in
    subst (IsWritten c when hooks s) is
    (after_hooks c when hooks s hooked.0 at
    (lifted_ok of_veto (hooked_all c.name when hooks s) hooked.0 hooked.1)
    (no_fault (λ fault. of_document (of_invalidity fault))
    (first_fault c.schema hooked.0.fields) valid.0 valid.1))
