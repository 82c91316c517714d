use Rattle.std.proofs.Common.{◌≡◌, Some, true, sym, ap, ◌∙◌, subst}
use Rattle.rx_value.specs.Named.{named}
use Rattle.rx_value.specs.declared.state.State.{State}
use Rattle.rx_value.specs.declared.value.Value.TheVariants.{Text}
use Rattle.rx_writes.specs.Documents.{keeps_key, with_fields}
use Rattle.rx_writes.proofs.Setting.{set_carries}
use Rattle.rx_writes.proofs.states.patch_state.Goals as goal

-- the fields that are set keep the key
pub written_state-requires : goal.written_state-requires
written_state-requires g c =
    let primary = c.args.collection.now.schema.primary in
    let held = c.in_ok-doc.doc.now.state.fields in
    let more = c.in_ok-more.more in
    let keeps : keeps_key primary c.args.key more ≡ true =
    cc (
      c.keeps_key.ensures,
      c.primary.ensures,
      c.schema.ensures,
      c.as_str-2.ensures,
      c.if-not-keeps_key.false,
    ) in
    record {
      carries = subst (λ (s : State). named s.fields primary ≡ Some (Text s.key))
          (sym c.live_state-state.ensures)
          (ap (λ ps. named ps primary)
          (c.in_ok-set_fields.ensures ∙ ap (λ ps. with_fields ps more) c.in_ok-fields.ensures)
          ∙ set_carries primary c.args.key held more
          (c.in_ok-doc.ensures.carries ∙ ap (λ k. Some (Text k)) c.as_str.ensures) keeps);
    }
