use Rattle.std.proofs.Common.{◌≡◌, Some, sym, ap, ◌∙◌, subst}
use Rattle.serde_json.specs.View.{view}
use Rattle.rx_value.specs.Named.{named}
use Rattle.rx_value.specs.declared.state.State.{State}
use Rattle.rx_value.specs.declared.value.Value.TheVariants.{Text}
use Rattle.rx_update.proofs.Keyless.{leaves_key}
use Rattle.rx_writes.proofs.states.update_state.Goals as goal

-- an update leaves the document its key
pub written_state-requires : goal.written_state-requires
written_state-requires g c =
    let primary = c.args.collection.now.schema.primary in
    let held = c.in_ok-doc.doc.now.state.fields in
    let fields = c.in_ok-fields.fields in
    let is : c.primary.result.now ≡ primary = cc (c.primary.ensures, c.schema.ensures) in
    record {
      carries = subst (λ (s : State). named s.fields primary ≡ Some (Text s.key))
          (sym c.live_state-state.ensures)
          (subst (λ k. named fields k ≡ named held k) is
          (leaves_key c.primary.result.now (view c.args.update.now) c.in_ok-update.update held
          fields c.in_ok-update.ensures c.in_ok-fields.ensures)
          ∙ c.in_ok-doc.ensures.carries ∙ ap (λ k. Some (Text k)) c.as_str.ensures);
    }
