use Rattle.std.proofs.Common.{◌≡◌, Some, sym, ap, ◌∙◌, subst}
use Rattle.rx_value.specs.Named.{named}
use Rattle.rx_value.specs.declared.state.State.{State}
use Rattle.rx_value.specs.declared.value.Value.TheVariants.{Text}
use Rattle.rx_writes.proofs.states.remove_state.Goals as goal

-- the fields are those that were held
pub written_state-requires : goal.written_state-requires
written_state-requires g c =
    let primary = c.args.collection.now.schema.primary in
    record {
      carries = subst (λ (s : State). named s.fields primary ≡ Some (Text s.key))
          (sym c.live_state-state.ensures)
          (ap (λ ps. named ps primary) c.in_ok-copy.ensures
          ∙ c.in_ok-doc.ensures.carries ∙ ap (λ k. Some (Text k)) c.as_str.ensures);
    }
