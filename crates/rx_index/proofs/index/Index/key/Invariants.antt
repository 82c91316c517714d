use Rattle.std.proofs.Common.{◌≡◌, ◌∷◌, false, map, take, Some}
use Rattle.rx_value.specs.Named.{named}
use Rattle.rx_value.specs.declared.value.Value.TheVariants.{Flag}
use Rattle.rx_index.specs.Packed.{values_bytes, AreLawful}
use Rattle.rx_index.proofs.index.Index.key.Given as goal

-- the mark and the fields so far
abbrev pub invariant-loop-field : goal.invariant-loop-field
invariant-loop-field l = record {
  bytes : l.bytes.items
      ≡ values_bytes (Some (Flag l.document.state.deleted)
      ∷ map (λ field. named l.document.state.fields field) (take l.field-index l.field-items))
      false;
  lawful : AreLawful (Some (Flag l.document.state.deleted)
      ∷ map (λ field. named l.document.state.fields field) (take l.field-index l.field-items));
}
