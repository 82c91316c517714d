use Rattle.std.proofs.Common.{◌≡◌, List, ℕ, ◌∷◌, ◌++◌, true, false, map, take, Option, Some, ap, subst, ◌∙◌}
use Rattle.std.proofs.lemmas.List.{take_all}
use Rattle.rx_value.specs.Named.{named}
use Rattle.rx_value.specs.declared.value.Value.{Value}
use Rattle.rx_value.specs.declared.value.Value.TheVariants.{Flag, Text}
use Rattle.rx_index.specs.Packed.{value_bytes, values_bytes, is_lawful, AreLawful}
use Rattle.rx_index.proofs.Packing.{more_bytes, more_lawful, made_bytes, made_lawful}
use Rattle.rx_index.proofs.index.Index.key.Goals as goal

pub loop-field-preserved : goal.loop-field-preserved
loop-field-preserved c =
    let fields = c.args.document.now.state.fields in
    let mark : Option Value = Some (Flag c.args.document.now.state.deleted) in
    let value_of : List ℕ → Option Value = λ field. named fields field in
    let items = c.deref-field-items.result.now in
    let i = c.loop-field.field-index in
    let so = c.loop-field.bytes.items in
    let x = c.field-item.result in
    let value = c.get.ensures ∙ ap value_of c.as_str.ensures in
    record {
      bytes =
          made_bytes mark value_of items i x so c.put_value.new.bytes.items c.loop-field-test.true
          c.field-item.is c.loop-field.invariant.bytes
          (c.in_ok-put_value.ensures.bytes ∙ ap (λ o. so ++ value_bytes o) value);
      lawful =
          made_lawful mark value_of items i x c.loop-field-test.true c.field-item.is
          c.loop-field.invariant.lawful
          (subst (λ o. is_lawful o ≡ true) value c.in_ok-put_value.ensures.lawful);
    }

pub returns : goal.returns
returns c =
    let document = c.args.document.now in
    let mark : Option Value = Some (Flag document.state.deleted) in
    let value_of : List ℕ → Option Value = λ field. named document.state.fields field in
    let items = c.deref-field-items.result.now in
    let key : Option Value = Some (Text document.state.key) in
    let fields : take c.loop-field.field-index items ≡ c.args.self.now.fields =
    take_all c.loop-field.field-index items c.loop-field-test.false
    ∙ c.deref-field-items.ensures.value ∙ ap (λ i. i.fields) c.self.view_is in
    let front = mark ∷ map value_of c.args.self.now.fields in
    let text = c.as_str-2.ensures in
    record {
      lawful =
          more_lawful front key
          (subst (λ fs. AreLawful (mark ∷ map value_of fs)) fields c.loop-field.invariant.lawful)
          (subst (λ t. is_lawful (Some (Text t)) ≡ true) text c.in_ok-put_text.ensures.lawful);
      is =
          c.in_ok-new.ensures ∙ c.as_slice.ensures.value
          ∙ more_bytes front key c.loop-field.bytes.items c.put_text.new.bytes.items
          (c.loop-field.invariant.bytes
          ∙ ap (λ fs. values_bytes (mark ∷ map value_of fs) false) fields)
          (c.in_ok-put_text.ensures.bytes
          ∙ ap (λ t. c.loop-field.bytes.items ++ value_bytes (Some (Text t))) text);
    }
