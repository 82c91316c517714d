use Rattle.std.proofs.Common.{◌≡◌, ◌++◌, true, false, [], sym, ap, subst, ◌∙◌, append-nil}
use Rattle.std.proofs.lemmas.List.{take_all}
use Rattle.rx_index.specs.Packed.{value_bytes, values_bytes, is_lawful}
use Rattle.rx_index.proofs.Packing.{next_bytes, next_lawful, values_bytes-append}
use Rattle.rx_index.proofs.packed.name_of.Goals as goal

pub loop-value-preserved : goal.loop-value-preserved
loop-value-preserved c =
    let so = c.loop-value.bytes.items in
    let x = c.value-item.result in
    record {
      bytes =
          next_bytes c.args.values.now c.loop-value.value-index x so c.put_value.new.bytes.items
          c.loop-value-test.true c.value-item.is c.loop-value.invariant.bytes
          (c.in_ok-put_value.ensures.bytes ∙ ap (λ o. so ++ value_bytes o) c.as_ref.ensures.value);
      lawful =
          next_lawful c.args.values.now c.loop-value.value-index x c.loop-value-test.true
          c.value-item.is c.loop-value.invariant.lawful
          (subst (λ o. is_lawful o ≡ true) c.as_ref.ensures.value c.in_ok-put_value.ensures.lawful);
    }

pub returns-clause-name : goal.returns-clause-name
returns-clause-name c =
    let values = c.args.values.now in
    c.in_ok-new.ensures ∙ c.as_slice.ensures.value ∙ c.in_ok-put_end.ensures
    ∙ ap (λ bs. bs ++ values_bytes [] c.args.after)
    (c.loop-value.invariant.bytes
    ∙ ap (λ vs. values_bytes vs false)
    (take_all c.loop-value.value-index values c.loop-value-test.false))
    ∙ sym (values_bytes-append values [] c.args.after)
    ∙ ap (λ vs. values_bytes vs c.args.after) (append-nil values)
