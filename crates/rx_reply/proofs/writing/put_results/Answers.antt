use Rattle.std.proofs.Common.{◌≡◌, ℕ, ◌+◌, List, ◌∷◌, ◌++◌, drop, Some, slice_get, ap, sym, ◌∙◌, add-one, refl, drop-cons, append_assoc}
use Rattle.std.proofs.lemmas.Option.{slice_get_within, get_or_from_slice_get}
use Rattle.rx_value.specs.Writing.{fields_data}
use Rattle.rx_reply.specs.Emission.{rows_fields}
use Rattle.rx_reply.proofs.Tokens.{of_items}
use Rattle.rx_reply.proofs.writing.put_results.Goals as goal

-- the items from one on
left : {X : Type 0} (xs : List X) (i : ℕ) (x : X) → slice_get xs i ≡ Some x
    → drop i xs ≡ x ∷ drop (i + 1) xs
left xs i x at =
    drop-cons xs i x (slice_get_within xs i x at)
    ∙ rw (get_or_from_slice_get xs i x x at, add-one) refl

pub loop-i-preserved : goal.loop-i-preserved
loop-i-preserved c =
    let here = left c.args.rows.now c.loop-i.i c.row.result.now c.row.ensures in
    let rest = of_items fields_data (rows_fields (drop (c.loop-i.i + 1) c.args.rows.now)) in
    record {
      before = c.in_ok-put_fields.ensures.before ∙ c.loop-i.invariant.before;
      tokens = c.loop-i.invariant.tokens
          ∙ ap (λ rows. c.loop-i.writer.tokens ++ of_items fields_data (rows_fields rows)) here
          ∙ sym (rw c.in_ok-put_fields.ensures.tokens (simp append_assoc));
    }
