use Rattle.std.proofs.Common.{◌≡◌, true, List, ℕ, ◌++◌, take, ap, sym, ◌∙◌, subst, append_assoc, arith}
use Rattle.rx_value.specs.Value.{is_value}
use Rattle.rx_value.proofs.Lists.{all_get}
use Rattle.rx_record.specs.Parts.{text_bytes, text_of}
use Rattle.rx_record.specs.Fields.{value_bytes, pair_bytes, all_bytes}
use Rattle.rx_record.specs.Writable.{ShortReadsBack}
use Rattle.rx_record.proofs.Written.{one_more, all_more, PairReadsBack, pair_reads_back, fields_read_back}
use Rattle.rx_record.proofs.writing.put_fields.Goals as goal

pub put_value-requires : goal.put_value-requires
put_value-requires c =
    all_get (λ p. is_value p.1 ≡ true) c.args.fields.now c.loop-i.i
    (c.at.result.0.now, c.at.result.1.now) c.len-i-end.ensures.lawful.in_range c.at.ensures

pub loop-i-preserved : goal.loop-i-preserved
loop-i-preserved c =
    let fields = c.args.fields.now in
    let name = c.at.result.0.now in
    let value = c.at.result.1.now in
    let before = c.put_count.new.out.items in
    let front = all_bytes pair_bytes (take c.loop-i.i fields) in
    record {
      bytes =
          c.in_ok-put_value.ensures.bytes
          ∙ ap (λ (l : List ℕ). l ++ value_bytes value)
          (c.in_ok-put_text.ensures.bytes
          ∙ ap (λ (l : List ℕ). l ++ text_bytes c.as_str.result.now) c.loop-i.invariant.bytes
          ∙ ap (λ (t : List ℕ). (before ++ front) ++ text_bytes t) c.as_str.ensures)
          ∙ append_assoc (before ++ front) (text_bytes name) (value_bytes value)
          ∙ append_assoc before front (pair_bytes (name, value))
          ∙ ap (λ (l : List ℕ). before ++ l)
          (sym (one_more pair_bytes fields c.loop-i.i (name, value) c.at.ensures));
      back =
          all_more PairReadsBack fields c.loop-i.i
          (name, value) c.at.ensures c.loop-i.invariant.back
          (pair_reads_back (name, value)
          (subst (ShortReadsBack text_bytes text_of) c.as_str.ensures c.in_ok-put_text.ensures.back)
          c.in_ok-put_value.ensures.back);
    }

pub returns-clause-back : goal.returns-clause-back
returns-clause-back c =
    fields_read_back c.args.fields.now c.loop-i.i
    (omega (arith, c.loop-i-test.false, c.len-i-end.ensures)) c.len-i-end.ensures.lawful.rising
    c.loop-i.invariant.back
