use Rattle.std.proofs.Common.{None, ◌∙◌, w32}
use Rattle.rx_value.specs.Fields.{Pair}
use Rattle.rx_record.specs.Parts.{number_of}
use Rattle.rx_record.specs.Fields.{pair_bytes, pair_of}
use Rattle.rx_record.specs.Views.{pair_in}
use Rattle.rx_record.proofs.Lists.{first_read}
use Rattle.rx_record.proofs.Reread.{second_is_read, pair_free, past}
use Rattle.rx_record.proofs.again.behind_fields.Goals as goal

pub loop-left-init : goal.loop-left-init
loop-left-init c = record {
  read = second_is_read (number_of w32 c.args.bytes.now) _ c.in-Ok.count c.in-Ok.pairs.now
      c.in-Ok.ensures c.requires;
  end = rw c.in-Ok.ensures;
}

pub pair_again-requires : goal.pair_again-requires
pair_again-requires c =
    first_read pair_bytes (λ p. p.0) pair_of c.loop-left.left None c.loop-left.rest.now
    c.loop-left-test.true c.loop-left.invariant.read

pub loop-left-preserved : goal.loop-left-preserved
loop-left-preserved c =
    let next = past (λ (p : Pair). p.0) pair_of pair_free c.loop-left.left c.loop-left.rest.now
    (pair_in c.pair_again.result.0) c.pair_again.result.1.now c.loop-left-test.true
    c.pair_again.ensures c.loop-left.invariant.read in
    record { read = next.read; end = c.loop-left.invariant.end ∙ next.end }
