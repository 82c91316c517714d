use Rattle.std.proofs.Common.{◌∙◌, option_map}
use Rattle.rx_record.specs.Fields.{pair_bytes, pair_of}
use Rattle.rx_record.specs.Views.{pair_in}
use Rattle.rx_record.proofs.Lists.{after_step}
use Rattle.rx_record.proofs.pairs.skip_pairs.Goals as goal

pub loop-left-preserved : goal.loop-left-preserved
loop-left-preserved c =
    c.loop-left.invariant
    ∙ after_step pair_bytes (λ p. p.0) pair_of c.loop-left.left
    (option_map (λ t. t.now) c.loop-left.last)
    c.loop-left.rest.now
    (pair_in c.in_ok-pair.pair) c.in_ok-pair.behind.now c.loop-left-test.true c.in_ok-pair.ensures
