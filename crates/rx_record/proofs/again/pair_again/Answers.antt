use Rattle.std.proofs.Common.{None}
use Rattle.rx_record.specs.Parts.{text_of, text_above}
use Rattle.rx_record.proofs.Reread.{first_is_read}
use Rattle.rx_record.proofs.again.pair_again.Goals as goal

pub text_again-requires : goal.text_again-requires
text_again-requires c =
    first_is_read (text_of c.args.bytes.now) _
    (first_is_read (text_above None c.args.bytes.now) _ c.requires)
