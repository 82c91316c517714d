use Rattle.rx_record.proofs.Reread.{text_value}
use Rattle.rx_record.proofs.again.value_again.Goals as goal

pub text_again-requires : goal.text_again-requires
text_again-requires c =
    text_value c.args.bytes.now c.in-Ok.rest.now c.in-Ok.kind c.in-Ok.ensures
    c.if-kind-eq-TEXT.true c.requires
