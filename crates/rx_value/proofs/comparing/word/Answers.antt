use Rattle.rx_value.proofs.Settling.{halves_are}
use Rattle.rx_value.proofs.comparing.word.Goals as goal

pub returns : goal.returns
returns c =
    halves_are c.args.bytes.now c.args.i c.half.result c.half-2.result c.requires
    c.half.ensures.value c.half-2.ensures.value
