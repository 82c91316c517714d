use Rattle.std.proofs.Common.{◌∙◌}
use Rattle.core.proofs.cmp.Settled.{four_are}
use Rattle.rx_value.proofs.comparing.half.Goals as goal

pub returns : goal.returns
returns c = record {
  value = c.from_be_bytes.ensures ∙ four_are c.args.bytes.now c.args.i c.requires;
  bound = c.from_be_bytes.type_inv;
}
