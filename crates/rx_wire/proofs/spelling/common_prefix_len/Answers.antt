use Rattle.std.proofs.Common.{drop, length-drop, arith}
use Rattle.std.proofs.lemmas.List.Sums.{common_prefix_len-le}
use Rattle.std.specs.Prelude.{nat_eq}
use Rattle.rx_wire.proofs.spelling.common_prefix_len.Goals as goal

-- at the end of one text nothing is left to compare
pub returns : goal.returns
returns c =
    let text = c.args.text.now in
    let line = c.args.line.now in
    let left = common_prefix_len-le nat_eq (drop c.loop-i.i text) (drop c.loop-i.i line) in
    omega (
      arith,
      left.0,
      left.1,
      length-drop c.loop-i.i text,
      length-drop c.loop-i.i line,
      c.loop-i.invariant,
    )
